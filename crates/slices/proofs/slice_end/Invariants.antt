-- `slice_end` meets its contract. The loop's invariant: i bytes of the first slice are passed. The measure is what is left of all.
use Prim.Native.Nat.{◌-◌}
use lib.ListN.{length}
use Rattle.slices.specs.Slices.{slice_length}
use Rattle.slices.proofs.Ends.{At}
use Rattle.slices.proofs.slice_end.Given as goal

abbrev pub invariant-loop-eight : goal.invariant-loop-eight
invariant-loop-eight l = At l.s (slice_length l.s) l.i

abbrev pub decreases-loop-eight : goal.decreases-loop-eight
decreases-loop-eight l = length l.s - l.i
