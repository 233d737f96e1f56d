-- `standard_end` meets its contract. The invariant: no byte ends the slice before i. The measure is what is left.
use Prim.Native.Nat.{◌-◌}
use lib.ListN.{length}
use Rattle.slices.specs.Slices.{is_start, standard_length}
use Rattle.slices.proofs.Searches.{Goes}
use Rattle.slices.proofs.standard_end.Given as goal

abbrev pub invariant-loop-eight : goal.invariant-loop-eight
invariant-loop-eight l = Goes is_start l.s (standard_length l.s) l.i

abbrev pub decreases-loop-eight : goal.decreases-loop-eight
decreases-loop-eight l = length l.s - l.i
