-- `ascii_eights` meets its contract: what is passed over is ASCII. The measure is what is left.
use Prim.Native.Nat.{◌-◌}
use lib.ListN.{length}
use Rattle.wellformed.specs.Ascii.{Passed}
use Rattle.wellformed.proofs.ascii.ascii_eights.Given as goal

abbrev pub invariant-loop-eight : goal.invariant-loop-eight
invariant-loop-eight l = Passed l.s l.from l.at

abbrev pub decreases-loop-eight : goal.decreases-loop-eight
decreases-loop-eight l = length l.s - l.at
