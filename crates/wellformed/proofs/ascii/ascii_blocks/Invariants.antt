-- `ascii_blocks` meets its contract: each block that is passed over is ASCII.
use lib.ListN.{length}
use Prim.Native.Nat.{◌-◌}
use Rattle.wellformed.specs.Ascii.{Passed}
use Rattle.wellformed.proofs.ascii.ascii_blocks.Given as goal

abbrev pub invariant-loop-block : goal.invariant-loop-block
invariant-loop-block l = Passed l.s l.from l.at

abbrev pub decreases-loop-block : goal.decreases-loop-block
decreases-loop-block l = length l.s - l.at
