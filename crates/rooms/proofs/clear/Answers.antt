-- `clear` meets its contract: one item more.
use native.Mathlib.Omega.{arith}
use Rattle.rooms.proofs.Clearing.{clear-more}
use Rattle.rooms.proofs.clear.Goals as goal

pub loop-x-preserved : goal.loop-x-preserved
loop-x-preserved g c = clear-more _ _ _ _ c.loop-x.invariant (omega arith)
