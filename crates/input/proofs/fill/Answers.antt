-- `fill` meets its contract: each read puts what comes next behind what is there.
use Rattle.std.proofs.Common.{arith, refl}
use Rattle.input.proofs.Fills.{read_more}
use Rattle.input.proofs.fill.Goals as goal

pub loop-at-preserved : goal.loop-at-preserved
loop-at-preserved g c = (
  omega (arith, c.in_ok-n.ensures.bound.0),
  read_more _ _ _ _ _ _ _ c.in_ok-n.n _ c.loop-at.invariant.0 c.in_ok-n.ensures.bound.0 refl c.loop-at.invariant.1 c.in_ok-n.ensures.bytes.0,
)
