-- `ascii_eights` meets its contract: what is passed over is ASCII. The measure is what is left.
use native.Mathlib.Omega.{arith}
use Rattle.wellformed.proofs.Passing.{passed_none, passed_on, passed_first, passed-eight}
use Rattle.wellformed.proofs.ascii.ascii_eights.Goals as goal

pub loop-eight-init : goal.loop-eight-init
loop-eight-init c = passed_none _ _ c.requires

pub overflow_add-result : goal.overflow_add-result
overflow_add-result c =
    let w = passed_first _ c.loop-eight.invariant c.in-Some.eight.now c.in-Some.ensures.cases _ c.highs_of-bits.ensures _ c.first_mark.ensures in
    omega (arith, w.high)

pub returns-then-bits-ne0 : goal.returns-then-bits-ne0
returns-then-bits-ne0 c = passed_first _ c.loop-eight.invariant c.in-Some.eight.now c.in-Some.ensures.cases _ c.highs_of-bits.ensures _ c.first_mark.ensures

pub loop-eight-preserved : goal.loop-eight-preserved
loop-eight-preserved c = passed-eight _ c.loop-eight.invariant c.in-Some.eight.now c.in-Some.ensures.cases _ c.highs_of-bits.ensures c.if-bits-ne0.false

pub returns : goal.returns
returns c = passed_on _ c.loop-eight.invariant c.ascii_bytes.ensures
