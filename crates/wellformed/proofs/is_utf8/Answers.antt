-- `is_utf8` meets its contract: what is passed over is UTF-8 by itself, so that what is left gives the whole answer. The measure
-- is what is left.
use mathlib.Core.Path.{refl}
use native.Mathlib.Omega.{arith}
use Rattle.wellformed.proofs.Passing.{passed_none, passed_on, passed-char, passed-end, no_char}
use Rattle.wellformed.proofs.is_utf8.Goals as goal

pub loop-i-init : goal.loop-i-init
loop-i-init c = passed_none _ _ (omega arith)

pub ascii_blocks-blocks-requires : goal.ascii_blocks-blocks-requires
ascii_blocks-blocks-requires c = c.loop-i.invariant.high

pub ascii_eights-i-requires : goal.ascii_eights-i-requires
ascii_eights-i-requires c = c.ascii_blocks-blocks.ensures.high

pub returns-in_default : goal.returns-in_default
returns-in_default c =
    let p = passed_on _ (passed_on _ c.loop-i.invariant c.ascii_blocks-blocks.ensures) c.ascii_eights-i.ensures in
    no_char _ _ p c.if-i-s.true _ refl c.in_default.ensures

pub overflow_add-i : goal.overflow_add-i
overflow_add-i c =
    let p = passed-char _ c.ascii_eights-i.ensures c.if-i-s.true _ c.in-Some.ensures.0 (λ z. omega (arith, z, c.in-Some.ensures.1)) in
    omega (arith, p.high)

pub loop-i-smaller-then-i-s : goal.loop-i-smaller-then-i-s
loop-i-smaller-then-i-s c =
    let p = c.ascii_blocks-blocks.ensures.low in
    let q = c.ascii_eights-i.ensures.low in
    omega (arith, p, q, c.in-Some.ensures.1)

pub loop-i-preserved-then-i-s : goal.loop-i-preserved-then-i-s
loop-i-preserved-then-i-s c =
    let p = passed_on _ (passed_on _ c.loop-i.invariant c.ascii_blocks-blocks.ensures) c.ascii_eights-i.ensures in
    passed-char _ p c.if-i-s.true _ c.in-Some.ensures.0 (λ z. omega (arith, z, c.in-Some.ensures.1))

pub loop-i-preserved : goal.loop-i-preserved
loop-i-preserved c = passed_on _ (passed_on _ c.loop-i.invariant c.ascii_blocks-blocks.ensures) c.ascii_eights-i.ensures

pub returns : goal.returns
returns c = passed-end _ _ c.loop-i.invariant c.loop-i-test.false
