-- `standard_end` meets its contract. The invariant: no byte ends the slice before i. The measure is what is left.
use mathlib.Core.Path.{sym, ◌∙◌}
use native.Mathlib.Omega.{arith}
use Rattle.slices.proofs.Searches.{goes-eight, goes-few, goes-found}
use Rattle.slices.proofs.Standard.{standard-within, standard-some}
use Rattle.slices.proofs.standard_end.Goals as goal

pub overflow_add-result : goal.overflow_add-result
overflow_add-result c = let k = goes-few _ _ _ c.loop-eight.invariant c.in-Some.eight.now c.in-Some.ensures.cases _ c.starts_of-marks.ensures _ c.if-marks-ne0.true c.first_mark.ensures in omega (arith, k)

pub returns-then-marks-ne0 : goal.returns-then-marks-ne0
returns-then-marks-ne0 c =
    let s = c.args.s.now in
    let e = goes-found _ _ _ c.loop-eight.invariant c.in-Some.eight.now c.in-Some.ensures.cases _ c.starts_of-marks.ensures _ c.if-marks-ne0.true c.first_mark.ensures in
    record { length = e; within = omega (arith, e, standard-within s); some = λ h. omega (arith, e, standard-some s h) }

pub loop-eight-preserved : goal.loop-eight-preserved
loop-eight-preserved c = goes-eight _ _ _ c.loop-eight.invariant c.in-Some.eight.now c.in-Some.ensures.cases _ c.starts_of-marks.ensures c.if-marks-ne0.false

pub returns : goal.returns
returns c =
    let s = c.args.s.now in
    let e = c.start_from.ensures ∙ sym c.loop-eight.invariant.ends in
    record { length = e; within = omega (arith, e, standard-within s); some = λ h. omega (arith, e, standard-some s h) }
