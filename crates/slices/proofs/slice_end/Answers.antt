-- `slice_end` meets its contract. The loop's invariant: i bytes of the first slice are passed. The measure is what is left of all.
use mathlib.Core.Path.{sym, ◌∙◌}
use native.Mathlib.Omega.{arith}
use borrow.Author.Rules.{rules}
use Rattle.slices.proofs.Ends.{end_short, ends-here, at-start, at_more, passed, found, found-ends, found-more}
use Rattle.slices.proofs.Slices.{slice-within}
use Rattle.slices.proofs.slice_end.Goals as goal

pub returns-then-s-lt2-clause-length : goal.returns-then-s-lt2-clause-length
returns-then-s-lt2-clause-length c = search (end_short, rules)

pub returns-then-starts_slice-clause-length : goal.returns-then-starts_slice-clause-length
returns-then-starts_slice-clause-length c =
    ends-here c.args.s.now _ _ 1 _ c.starts_slice.ensures (omega arith) (at-start c.args.s.now (omega arith)).ends c.if-starts_slice.true

pub loop-eight-init : goal.loop-eight-init
loop-eight-init c = at_more _ _ _ c.starts_slice.ensures (at-start _ (omega arith)) (omega arith) c.if-starts_slice.false

pub loop-eight-preserved-then-marks-eq0 : goal.loop-eight-preserved-then-marks-eq0
loop-eight-preserved-then-marks-eq0 c = passed _ _ c.loop-eight.invariant c.in-Some.eight.now c.in-Some.ensures.cases _ c.marks_of-marks.ensures c.if-marks-eq0.true

pub overflow_add-i-else-marks-eq0 : goal.overflow_add-i-else-marks-eq0
overflow_add-i-else-marks-eq0 c = let f = found _ _ c.loop-eight.invariant c.in-Some.eight.now c.in-Some.ensures.cases _ _ c.marks_of-marks.ensures c.if-marks-eq0.false c.first_mark-i.ensures in omega (arith, f.within)

pub bounds-s-i : goal.bounds-s-i
bounds-s-i c = let f = found _ _ c.loop-eight.invariant c.in-Some.eight.now c.in-Some.ensures.cases _ _ c.marks_of-marks.ensures c.if-marks-eq0.false c.first_mark-i.ensures in omega (arith, f.within)

pub returns-then-s-i-ne92 : goal.returns-then-s-i-ne92
returns-then-s-i-ne92 c =
    let f = found _ _ c.loop-eight.invariant c.in-Some.eight.now c.in-Some.ensures.cases _ _ c.marks_of-marks.ensures c.if-marks-eq0.false c.first_mark-i.ensures in
    record { length = found-ends _ _ f c.if-s-i-ne92.true; within = omega (arith, f.within); some = λ h. f.at.some }

pub loop-eight-preserved : goal.loop-eight-preserved
loop-eight-preserved c = let f = found _ _ c.loop-eight.invariant c.in-Some.eight.now c.in-Some.ensures.cases _ _ c.marks_of-marks.ensures c.if-marks-eq0.false c.first_mark-i.ensures in found-more _ _ f c.if-s-i-ne92.false

pub returns : goal.returns
returns c =
    let w = slice-within c.args.s.now in
    let e = c.end_from.ensures ∙ sym c.loop-eight.invariant.ends in
    record { length = e; within = omega (arith, w, e); some = λ h. omega (arith, e, c.loop-eight.invariant.some) }
