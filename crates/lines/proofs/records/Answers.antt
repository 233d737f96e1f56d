-- `records` meets its contract. The invariant: whoever puts the lines of the records that are left has put all of them.
use mathlib.Core.Path.{sym, ◌∙◌}
use native.Mathlib.Omega.{arith}
use Rattle.lines.proofs.Pages.{put_as, put-none, left-more, left_end}
use Rattle.lines.proofs.Lines.{lines_next, lines-last, lines_of_none}
use Rattle.lines.proofs.records.Goals as goal

pub returns-then-width-eq0 : goal.returns-then-width-eq0
returns-then-width-eq0 c = put_as (sym (lines_of_none _ c.args.count c.args.room.now c.if-width-eq0.true)) (put-none c.requires)

pub loop-record-preserved : goal.loop-record-preserved
loop-record-preserved c =
    let i = c.loop-record.invariant in
    let step = c.in-Some.ensures.steps in
    record {
      width = step.0.0 ∙ i.width;
      within = omega (arith, c.record_line-end.ensures, c.record_line-end.auto.page);
      same = omega (arith, c.record_line-end.auto.page, i.same);
      left = left-more i.left (lines_next _ _ _ _ _ _ step.1 step.0.1.0 (step.0.1.1 ∙ i.width)) c.record_line-end.auto.page c.record_line-end.ensures;
    }

pub returns : goal.returns
returns c =
    let i = c.loop-record.invariant in
    left_end i.left (lines-last _ _ _ (λ h. let short = (c.in-None.ensures.steps h).1.0 in omega (arith, i.width))) i.within
