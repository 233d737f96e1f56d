-- `table_word` meets its contract: the word that the tokens that are left have is that of all.
use mathlib.Core.Path.{◌∙◌}
use Rattle.walk.proofs.Looks.{seek-none, seek_found, seek-more}
use Rattle.walk.proofs.table_word.Goals as goal

pub returns-then-not-is_break : goal.returns-then-not-is_break
returns-then-not-is_break c =
    let l = c.loop-here.invariant in
    let s = c.in-Some.ensures.steps in
    seek_found l.seek (record { words = s.0.1.0; size = s.0.1.1 ∙ l.size; one = s.1 }) c.item_at-i.ensures c.is_break.ensures c.if-not-is_break.true c.slice_at.ensures

pub loop-here-preserved : goal.loop-here-preserved
loop-here-preserved c =
    let l = c.loop-here.invariant in
    let s = c.in-Some.ensures.steps in
    record {
      size = s.0.0 ∙ l.size;
      seek = seek-more l.seek (record { words = s.0.1.0; size = s.0.1.1 ∙ l.size; one = s.1 }) c.item_at-i.ensures c.is_break.ensures c.if-not-is_break.false;
    }

pub returns : goal.returns
returns c =
    let l = c.loop-here.invariant in
    seek-none l.seek (λ h. rw l.size at (c.in-None.ensures.steps h).1.0)
