-- `read_fonts` meets its contract. The invariant: what is left, from the table in the room and the current font, gives the whole
-- result.
use mathlib.Core.Path.{◌≡◌, ap, ◌∙◌}
use borrow.Author.Rules.{rules}
use Rattle.std.proofs.lemmas.Result.{err_from_is_err_and}
use Rattle.answers.specs.Answers.{refusal_at}
use Rattle.std.specs.Prelude.{Err}
use Rattle.answers.proofs.Results.{mapped-ok, mapped-err}
use Rattle.fonts.proofs.Steps.{loop-start, loop-ready, loop-set, loop-store, loop-full, loop-unnumbered, loop-end}
use Rattle.fonts.proofs.read_fonts.Goals as goal

pub loop-here-init : goal.loop-here-init
loop-here-init c = record {
  size = search rules;
  loop = rw (c.into_iter-here-iterator.ensures.into_iter_gives, c.take-here-items.ensures.source, c.take-here-items.ensures.count, c.chunks_exact.ensures.rest) (loop-start _ _ _ _ _ c.requires.0 c.table_limit-limit.ensures);
}

pub loop-here-preserved-in-Set : goal.loop-here-preserved-in-Set
loop-here-preserved-in-Set c =
    let l = c.loop-here.invariant in
    let s = c.in-Some.ensures.steps in
    record { size = s.0.0 ∙ l.size; loop = loop-set l.loop (record { words = s.0.1.0; size = s.0.1.1 ∙ l.size; one = s.1 }) c.item_at.ensures c.step.ensures _ c.in-Set.is }

pub store-requires : goal.store-requires
store-requires c = loop-ready c.loop-here.invariant.loop

pub returns-in_err-held-in-Store : goal.returns-in_err-held-in-Store
returns-in_err-held-in-Store c =
    let l = c.loop-here.invariant in
    let s = c.in-Some.ensures.steps in
    let p = err_from_is_err_and c.from_residual.result c.from_residual.ensures.1 in
    let w = mapped-err _ _ c.map_err.ensures.cases c.in_err-held-in-Store.was in
    let q : c.in_err-held-in-Store.field-0.0 ≡ refusal_at w.0 c.slice_at-place.result = search rules in
    loop-full l.loop (record { words = s.0.1.0; size = s.0.1.1 ∙ l.size; one = s.1 }) c.item_at.ensures c.step.ensures c.store.result _ c.store.ensures c.store.auto.room w.0 (p.1 ∙ ap Err (p.2 ∙ q ∙ ap (refusal_at w.0) c.slice_at-place.ensures)) _ c.in-Store.is w.1

pub loop-here-preserved : goal.loop-here-preserved
loop-here-preserved c =
    let l = c.loop-here.invariant in
    let s = c.in-Some.ensures.steps in
    record {
      size = s.0.0 ∙ l.size;
      loop = loop-store l.loop (record { words = s.0.1.0; size = s.0.1.1 ∙ l.size; one = s.1 }) c.item_at.ensures c.step.ensures c.store.result _ c.store.ensures c.store.auto.room _ c.in-Store.is _ (mapped-ok _ _ c.map_err.ensures.cases c.in_ok-held-in-Store.was);
    }

pub store-last-requires : goal.store-last-requires
store-last-requires c = loop-ready c.loop-here.invariant.loop

pub returns-in-Unnumbered : goal.returns-in-Unnumbered
returns-in-Unnumbered c =
    let l = c.loop-here.invariant in
    let s = c.in-Some.ensures.steps in
    loop-unnumbered l.loop (record { words = s.0.1.0; size = s.0.1.1 ∙ l.size; one = s.1 }) c.item_at.ensures c.step.ensures c.store-last.result _ c.store-last.ensures c.store-last.auto.room _ (ap Err (c.at.ensures ∙ ap (refusal_at c.unnumbered.result) c.slice_at.ensures)) c.in-Unnumbered.is c.unnumbered.ensures

pub returns : goal.returns
returns c =
    let l = c.loop-here.invariant in
    loop-end l.loop (λ h. rw l.size at (c.in-None.ensures.steps h).1.0)
