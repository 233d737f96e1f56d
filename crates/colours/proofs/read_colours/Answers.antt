-- `read_colours` meets its contract. The invariant: what is left, from the colours in the room and the current one, gives the
-- whole result.
use mathlib.Core.Path.{◌∙◌}
use borrow.Author.Rules.{rules}
use Rattle.colours.proofs.Steps.{loop-start, loop-set, loop-unfit, stored-small, loop-full, loop-store, loop-end}
use Rattle.colours.proofs.read_colours.Goals as goal

pub loop-here-init : goal.loop-here-init
loop-here-init c = record {
  size = search rules;
  loop = rw (c.into_iter-here-iterator.ensures.into_iter_gives, c.take-here-items.ensures.source, c.take-here-items.ensures.count, c.chunks_exact.ensures.rest) (loop-start _ _ _ _ c.requires.0 c.table_limit-limit.ensures);
}

pub loop-here-preserved-in-Set : goal.loop-here-preserved-in-Set
loop-here-preserved-in-Set c =
    let l = c.loop-here.invariant in
    let s = c.in-Some.ensures.steps in
    record { size = s.0.0 ∙ l.size; loop = loop-set l.loop (record { words = s.0.1.0; size = s.0.1.1 ∙ l.size; one = s.1 }) c.item_at.ensures c.step.ensures _ c.in-Set.is }

pub returns-then-limit-stored : goal.returns-then-limit-stored
returns-then-limit-stored c =
    let l = c.loop-here.invariant in
    let s = c.in-Some.ensures.steps in
    loop-full l.loop (record { words = s.0.1.0; size = s.0.1.1 ∙ l.size; one = s.1 }) c.item_at.ensures c.step.ensures _ c.in-Store.is c.if-limit-stored.true _ c.of.ensures

pub colour_word-requires : goal.colour_word-requires
colour_word-requires c =
    let l = c.loop-here.invariant in
    let s = c.in-Some.ensures.steps in
    stored-small l.loop (record { words = s.0.1.0; size = s.0.1.1 ∙ l.size; one = s.1 }) c.item_at.ensures c.step.ensures _ c.in-Store.is

pub loop-here-preserved : goal.loop-here-preserved
loop-here-preserved c =
    let l = c.loop-here.invariant in
    let s = c.in-Some.ensures.steps in
    record { size = s.0.0 ∙ l.size; loop = loop-store l.loop (record { words = s.0.1.0; size = s.0.1.1 ∙ l.size; one = s.1 }) c.item_at.ensures c.step.ensures _ c.in-Store.is c.if-limit-stored.false _ c.colour_word.ensures }

pub returns-in-Unfit : goal.returns-in-Unfit
returns-in-Unfit c =
    let l = c.loop-here.invariant in
    let s = c.in-Some.ensures.steps in
    loop-unfit l.loop (record { words = s.0.1.0; size = s.0.1.1 ∙ l.size; one = s.1 }) c.item_at.ensures c.step.ensures _ c.slice_at.ensures _ c.at.ensures c.in-Unfit.is

pub returns : goal.returns
returns c =
    let l = c.loop-here.invariant in
    loop-end l.loop (λ h. rw l.size at (c.in-None.ensures.steps h).1.0)
