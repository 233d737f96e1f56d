-- `open` meets its contract: no state, 64 of them, or some.
use mathlib.Core.Path.{ap, ◌∙◌}
use Rattle.settings.specs.Fields.{row_of}
use Rattle.deeds.proofs.Moves.{took-open-none, took-open-full, took-open-more}
use Rattle.runs.proofs.Saying.{ne-pos}
use Rattle.deeds.proofs.stack.open.Goals as goal

pub returns-then-depth-eq0 : goal.returns-then-depth-eq0
returns-then-depth-eq0 c = let s = c in took-open-none _ _ s.requires.1 (c.row-first.ensures ∙ ap row_of c.fresh.ensures) c.if-depth-eq0.true

pub returns-then-depth-eq-STATES : goal.returns-then-depth-eq-STATES
returns-then-depth-eq-STATES c = let s = c in took-open-full _ _ s.requires.1 (ne-pos c.if-depth-eq0.false) c.if-depth-eq-STATES.true

pub returns : goal.returns
returns c = let s = c in took-open-more _ _ s.requires.1 (ne-pos c.if-depth-eq0.false) c.if-depth-eq-STATES.false s.requires.0
