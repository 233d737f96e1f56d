-- `break_token` meets its contract: without a state, and with one.
use Rattle.answers.specs.Answers.{becomes}
use Rattle.deeds.proofs.Moves.{took-none}
use Rattle.runs.proofs.Saying.{ne-pos}
use Rattle.deeds.proofs.Turning.{turns-bare, turns-break}
use mathlib.Core.Path.{refl}
use Rattle.deeds.proofs.break_token.Goals as goal

pub returns-then-depth-eq0 : goal.returns-then-depth-eq0
returns-then-depth-eq0 c = let s = c in turns-bare _ _ _ (took-none _ _ s.requires.1 c.if-depth-eq0.true (λ r. becomes r)) s.requires.2 c.if-depth-eq0.true _ refl

pub returns : goal.returns
returns c = let s = c in turns-break _ _ s.requires.1 (ne-pos c.if-depth-eq0.false) s.requires.0 c.character.result s.args.page.now _ s.args.blocks.now s.args.text.now _ _ c.character.ensures.ready c.and.ensures c.character.ensures.laid
