-- `close` meets its contract: no state, or the top dropped.
use Rattle.deeds.proofs.Moves.{took-close-none, took-close-top}
use Rattle.runs.proofs.Saying.{ne-pos}
use Rattle.deeds.proofs.stack.close.Goals as goal

pub returns-then-depth-eq0 : goal.returns-then-depth-eq0
returns-then-depth-eq0 c = λ states all. took-close-none states _ all c.if-depth-eq0.true

pub returns : goal.returns
returns c = λ states all. took-close-top states _ all (ne-pos c.if-depth-eq0.false) c.requires
