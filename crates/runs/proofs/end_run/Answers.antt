-- `end_run` meets its contract: no surrogate waits, no state is held, or one is lost.
use Rattle.runs.proofs.Saying.{ne-pos, lost-none, lost-bare, lost-some}
use Rattle.runs.proofs.end_run.Goals as goal

pub returns-then-high-eq0-clause-laid : goal.returns-then-high-eq0-clause-laid
returns-then-high-eq0-clause-laid c = lost-none _ _ _ _ _ c.args.run.now c.if-high-eq0.true

pub returns-then-depth-eq0-clause-laid : goal.returns-then-depth-eq0-clause-laid
returns-then-depth-eq0-clause-laid c = lost-bare _ _ _ _ _ c.args.run.now c.if-depth-eq0.true

pub returns-clause-laid : goal.returns-clause-laid
returns-clause-laid c = lost-some _ _ _ _ _ c.args.run.now (ne-pos c.if-depth-eq0.false) (ne-pos c.if-high-eq0.false) c.character.ensures.laid
