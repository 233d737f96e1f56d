-- `unit_token` meets its contract: without a state, and with one.
use Rattle.runs.proofs.Saying.{ne-pos}
use Rattle.deeds.proofs.Turning.{turns_stopped, turns-unit}
use Rattle.deeds.proofs.unit_token.Goals as goal

pub returns-then-depth-eq0 : goal.returns-then-depth-eq0
returns-then-depth-eq0 c = let s = c in turns_stopped s.args.reading _ _ s.requires.1 c.if-depth-eq0.true s.requires.2 s.args.run.now s.args.number

pub returns : goal.returns
returns c = let s = c in let u = c.unit in turns-unit _ _ s.requires.1 (ne-pos c.if-depth-eq0.false) s.requires.0 u.result s.args.page.now _ s.args.blocks.now s.args.text.now _ _ u.ensures.ready c.and.ensures s.args.reading s.args.run.now s.args.number u.ensures.laid u.ensures.run_after
