-- `owes_at` meets its contract: without a state, and with one.
use mathlib.Core.List.{[]}
use mathlib.Core.Path.{◌∙◌}
use Rattle.machine.specs.Stack.{held}
use Rattle.machine.proofs.Stack.{held-top}
use Rattle.runs.proofs.Saying.{ne-pos}
use Rattle.deeds.proofs.passing.owes_at.Goals as goal

pub returns-then-depth-eq0 : goal.returns-then-depth-eq0
unfolding held
returns-then-depth-eq0 c = rw c.if-depth-eq0.true

pub returns : goal.returns
returns c = c.owes.ensures ∙ rw (held-top [] c.args.states.now c.args.depth (ne-pos c.if-depth-eq0.false))
