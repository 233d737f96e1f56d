-- `Refusal::at` meets its contract: a number that carries its place, or one that does not.
use Rattle.answers.proofs.Refusals.{at_carried, at_bare}
use Rattle.answers.proofs.Refusal.at.Goals as goal

pub returns-then-n : goal.returns-then-n
returns-then-n c = at_carried _ _ c.of-none.ensures c.number-n.ensures c.if-n.true

pub returns : goal.returns
returns c = at_bare _ _ c.of-none.ensures c.number-n.ensures c.if-n.false
