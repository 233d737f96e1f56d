-- `met` meets its contract: a unit is skipped or kept. Assumes nothing.
use Rattle.units.proofs.Branches.{met-skipped, met-taken, skipped-fits}
use borrow.Author.Rules.{rules}
use Rattle.units.proofs.met.Goals as goal

pub overflow_add-more : goal.overflow_add-more
overflow_add-more c = search (skipped-fits, rules)

pub returns-then-begun-u : goal.returns-then-begun-u
returns-then-begun-u c = met-skipped _ _ _ c.if-begun-u.true _ c.nothing.ensures

pub returns : goal.returns
returns c = met-taken _ _ _ c.if-begun-u.false _ c.taken.ensures
