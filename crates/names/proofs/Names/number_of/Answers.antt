-- `number_of` meets its contract. The invariant: what is found on the chain from a row on is the word's number. The measure is
-- the length of that chain.
use borrow.Author.Rules.{rules}
use Rattle.names.proofs.Chains.{ahead-empty, ahead_none, ahead-start, ahead-less, ahead_more, ahead-stop, ahead-end}
use Rattle.names.proofs.Names.number_of.Goals as goal

pub returns-in_default-clause-number : goal.returns-in_default-clause-number
returns-in_default-clause-number c = search (ahead-empty, rules)

pub returns-then-not-is_letter-clause-number : goal.returns-then-not-is_letter-clause-number
returns-then-not-is_letter-clause-number c = search (ahead_none, rules)

pub loop-row-init : goal.loop-row-init
loop-row-init c = search (ahead-start, rules)

pub returns-then-is_row-clause-number : goal.returns-then-is_row-clause-number
returns-then-is_row-clause-number c = search (ahead-stop, rules)

pub loop-row-smaller : goal.loop-row-smaller
loop-row-smaller c = search (ahead-less)

pub loop-row-preserved : goal.loop-row-preserved
loop-row-preserved c = search (ahead_more)

pub returns-clause-number : goal.returns-clause-number
returns-clause-number c = search (ahead-end, rules)
