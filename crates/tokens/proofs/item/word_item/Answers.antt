-- `word_item` meets its contract.
use borrow.Author.Tests.{eq-eqb, ne_eqb}
use Rattle.tokens.proofs.item.word_item.Goals as goal

pub returns-then-w-eq-UNKNOWN : goal.returns-then-w-eq-UNKNOWN
returns-then-w-eq-UNKNOWN c = rw (eq-eqb _ 49 c.if-w-eq-UNKNOWN.true)

pub returns : goal.returns
returns c = rw (ne_eqb _ 49 c.if-w-eq-UNKNOWN.false)
