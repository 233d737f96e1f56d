-- `property` meets its contract.
use native.Mathlib.Omega.{arith}
use borrow.Author.Tests.{eq-eqb, ne_eqb}
use Rattle.tokens.proofs.item.property.Goals as goal

pub returns-then-has-eq1 : goal.returns-then-has-eq1
returns-then-has-eq1 c = (rw (eq-eqb _ 1 c.if-has-eq1.true), omega arith)

pub returns : goal.returns
returns c = (rw (ne_eqb _ 1 c.if-has-eq1.false), omega arith)
