-- `symbol` meets its contract: symbol by symbol.
use native.Mathlib.Omega.{arith}
use borrow.Author.Tests.{ne_eqb}
use Rattle.settings.specs.Effects.{meaning}
use Rattle.deeds.specs.Deeds.{symbol_effect}
use Rattle.deeds.proofs.symbol.Goals as goal

pub returns-in-39 : goal.returns-in-39
unfolding symbol_effect meaning
returns-in-39 c = (rw (c.in-39.is, c.character.ensures, c.unwrap_or.ensures), omega arith)

pub returns-in-126 : goal.returns-in-126
unfolding symbol_effect meaning
returns-in-126 c = (rw c.in-126.is, omega arith)

pub returns-in-95 : goal.returns-in-95
unfolding symbol_effect meaning
returns-in-95 c = (rw c.in-95.is, omega arith)

pub returns-in-45 : goal.returns-in-45
unfolding symbol_effect meaning
returns-in-45 c = (rw c.in-45.is, omega arith)

pub returns-in_default : goal.returns-in_default
unfolding symbol_effect meaning
returns-in_default c = (rw (ne_eqb _ 39 c.in_default.in_default-own.rest.0.0.0.1, ne_eqb _ 126 c.in_default.in_default-own.rest.0.0.1, ne_eqb _ 95 c.in_default.in_default-own.rest.0.1, ne_eqb _ 45 c.in_default.in_default-own.rest.1), omega arith)
