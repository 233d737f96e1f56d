-- `fit` meets its contract: the number is at most 65,535, or it is not.
use native.Mathlib.Omega.{arith}
use borrow.Author.Tests.{le-leb, lt-leb}
use Rattle.settings.specs.Effects.{fitted, meaning}
use Rattle.settings.proofs.fit.Goals as goal

pub returns-then-v-le65535 : goal.returns-then-v-le65535
unfolding fitted meaning
returns-then-v-le65535 c = (rw (le-leb _ 65535 c.if-v-le65535.true), c.requires)

pub returns : goal.returns
unfolding fitted meaning
returns c = (rw (lt-leb _ 65535 c.if-v-le65535.false), omega arith)
