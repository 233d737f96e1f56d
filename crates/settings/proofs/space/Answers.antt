-- `space` meets its contract: 1000, -2147483648, other numbers, negative ones.
use native.Mathlib.Omega.{arith}
use mathlib.Core.Path.{◌≡◌}
use Prim.Native.Nat.{◌+◌, ◌-◌}
use borrow.Author.Tests.{ne_eqb, lt-ltb, le-ltb}
use Rattle.settings.specs.Effects.{spacing, meaning}
use Rattle.settings.proofs.space.Goals as goal

pub returns-then-v-eq1000 : goal.returns-then-v-eq1000
unfolding spacing meaning
returns-then-v-eq1000 c = (rw c.if-v-eq1000.true, omega arith)

pub returns-then-v-eq2147483648 : goal.returns-then-v-eq2147483648
unfolding spacing meaning
returns-then-v-eq2147483648 c = (rw c.if-v-eq2147483648.true, omega arith)

pub returns-then-v-lt2147483648 : goal.returns-then-v-lt2147483648
unfolding spacing meaning
returns-then-v-lt2147483648 c = (rw (ne_eqb _ 1000 c.if-v-eq1000.false, ne_eqb _ 2147483648 c.if-v-eq2147483648.false, lt-ltb _ 2147483648 c.if-v-lt2147483648.true), omega arith)

pub returns : goal.returns
unfolding spacing meaning
returns c =
    let v = c.args.v in
    let q : 4294967295 - v + 1 ≡ 4294967296 - v = omega arith in
    (rw (ne_eqb _ 1000 c.if-v-eq1000.false, ne_eqb _ 2147483648 c.if-v-eq2147483648.false, le-ltb _ 2147483648 c.if-v-lt2147483648.false, q), omega arith)
