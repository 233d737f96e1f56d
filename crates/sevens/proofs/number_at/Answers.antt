-- `number_at` meets its contract. The invariant: i groups have the high bit and are gathered, and what is left gives the rest
-- of the value. Each way to leave has its law.
-- Assumes nothing.
use native.Mathlib.Omega.{arith}
use Rattle.sevens.proofs.Branches.{no_number, low-number, gathering-start, gathering-short, gathering-six}
use Rattle.sevens.proofs.Branches.{gathering-more, gathering-long, gathering-over, gathering-done}
use Rattle.sevens.proofs.number_at.Goals as goal

pub returns-then-s-eq0 : goal.returns-then-s-eq0
returns-then-s-eq0 c = search (no_number)

pub returns-then-first-lt128 : goal.returns-then-first-lt128
returns-then-first-lt128 c = rw c.from.ensures (low-number _ c.if-s-eq0.false c.if-first-lt128.true)

pub loop-i-init : goal.loop-i-init
loop-i-init c = search (gathering-start)

pub returns-then-s-i : goal.returns-then-s-i
returns-then-s-i c = search (gathering-short)

pub returns-then-b-eq0 : goal.returns-then-b-eq0
returns-then-b-eq0 c =
    let g = c.loop-i.invariant in
    let w = c.from-group.ensures in
    gathering-long _ _ _ _ g (omega arith) (omega arith) _ w (omega arith) (omega arith)

pub returns-then-value-gt4294967295 : goal.returns-then-value-gt4294967295
returns-then-value-gt4294967295 c =
    let g = c.loop-i.invariant in
    let w = c.from-group.ensures in
    gathering-over _ _ _ _ g (omega arith) (omega arith) _ w (omega arith) (omega arith)

pub returns-then-b-lt128 : goal.returns-then-b-lt128
returns-then-b-lt128 c =
    let g = c.loop-i.invariant in
    let w = c.from-group.ensures in
    gathering-done _ _ _ _ g (omega arith) (omega arith) _ w (omega arith) (λ z. omega arith) (omega arith)

pub loop-i-preserved : goal.loop-i-preserved
loop-i-preserved c = search (gathering-more)

pub returns : goal.returns
returns c = search (gathering-six)
