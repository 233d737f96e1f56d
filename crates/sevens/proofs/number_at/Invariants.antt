-- `number_at` meets its contract. The invariant: i groups have the high bit and are gathered, and what is left gives the rest
-- of the value. Each way to leave has its law.
-- Assumes nothing.
use Rattle.sevens.proofs.Branches.{Gathering}
use Rattle.sevens.proofs.number_at.Given as goal

abbrev pub invariant-loop-i : goal.invariant-loop-i
invariant-loop-i l = Gathering l.s l.value l.shift l.i
