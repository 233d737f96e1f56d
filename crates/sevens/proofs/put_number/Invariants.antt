-- `put_number` meets its contract. The invariant: who writes the groups of what is left has written the number. The measure is
-- what is left.
-- Assumes nothing.
use Rattle.sevens.proofs.Branches.{Putting}
use Rattle.sevens.proofs.put_number.Given as goal

abbrev pub invariant-loop-rest : goal.invariant-loop-rest
invariant-loop-rest l = Putting l.n l.v l.initial.room l.at l.rest l.room

abbrev pub decreases-loop-rest : goal.decreases-loop-rest
decreases-loop-rest l = l.rest
