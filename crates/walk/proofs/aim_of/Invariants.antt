-- `aim_of` meets its contract: what the tokens that are left make of the group, the whole makes of it.
use Rattle.walk.proofs.Looks.{Looking}
use Rattle.walk.proofs.aim_of.Given as goal

abbrev pub invariant-loop-n : goal.invariant-loop-n
invariant-loop-n l = Looking l.s l.count l.t l.n l.late

abbrev pub decreases-loop-n : goal.decreases-loop-n
decreases-loop-n l = l.n
