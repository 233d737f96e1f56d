-- `rank` meets its contract. The invariant: the records before `low` have smaller keys, those from `high` on do not. The measure is
-- what lies between.
use Rattle.std.proofs.Common.{◌-◌}
use Rattle.fonts.proofs.Searches.{Half}
use Rattle.fonts.proofs.rows.rank.Given as goal

abbrev pub invariant-loop-low : goal.invariant-loop-low
invariant-loop-low l = Half l.room l.n l.key l.low l.high

abbrev pub decreases-loop-low : goal.decreases-loop-low
decreases-loop-low l = l.high - l.low
