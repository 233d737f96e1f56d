-- `standard_step` meets its contract: no number, or one by its range.
use Rattle.units.proofs.Branches.{standard-absent, standard-small, standard-negative, standard-outside}
use Rattle.units.proofs.standard_step.Goals as goal

pub returns-then-v-lt65536 : goal.returns-then-v-lt65536
returns-then-v-lt65536 c = standard-small _ _ _ _ c.in-Some.is c.if-v-lt65536.true c.taken.ensures

pub returns-then-v-ge4294901760 : goal.returns-then-v-ge4294901760
returns-then-v-ge4294901760 c = standard-negative _ _ _ _ c.in-Some.is c.if-v-lt65536.false c.if-v-ge4294901760.true c.taken-then-v-ge4294901760.ensures

pub returns-in-None : goal.returns-in-None
returns-in-None c = standard-absent _ _ _ c.in-None.is c.cut_short.ensures

pub returns-else-v-ge4294901760 : goal.returns-else-v-ge4294901760
returns-else-v-ge4294901760 c = standard-outside _ _ _ _ c.in-Some.is c.if-v-lt65536.false c.if-v-ge4294901760.false c.cut_short-in-Some.ensures
