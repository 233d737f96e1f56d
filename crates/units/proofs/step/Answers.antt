-- `step` meets its contract: no number, or one by its range. Assumes nothing.
use Rattle.units.proofs.Branches.{step-absent, step_small, step-negative, step-outside}
use Rattle.units.proofs.step.Goals as goal

pub returns-then-v-lt65536 : goal.returns-then-v-lt65536
returns-then-v-lt65536 c = step_small _ _ _ _ _ c.in-Some.is c.if-v-lt65536.true c.met.ensures

pub returns-then-v-ge4294901760 : goal.returns-then-v-ge4294901760
returns-then-v-ge4294901760 c =
    step-negative _ _ _ _ _ c.in-Some.is
    c.if-v-lt65536.false c.if-v-ge4294901760.true c.met-then-v-ge4294901760.ensures

pub returns-in-None : goal.returns-in-None
returns-in-None c = step-absent _ _ _ _ c.in-None.is c.nothing.ensures

pub returns-else-v-ge4294901760 : goal.returns-else-v-ge4294901760
returns-else-v-ge4294901760 c =
    step-outside _ _ _ _ _ c.in-Some.is
    c.if-v-lt65536.false c.if-v-ge4294901760.false c.nothing-in-Some.ensures
