-- `taken` meets its contract: a pair, a high surrogate that waits, or a value. Assumes nothing.
use Rattle.units.proofs.Branches.{taken-pair, taken-high, taken-value}
use Rattle.units.proofs.taken.Goals as goal

pub returns-then-lost-is_low : goal.returns-then-lost-is_low
returns-then-lost-is_low c = taken-pair _ _ _ c.is_low.ensures c.if-lost-is_low.true _ c.pair-value.ensures

pub returns-then-is_high : goal.returns-then-is_high
returns-then-is_high c =
    taken-high _ _ _ c.is_low.ensures c.if-lost-is_low.false
    _ c.is_high.ensures c.if-is_high.true

pub returns : goal.returns
returns c =
    taken-value _ _ _ c.is_low.ensures c.if-lost-is_low.false
    _ c.is_high.ensures c.if-is_high.false _ c.alone-value.ensures
