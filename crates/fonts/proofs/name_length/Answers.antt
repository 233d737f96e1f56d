-- `name_length` meets its contract: a part of a source is at most as long as was asked for, so its length fits.
use Rattle.std.proofs.Common.{arith}
use Rattle.fonts.proofs.Steps.{name-fits}
use Rattle.fonts.proofs.name_length.Goals as goal

pub overflow_cast-result : goal.overflow_cast-result
overflow_cast-result c = omega (arith, name-fits _ _ _ c.part-bytes.ensures c.body_of-n.ensures.within (omega arith))
