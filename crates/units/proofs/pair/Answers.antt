-- `pair` meets its contract: the halves' bits are a sum. Assumes nothing.
use native.Mathlib.Omega.{arith}
use Rattle.units.proofs.Bits.{pair-bits, pair_fits}
use Rattle.units.proofs.pair.Goals as goal

pub overflow_add-result : goal.overflow_add-result
overflow_add-result c = record { fits = pair_fits c.args.high c.args.low }

pub returns : goal.returns
returns c = omega (arith, pair-bits c.args.high c.args.low)
