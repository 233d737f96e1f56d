-- `highs_of` meets its contract: the number is that of the bytes, and the mask has the high bit of each.
use native.Mathlib.Omega.{arith}
use Rattle.wellformed.proofs.Eights.{highs-right}
use Rattle.wellformed.proofs.ascii.highs_of.Goals as goal

pub returns : goal.returns
returns c = highs-right c.args.eight.now c.told-eight (λ i. let b = c.fits-eight i in omega (arith, b)) _ c.from_le_bytes.ensures
