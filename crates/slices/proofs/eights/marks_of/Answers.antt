-- `marks_of` meets its contract: the library's number of the bytes is theirs. Assumes nothing.
use mathlib.Core.Path.{◌∙◌}
use native.Mathlib.Omega.{arith}
use Rattle.classes.proofs.Marks.{packed-le}
use Rattle.slices.proofs.eights.marks_of.Goals as goal

pub returns : goal.returns
returns c = c.marks.ensures c.args.eight.now c.told-eight (λ i. let b = c.fits-eight i in omega (arith, b)) (c.from_le_bytes.ensures ∙ packed-le c.args.eight.now c.told-eight)
