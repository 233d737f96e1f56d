-- `first_mark` meets its contract: eight zeros for each byte before the lowest mark. Assumes nothing.
use native.Mathlib.Omega.{arith}
use lib.Count.{trailing_le}
use Rattle.classes.proofs.Marks.{first-right}
use Rattle.classes.proofs.eights.first_mark.Goals as goal

pub overflow_cast-result : goal.overflow_cast-result
overflow_cast-result c = let h = trailing_le 64 c.args.m in omega (arith, h)

pub returns : goal.returns
returns c = λ f s n q. first-right f s n _ q
