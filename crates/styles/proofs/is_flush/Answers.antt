-- `is_flush` meets its contract: indent by indent, and behind the last one nothing is left to compare.
use mathlib.Core.Bool.{and-true}
use Rattle.styles.proofs.is_flush.Goals as goal

pub returns : goal.returns
returns c = rw and-true
