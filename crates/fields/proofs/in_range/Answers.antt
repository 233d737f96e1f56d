-- `in_range` meets its contract.
use mathlib.Core.Path.{refl}
use Rattle.fields.specs.Fields.{in_range}
use Rattle.fields.proofs.in_range.Goals as goal

pub returns : goal.returns
unfolding in_range
returns c = refl
