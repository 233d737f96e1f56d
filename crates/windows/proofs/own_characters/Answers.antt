-- `own_characters` meets its contract: the rows are those of the table.
use mathlib.Core.Path.{refl}
use Rattle.windows.specs.Windows.{own}
use Rattle.windows.proofs.own_characters.Goals as goal

pub returns : goal.returns
unfolding own
returns c = refl
