-- `at` meets its contract: word by word.
use Rattle.styles.specs.Styles.{style_at}
use mathlib.Core.Path.{refl}
use Rattle.styles.proofs.Style.at.Goals as goal

pub returns : goal.returns
unfolding style_at
returns c = refl
