-- `set_field` meets its contract: the store is the one setting.
use mathlib.Core.Path.{refl}
use Rattle.settings.specs.Rows.{settled, settle_at}
use Rattle.settings.proofs.rows.set_field.Goals as goal

pub returns : goal.returns
unfolding settled settle_at
returns c = refl
