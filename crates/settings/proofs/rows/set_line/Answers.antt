-- `set_line` meets its contract: two stores are two settings.
use mathlib.Core.Path.{refl}
use Rattle.settings.specs.Rows.{settled, settle_at}
use Rattle.settings.proofs.rows.set_line.Goals as goal

pub returns : goal.returns
unfolding settled settle_at
returns c = refl
