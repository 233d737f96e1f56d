-- `reset_painter` meets its contract: store by store.
use mathlib.Core.Path.{refl}
use Rattle.settings.specs.Fields.{resets}
use Rattle.settings.specs.Rows.{settled, settle_at}
use Rattle.settings.proofs.rows.reset_painter.Goals as goal

pub returns : goal.returns
unfolding settled settle_at resets
returns c = refl
