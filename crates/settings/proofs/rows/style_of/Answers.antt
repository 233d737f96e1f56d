-- `style_of` meets its contract: field by field.
use Rattle.settings.specs.Fields.{style_of}
use Rattle.settings.proofs.rows.style_of.Goals as goal

pub returns : goal.returns
unfolding style_of
returns c = rw c.flags-flags.ensures
