-- `style_in` meets its contract: the words from the record on say it.
use mathlib.Core.Path.{◌∙◌}
use Rattle.blocks.proofs.Records.{style-part}
use Rattle.blocks.proofs.record.style_in.Goals as goal

pub returns : goal.returns
returns c = c.at.ensures ∙ style-part _ _
