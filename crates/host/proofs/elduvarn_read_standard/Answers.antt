-- `elduvarn_read_standard` meets its contract: it says what `read` says.
use mathlib.Core.Path.{ap, ◌∙◌}
use Rattle.host.specs.Exports.{read_of}
use Rattle.host.proofs.elduvarn_read_standard.Goals as goal

pub returns : goal.returns
returns c = let w = c.read-answer.ensures in record { answer = c.of_reading.ensures ∙ ap read_of w.answer; tokens = w.tokens; fonts = w.fonts; colours = w.colours; blocks = w.blocks; text = w.text }
