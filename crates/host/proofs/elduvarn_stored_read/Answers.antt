-- `elduvarn_stored_read` meets its contract: it says what `read_list` says.
use mathlib.Core.Path.{ap, ◌∙◌}
use Rattle.host.specs.Exports.{stored_of}
use Rattle.host.proofs.elduvarn_stored_read.Goals as goal

pub returns : goal.returns
returns c = let w = c.read_list-answer.ensures in record { answer = c.of_stored.ensures ∙ ap stored_of w.answer; blocks = w.blocks; text = w.text }
