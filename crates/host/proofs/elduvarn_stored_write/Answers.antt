-- `elduvarn_stored_write` meets its contract: it says what `write_list` says.
use mathlib.Core.Path.{ap, ◌∙◌}
use Rattle.host.specs.Exports.{write_of}
use Rattle.host.proofs.elduvarn_stored_write.Goals as goal

pub returns : goal.returns
returns c = let w = c.write_list-outcome.ensures in record { answer = c.of_writing.ensures ∙ ap write_of w.answer; list = w.content }
