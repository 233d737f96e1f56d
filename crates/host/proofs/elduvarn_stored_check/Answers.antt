-- `elduvarn_stored_check` meets its contract: it says what `check` says.
use mathlib.Core.Path.{ap, ◌∙◌}
use Rattle.answers.specs.Answers.{answer_number}
use Rattle.host.proofs.elduvarn_stored_check.Goals as goal

pub returns : goal.returns
returns c = c.number_of.ensures ∙ ap answer_number c.check-outcome.ensures
