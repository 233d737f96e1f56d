-- `elduvarn_cut` meets its contract: it says what `cut` says by the reading that the number means.
use mathlib.Core.Path.{ap, ◌∙◌}
use Rattle.host.specs.Exports.{cut_of}
use Rattle.host.proofs.elduvarn_cut.Goals as goal

pub returns : goal.returns
returns c =
    let by = c.of-by.ensures in
    let made = c.cut-outcome.ensures in
    record { answer = c.of_cut.ensures ∙ ap cut_of (rw by at made.answer); tokens = rw by at made.content }
