-- `is_brace` meets its contract: by the kind.
use mathlib.Core.Path.{◌∙◌}
use Rattle.deeds.proofs.Words.{brace-yes, brace-no}
use Rattle.deeds.proofs.passing.is_brace.Goals as goal

pub returns-in-Opening : goal.returns-in-Opening
returns-in-Opening c rd src h l = brace-yes rd src _ h l (rw c.kind_at.ensures at c.in-Opening.is)

pub returns-in_default : goal.returns-in_default
returns-in_default c rd src h l = brace-no rd src _ h l (λ e. c.in_default.not-Opening (c.kind_at.ensures ∙ e)) (λ e. c.in_default.not-Closing (c.kind_at.ensures ∙ e))
