-- `is_opening` meets its contract: by the kind.
use mathlib.Core.Path.{sym, ◌∙◌}
use Rattle.header.proofs.Entering.{opens-yes, opens-no}
use Rattle.header.proofs.group.is_opening.Goals as goal

pub returns-in-Opening : goal.returns-in-Opening
returns-in-Opening c = opens-yes _ (sym c.kind_at.ensures ∙ c.in-Opening.is)

pub returns-in_default : goal.returns-in_default
returns-in_default c = opens-no c.args.t.now (λ e. c.in_default.not-Opening (c.kind_at.ensures ∙ e))
