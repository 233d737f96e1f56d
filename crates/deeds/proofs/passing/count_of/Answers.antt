-- `count_of` meets its contract: one character, or as many as the text has bytes.
use mathlib.Core.Path.{sym, ap, ◌∙◌}
use lib.ListN.{length}
use Rattle.deeds.proofs.Words.{count-one, count-text}
use Rattle.deeds.proofs.passing.count_of.Goals as goal

pub returns-in-Text : goal.returns-in-Text
returns-in-Text c rd h l n = ap length c.part.ensures ∙ count-text rd _ _ h l n (sym c.kind_at.ensures ∙ c.in-Text.is)

pub returns-in_default : goal.returns-in_default
returns-in_default c rd h l n = count-one rd _ _ h l n (λ e. c.in_default.not-Text (c.kind_at.ensures ∙ e))
