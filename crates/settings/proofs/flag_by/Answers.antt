-- `flag_by` meets its contract: reading by reading.
use mathlib.Core.Path.{◌∙◌}
use Rattle.settings.proofs.Effects.{flag-on, flag-one}
use Rattle.settings.proofs.flag_by.Goals as goal

pub returns-in-Plain : goal.returns-in-Plain
returns-in-Plain c = rw c.in-Plain.is (c.from.ensures ∙ flag-one _)

pub returns-in-Paragraphs : goal.returns-in-Paragraphs
returns-in-Paragraphs c = rw c.in-Paragraphs.is (c.from-in-Paragraphs.ensures ∙ flag-one _)

pub returns-in-Standard : goal.returns-in-Standard
returns-in-Standard c = rw c.in-Standard.is (c.from-in-Standard.ensures ∙ flag-on c.args.v)
