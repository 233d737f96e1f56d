-- `item_at` meets its contract: by the kind.
use mathlib.Core.Path.{sym, ◌∙◌}
use Rattle.tokens.proofs.Items.{item-by-kind}
use Rattle.tokens.proofs.item.item_at.Goals as goal

pub returns-in-Text : goal.returns-in-Text
returns-in-Text c = item-by-kind _ (sym c.kind_at.ensures ∙ c.in-Text.is)

pub returns-in-Opening : goal.returns-in-Opening
returns-in-Opening c = item-by-kind _ (sym c.kind_at.ensures ∙ c.in-Opening.is)

pub returns-in-Closing : goal.returns-in-Closing
returns-in-Closing c = item-by-kind _ (sym c.kind_at.ensures ∙ c.in-Closing.is)

pub returns-in-LineBreak : goal.returns-in-LineBreak
returns-in-LineBreak c = item-by-kind _ (sym c.kind_at.ensures ∙ c.in-LineBreak.is)

pub returns-in-Ignorable : goal.returns-in-Ignorable
returns-in-Ignorable c = item-by-kind _ (sym c.kind_at.ensures ∙ c.in-Ignorable.is)

pub returns-in-Word : goal.returns-in-Word
returns-in-Word c = c.word_item.ensures ∙ rw c.number_at.ensures.0 (item-by-kind _ (sym c.kind_at.ensures ∙ c.in-Word.is))

pub returns-in-Symbol : goal.returns-in-Symbol
returns-in-Symbol c = rw c.number_at-in-Symbol.ensures.0 (item-by-kind _ (sym c.kind_at.ensures ∙ c.in-Symbol.is))
