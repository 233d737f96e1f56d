-- `number_at` meets its contract: folded, where the word is signed.
use mathlib.Core.Path.{sym, ◌∙◌}
use Rattle.fields.proofs.number_at.Goals as goal

pub returns-then-is_signed : goal.returns-then-is_signed
returns-then-is_signed c = rw (sym c.is_signed.ensures ∙ c.if-is_signed.true) c.fold.ensures

pub returns : goal.returns
returns c = rw (sym c.is_signed.ensures ∙ c.if-is_signed.false)
