-- `act_at` meets its contract: a word, or a symbol.
use mathlib.Core.Path.{refl, sym, ◌∙◌}
use lib.ListN.{get_or}
use borrow.Author.Tests.{ne_eqb}
use Rattle.deeds.specs.Turns.{effect_at}
use Rattle.tokens.proofs.Items.{kind-number}
use Rattle.deeds.proofs.act_at.Goals as goal

pub returns-in-Word : goal.returns-in-Word
unfolding effect_at
returns-in-Word c = (c.act_of.ensures.0 ∙ rw (kind-number _ (sym c.kind_at.ensures ∙ c.in-Word.is) tt, c.number_at.ensures.0) refl, c.act_of.ensures.1)

pub returns-in_default : goal.returns-in_default
unfolding effect_at
returns-in_default c = (c.symbol.ensures.0 ∙ rw (ne_eqb (get_or c.args.t.now 0 0) 5 (λ e. c.in_default.not-Word (c.kind_at.ensures ∙ rw e refl)), c.number_at-in_default.ensures.0) refl, c.symbol.ensures.1)
