-- `style_from` meets its contract.
use mathlib.Core.Path.{refl, ◌∙◌}
use Prim.Native.Nat.{◌-◌}
use native.Mathlib.Omega.{arith}
use Rattle.styles.specs.Styles.{style_width}
use Rattle.fields.specs.Fields.{word_at, by_place}
use Rattle.fields.proofs.Styles.{by_place-zeros, words-done}
use Rattle.fields.proofs.style_from.Goals as goal

pub loop-i-init : goal.loop-i-init
unfolding by_place
loop-i-init c = refl

pub loop-i-preserved : goal.loop-i-preserved
loop-i-preserved c = by_place-zeros word_at _ _ c.loop-i-test.true style_width (omega arith) c.loop-i.invariant c.word_at.ensures

pub returns : goal.returns
returns c = c.at.ensures ∙ words-done _ c.loop-i.i (style_width - c.loop-i.i) (omega arith) c.loop-i.invariant
