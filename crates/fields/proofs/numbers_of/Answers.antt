-- `numbers_of` meets its contract.
use mathlib.Core.Path.{refl}
use Rattle.styles.specs.Styles.{style_words}
use Rattle.fields.specs.Fields.{number_at, by_place}
use Rattle.fields.proofs.Styles.{by_place-over, numbers-done}
use Rattle.fields.proofs.numbers_of.Goals as goal

pub loop-i-init : goal.loop-i-init
unfolding by_place
loop-i-init c = c.words-numbers.ensures

pub loop-i-preserved : goal.loop-i-preserved
loop-i-preserved c = by_place-over number_at (style_words c.args.s) _ c.loop-i-test.true c.loop-i.invariant c.number_at.ensures

pub returns : goal.returns
returns c = numbers-done c.args.s refl c.loop-i.i c.loop-i-test.false c.loop-i.invariant
