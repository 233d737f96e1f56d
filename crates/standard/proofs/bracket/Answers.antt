-- `bracket` meets its contract: the opening one, or the other.
use Rattle.standard.proofs.Rules.{bracket-opening, bracket-closing}
use Rattle.standard.proofs.bracket.Goals as goal

pub returns-then-b-eq123 : goal.returns-then-b-eq123
returns-then-b-eq123 c = bracket-opening _ c.if-b-eq123.true c.bare.ensures

pub returns : goal.returns
returns c = bracket-closing _ c.if-b-eq123.false c.bare-2.ensures
