-- `symbol` meets its contract: the mark, or any other.
use Rattle.standard.proofs.Rules.{symbol-mark, symbol-other}
use Rattle.standard.proofs.symbol.Goals as goal

pub returns-then-b-eq42 : goal.returns-then-b-eq42
returns-then-b-eq42 c = symbol-mark _ c.if-b-eq42.true c.bare.ensures

pub returns : goal.returns
returns c = symbol-other _ c.if-b-eq42.false c.symbol.ensures
