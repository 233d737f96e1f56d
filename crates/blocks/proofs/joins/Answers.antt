-- `joins` meets its contract: there is no block, or the last one says.
use Rattle.blocks.proofs.Writing.{joins-none, joins-last}
use Rattle.blocks.proofs.joins.Goals as goal

pub returns-then-n-eq0 : goal.returns-then-n-eq0
returns-then-n-eq0 c = joins-none _ _ _ c.if-n-eq0.true

pub returns : goal.returns
returns c = joins-last _ _ _ c.if-n-eq0.false c.style_in-last.ensures c.same_style.ensures
