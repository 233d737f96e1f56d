-- `last` meets its contract: another slice, or a closing bracket alone.
use Rattle.rooms.proofs.Rooms.{wrote-stop}
use Rattle.tokens.specs.Tokens.{token_layout}
use Rattle.cutter.proofs.Source.{last-other, last-close, last-wrote}
use Rattle.cutter.proofs.last.Goals as goal

pub returns-then-ne : goal.returns-then-ne
returns-then-ne c = wrote-stop token_layout (last-other _ _ _ c.as_slice.ensures _ c.ne.ensures c.if-ne.true) c.at.ensures

pub returns : goal.returns
returns c = last-wrote (last-close _ _ _ c.as_slice.ensures _ c.ne.ensures c.if-ne.false) c.bare.ensures c.put.ensures c.seal.ensures
