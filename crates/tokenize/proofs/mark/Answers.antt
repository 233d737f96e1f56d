-- `mark` meets its contract: an opening, a closing bracket, or neither.
use Rattle.rooms.proofs.Rooms.{wrote_none}
use Rattle.tokens.specs.Tokens.{shown_layout}
use Rattle.tokens.proofs.Records.{wrote-token, opening-record, closing-record}
use Rattle.tokenize.proofs.Rules.{mark-open, mark-close, mark-none}
use Rattle.tokenize.proofs.mark.Goals as goal

pub returns-then-b-eq123 : goal.returns-then-b-eq123
returns-then-b-eq123 c = wrote-token (mark-open _ c.if-b-eq123.true) (opening-record c.bare.ensures) c.put.ensures

pub returns-then-b-eq125 : goal.returns-then-b-eq125
returns-then-b-eq125 c = wrote-token (mark-close _ c.if-b-eq125.true) (closing-record c.bare-then-b-eq125.ensures) c.put-then-b-eq125.ensures

pub returns : goal.returns
returns c = wrote_none shown_layout (mark-none _ c.if-b-eq123.false c.if-b-eq125.false)
