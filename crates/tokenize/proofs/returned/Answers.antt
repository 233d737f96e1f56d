-- `returned` meets its contract: by the first byte, if there is one; a carriage return is a line break, and then what is behind it.
use Rattle.rooms.proofs.Rooms.{wrote_as}
use Rattle.tokens.specs.Tokens.{shown_layout}
use Rattle.tokens.proofs.Records.{wrote-token-and, break-record}
use Rattle.tokenize.proofs.Rules.{return-none, return-other, return-break}
use Rattle.tokenize.proofs.returned.Goals as goal

pub returns-then-s-eq0 : goal.returns-then-s-eq0
returns-then-s-eq0 c = wrote_as shown_layout (return-none _ c.args.s.now c.if-s-eq0.true) c.other.ensures

pub returns-then-s-ne13 : goal.returns-then-s-ne13
returns-then-s-ne13 c = wrote_as shown_layout (return-other _ c.args.s.now c.if-s-eq0.false c.if-s-ne13.true) c.other-then-s-ne13.ensures

pub returns : goal.returns
returns c = wrote-token-and (return-break _ c.args.s.now c.if-s-eq0.false c.if-s-ne13.false) (break-record c.bare.ensures) c.put.ensures c.behind_feed.ensures
