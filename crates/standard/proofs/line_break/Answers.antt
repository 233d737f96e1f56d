-- `line_break` meets its contract: a line feed behind a carriage return belongs to it.
use Rattle.tokens.proofs.Records.{wrote-token-and, break-record}
use Rattle.standard.proofs.Rules.{break-return, break-feed}
use Rattle.standard.proofs.line_break.Goals as goal

pub returns-then-b-eq13 : goal.returns-then-b-eq13
returns-then-b-eq13 c = wrote-token-and (break-return _ _ _ _ c.if-b-eq13.true c.leads-k.ensures.0) (break-record c.bare.ensures) c.put.ensures c.tail.ensures

pub returns : goal.returns
returns c = wrote-token-and (break-feed _ _ _ c.if-b-eq13.false) (break-record c.bare.ensures) c.put.ensures c.tail-2.ensures
