-- `line_break` meets its contract: the line break, and a plain tail.
use Rattle.tokens.proofs.Records.{wrote-token-and, break-record}
use Rattle.tokenize.proofs.Rules.{break-at}
use Rattle.tokenize.proofs.line_break.Goals as goal

pub returns : goal.returns
returns c = wrote-token-and (break-at _ _) (break-record c.bare.ensures) c.put.ensures c.plain.ensures
