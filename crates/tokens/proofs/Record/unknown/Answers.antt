-- `Record::unknown` meets its contract: its fields are what its two callees answer.
use Rattle.tokens.proofs.Record.unknown.Goals as goal

pub returns : goal.returns
returns c = cc
