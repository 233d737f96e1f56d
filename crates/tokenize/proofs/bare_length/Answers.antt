-- `bare_length` meets its contract: the last byte is a semicolon, or not.
use Rattle.tokenize.proofs.Rules.{bare-none, bare-semicolon, bare-other}
use Rattle.tokenize.proofs.bare_length.Goals as goal

pub returns-then-k-eq0-clause-value : goal.returns-then-k-eq0-clause-value
returns-then-k-eq0-clause-value c = bare-none _ c.if-k-eq0.true

pub returns-then-w-last-eq59-clause-value : goal.returns-then-w-last-eq59-clause-value
returns-then-w-last-eq59-clause-value c = bare-semicolon _ c.if-w-last-eq59.true

pub returns-clause-value : goal.returns-clause-value
returns-clause-value c = bare-other _ c.if-w-last-eq59.false
