-- `owed_by` meets its contract: a count in the specification's reading, or none.
use Rattle.runs.proofs.Saying.{owed_none, owed-some}
use Rattle.runs.proofs.owed_by.Goals as goal

pub returns-then-is_standard-skip : goal.returns-then-is_standard-skip
returns-then-is_standard-skip c = owed-some c.args.reading _ c.is_standard.ensures c.if-is_standard-skip.true

pub returns : goal.returns
returns c = owed_none c.args.reading _ c.is_standard.ensures c.if-is_standard-skip.false
