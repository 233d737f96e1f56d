-- `step_by` meets its contract: by whether the reading is the specification's.
use Rattle.runs.proofs.Saying.{step-standard, step_other}
use Rattle.runs.proofs.step_by.Goals as goal

pub returns-then-is_standard : goal.returns-then-is_standard
returns-then-is_standard c = step-standard c.args.reading _ c.is_standard.ensures c.if-is_standard.true _ _ c.standard_step.ensures

pub returns : goal.returns
returns c = step_other c.args.reading _ c.is_standard.ensures c.if-is_standard.false _ _ c.step.ensures
