-- `lay_value` meets its contract: the value, or none.
use Rattle.runs.proofs.Saying.{value-some, value_none}
use Rattle.runs.proofs.lay_value.Goals as goal

pub returns-in-Some-clause-laid : goal.returns-in-Some-clause-laid
returns-in-Some-clause-laid c = value-some _ _ _ _ _ c.in-Some.is c.character.ensures.laid

pub returns-in-None-clause-laid : goal.returns-in-None-clause-laid
returns-in-None-clause-laid c = value_none _ _ _ _ c.in-None.is
