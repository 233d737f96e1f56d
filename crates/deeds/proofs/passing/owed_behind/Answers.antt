-- `owed_behind` meets its contract: some are owed already; a `u` word; another token.
use mathlib.Core.Path.{sym, ◌∙◌}
use Rattle.deeds.proofs.Owed.{owed-word, owed-other}
use Rattle.deeds.proofs.passing.owed_behind.Goals as goal

pub returns-then-owed-gt0 : goal.returns-then-owed-gt0
returns-then-owed-gt0 c h l = c.owed_still.ensures _ _ h l

pub returns-then-is_unit : goal.returns-then-is_unit
returns-then-is_unit c h l = c.owes_at.ensures ∙ owed-word c.args.reading _ _ _ h _ c.if-owed-gt0.false (sym c.is_unit.ensures ∙ c.if-is_unit.true) l

pub returns : goal.returns
returns c h l = owed-other c.args.reading _ _ _ h _ c.if-owed-gt0.false (sym c.is_unit.ensures ∙ c.if-is_unit.false)
