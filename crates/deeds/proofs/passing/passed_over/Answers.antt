-- `passed_over` meets its contract: nothing is owed; a brace; as many characters as are owed, or more.
use mathlib.Core.Path.{sym, ◌∙◌}
use Rattle.runs.proofs.Saying.{ne-pos}
use Rattle.deeds.specs.Turns.{deed_at}
use Rattle.deeds.proofs.Owed.{passed_none, passed-brace, passed-by}
use Rattle.deeds.proofs.passing.passed_over.Goals as goal

pub returns-then-owed-eq0 : goal.returns-then-owed-eq0
returns-then-owed-eq0 c rd h l = passed_none rd _ _ h _ c.if-owed-eq0.true

pub returns-then-is_brace : goal.returns-then-is_brace
returns-then-is_brace c rd h l = passed-brace (deed_at rd c.args.source.now c.args.t.now h) _ (ne-pos c.if-owed-eq0.false) (c.is_brace.ensures rd _ h l) c.if-is_brace.true

pub returns : goal.returns
returns c rd h l = passed-by (deed_at rd c.args.source.now c.args.t.now h) _ (ne-pos c.if-owed-eq0.false) (c.is_brace.ensures rd _ h l) c.if-is_brace.false _ (c.count_of.ensures rd h l (sym (c.is_brace.ensures rd _ h l) ∙ c.if-is_brace.false))
