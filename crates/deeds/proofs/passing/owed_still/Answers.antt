-- `owed_still` meets its contract: a brace; as many characters as are owed, or more; fewer.
use mathlib.Core.Path.{sym, ◌∙◌}
use Rattle.deeds.specs.Turns.{deed_at}
use Rattle.deeds.proofs.Owed.{still-brace, still-left, still-none}
use Rattle.deeds.proofs.passing.owed_still.Goals as goal

pub returns-then-is_brace : goal.returns-then-is_brace
returns-then-is_brace c rd owes h l = still-brace (deed_at rd c.args.source.now c.args.t.now h) _ c.requires.1 (c.is_brace.ensures rd _ h l) c.if-is_brace.true owes

pub returns-then-owed-n : goal.returns-then-owed-n
returns-then-owed-n c rd owes h l = still-none (deed_at rd c.args.source.now c.args.t.now h) _ c.requires.1 (c.is_brace.ensures rd _ h l) c.if-is_brace.false owes _ (c.count_of-n.ensures rd h l (sym (c.is_brace.ensures rd _ h l) ∙ c.if-is_brace.false)) c.if-owed-n.true

pub returns : goal.returns
returns c rd owes h l = still-left (deed_at rd c.args.source.now c.args.t.now h) _ c.requires.1 (c.is_brace.ensures rd _ h l) c.if-is_brace.false owes _ (c.count_of-n.ensures rd h l (sym (c.is_brace.ensures rd _ h l) ∙ c.if-is_brace.false))
