-- `turn` meets its contract: a token that is passed over; a `u` word; no room for what a run owes; or what a token does behind its run.
use mathlib.Core.Path.{sym, ◌∙◌}
use Rattle.std.proofs.lemmas.Result.{err_from_is_err_and}
use Rattle.deeds.proofs.Words.{gave-ended}
use Rattle.deeds.proofs.Turning.{turns-passed, turns-step, turns-full, turns-behind}
use Rattle.deeds.proofs.turn.Goals as goal

pub returns-then-passed_over : goal.returns-then-passed_over
returns-then-passed_over c = let s = c in turns-passed _ _ s.requires.1 s.requires.0 s.requires.2 _ _ _ (sym (c.passed_over.ensures s.args.reading _ s.requires.4) ∙ c.if-passed_over.true)

pub returns-then-is_unit : goal.returns-then-is_unit
returns-then-is_unit c = let s = c in turns-step _ _ _ _ _ _ _ _ _ (sym c.is_unit.ensures ∙ c.if-is_unit.true) s.requires.4 (sym (c.passed_over.ensures s.args.reading _ s.requires.4) ∙ c.if-passed_over.false) _ c.number_at.ensures.0 c.unit_token.ensures

pub token-requires : goal.token-requires
token-requires c =
    let s = c in
    let e = c.end_run in
    (s.requires.0, s.requires.1, rw (e.auto.blocks, e.auto.text) e.ensures.ready, s.requires.3, (sym (c.passed_over.ensures s.args.reading _ s.requires.4) ∙ c.if-passed_over.false))

pub returns-in_err-end_run : goal.returns-in_err-end_run
returns-in_err-end_run c =
    let s = c in
    let e = c.end_run in
    let p = err_from_is_err_and c.from_residual.result c.from_residual.ensures.1 in
    rw (p.1, p.2) (turns-full _ _ _ _ s.args.run.now _ _ (gave-ended _ _ _ _ _ _ _ (sym c.is_unit.ensures ∙ c.if-is_unit.false) (sym (c.passed_over.ensures s.args.reading _ s.requires.4) ∙ c.if-passed_over.false)) _ (rw c.in_err-end_run.was at e.ensures.laid) s.requires.1 _ e.ensures.ready)

pub returns : goal.returns
returns c =
    let s = c in
    let e = c.end_run in
    turns-behind _ _ _ _ s.args.run.now _ _ (gave-ended _ _ _ _ _ _ _ (sym c.is_unit.ensures ∙ c.if-is_unit.false) (sym (c.passed_over.ensures s.args.reading _ s.requires.4) ∙ c.if-passed_over.false)) _ _ _ (rw c.in_ok-end_run.was at e.ensures.laid) e.ensures.run_after (rw (← e.auto.blocks, ← e.auto.text) c.token.ensures)
