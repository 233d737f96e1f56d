-- `numbered` meets its contract: no number, a number, or one that is none. Assumes nothing.
use mathlib.Core.Path.{◌∙◌}
use Rattle.rooms.proofs.Rooms.{wrote-stop}
use Rattle.tokens.specs.Tokens.{shown_layout}
use Rattle.tokens.proofs.Records.{wrote-token}
use Rattle.controls.proofs.Words.{numbered-bad, numbered_is}
use Rattle.tokenize.proofs.Rules.{named-bare, named-numbered}
use Rattle.std.proofs.lemmas.Result.{err_from_is_err_and}
use Rattle.answers.proofs.Results.{ok_or-none, ok_or-some}
use Rattle.tokenize.proofs.quick.numbered.Goals as goal

pub returns-then-e-w : goal.returns-then-e-w
returns-then-e-w c = wrote-token (named-bare _ _ _ c.requires.ends.0 c.if-e-w.true) c.word_record.ensures c.put.ensures

pub returns-in_err-v : goal.returns-in_err-v
returns-in_err-v c =
    let p = err_from_is_err_and c.from_residual.result c.from_residual.ensures.1 in
    let o = ok_or-none _ _ c.ok_or.ensures.value c.in_err-v.was in
    rw (p.1, p.2) (wrote-stop shown_layout (named-numbered _ _ _ c.requires.ends.0 c.if-e-w.false ∙ numbered-bad _ _ _ _ c.decimal_of.ensures o.0) o.1)

pub returns : goal.returns
returns c = wrote-token (named-numbered _ _ _ c.requires.ends.0 c.if-e-w.false ∙ numbered_is _ _ _ _ c.decimal_of.ensures _ (ok_or-some _ _ c.ok_or.ensures.value c.in_ok-v.was)) c.word_record-2.ensures c.put-2.ensures
