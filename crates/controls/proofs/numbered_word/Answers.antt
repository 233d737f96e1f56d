-- `numbered_word` meets its contract: its digits write no number, or one.
use Rattle.std.proofs.lemmas.Result.{err_from_is_err_and}
use Rattle.answers.proofs.Results.{ok_or-none, ok_or-some}
use Rattle.rooms.proofs.Rooms.{wrote-stop}
use Rattle.tokens.specs.Tokens.{shown_layout}
use Rattle.tokens.proofs.Records.{wrote-token}
use Rattle.controls.proofs.Words.{numbered-bad, numbered_is}
use Rattle.controls.proofs.numbered_word.Goals as goal

pub returns-in_err-v : goal.returns-in_err-v
returns-in_err-v c =
    let p = err_from_is_err_and c.from_residual.result c.from_residual.ensures.1 in
    let o = ok_or-none _ _ c.ok_or.ensures.value c.in_err-v.was in
    rw (p.1, p.2) (wrote-stop shown_layout (numbered-bad _ _ _ _ c.decimal_of.ensures o.0) o.1)

pub returns : goal.returns
returns c = wrote-token (numbered_is _ _ _ _ c.decimal_of.ensures _ (ok_or-some _ _ c.ok_or.ensures.value c.in_ok-v.was)) c.word_record.ensures c.put.ensures
