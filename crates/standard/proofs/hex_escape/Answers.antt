-- `hex_escape` meets its contract: too short, no number, or the symbol and text.
use mathlib.Core.Path.{refl}
use Rattle.rooms.proofs.Rooms.{wrote-stop}
use Rattle.tokens.specs.Tokens.{shown_layout}
use Rattle.tokens.proofs.Records.{wrote-token-and, symbol-record}
use Rattle.standard.proofs.Rules.{hex-short, hex-bad, hex-is}
use Rattle.std.proofs.lemmas.Result.{err_from_is_err_and}
use Rattle.answers.proofs.Results.{ok_or-none, ok_or-some}
use Rattle.standard.proofs.hex_escape.Goals as goal

pub returns-then-s-lt2 : goal.returns-then-s-lt2
returns-then-s-lt2 c = wrote-stop shown_layout (hex-short _ _ c.if-s-lt2.true) refl

pub returns-in_err-v : goal.returns-in_err-v
returns-in_err-v c =
    let p = err_from_is_err_and c.from_residual.result c.from_residual.ensures.1 in
    let o = ok_or-none _ _ c.ok_or.ensures.value c.in_err-v.was in
    rw (p.1, p.2) (wrote-stop shown_layout (hex-bad _ _ c.if-s-lt2.false _ c.hex_pair.ensures o.0) o.1)

pub returns : goal.returns
returns c = wrote-token-and (hex-is _ _ c.if-s-lt2.false _ c.hex_pair.ensures _ (ok_or-some _ _ c.ok_or.ensures.value c.in_ok-v.was)) (symbol-record _ _ c.symbol.ensures) c.put.ensures c.tail.ensures
