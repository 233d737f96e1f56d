-- `read_body` meets its contract: a refusal, or the pieces that found room, as blocks and text.
use native.Mathlib.Omega.{arith}
use lib.ListN.{length}
use Rattle.blocks.proofs.Settling.{count-words}
use Rattle.parser.proofs.Parts.{body-full, body-laid}
use Rattle.std.proofs.lemmas.Result.{err_from_is_err_and}
use Rattle.parser.proofs.read_body.Goals as goal

pub overflow_mul-page : goal.overflow_mul-page
overflow_mul-page c =
    let start = c in
    let b = start.well_formed in
    let h = count-words (length start.args.blocks.now) (length start.args.text.now) (rw c.in_ok-page.was at c.lay_body.ensures.still) in
    omega arith

pub returns-in_err-page : goal.returns-in_err-page
returns-in_err-page c =
    let start = c in
    let p = err_from_is_err_and c.from_residual.result c.from_residual.ensures.1 in
    rw (p.1, p.2) (body-full start.args.reading _ start.args.blocks.now start.args.text.now _ _ _ _ _ _ c.lay_body.ensures.laid c.in_err-page.was _ _)

pub returns : goal.returns
returns c =
    let start = c in
    body-laid start.args.reading _ start.args.blocks.now start.args.text.now _ _ _ _ _ _ c.lay_body.ensures.laid c.in_ok-page.was
    c.clear_from.ensures c.clear_from-2.ensures
