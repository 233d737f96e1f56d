-- `attempt` meets its contract: the cutter refuses, or the parser's answer stands.
use Prim.Native.Nat.{ℕ}
use mathlib.Core.Path.{◌≡◌}
use native.Mathlib.Omega.{arith}
use Rattle.parser.specs.Parsing.{sizes}
use Rattle.reader.proofs.Whole.{cut-refused, cut-parsed}
use Rattle.std.proofs.lemmas.Result.{err_from_is_err_and}
use Rattle.reader.proofs.attempt.Goals as goal

pub parse-requires : goal.parse-requires
parse-requires c =
    let d = c.in_ok-n.was in
    let w = c.cut.ensures in
    let f = rw d at w.fits in
    let k = c.cut.auto.reading in
    (omega arith, rw d at w.few)

pub returns-in_err-n-clause-letter : goal.returns-in_err-n-clause-letter
returns-in_err-n-clause-letter c =
    let a = c.args in
    let p = err_from_is_err_and c.from_residual.result c.from_residual.ensures.1 in
    rw (p.1, p.2) (cut-refused a.reading a.source.now (sizes a.tokens.now a.fonts.now a.colours.now a.blocks.now a.text.now) c.cut.ensures.answer c.in_err-n.was _ _ _ _ _)

pub returns-clause-letter : goal.returns-clause-letter
returns-clause-letter c =
    let a = c.args in
    cut-parsed a.reading a.source.now (sizes a.tokens.now a.fonts.now a.colours.now a.blocks.now a.text.now) c.cut.ensures.answer c.in_ok-n.was _
    (c.cut.ensures.counts _ c.in_ok-n.was) (c.cut.ensures.reads _ c.in_ok-n.was) c.cut.auto.room _ _ _ _ _ c.parse.ensures

pub returns-clause-few : goal.returns-clause-few
returns-clause-few c k q =
    let d = c.in_ok-n.was in
    let n = c.cut.ensures.counts _ d in
    let f = rw d at c.cut.ensures.few in
    omega arith
