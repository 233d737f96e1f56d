-- `numbers_at` meets its contract.
use mathlib.Core.Path.{sym, ◌∙◌}
use native.Mathlib.Omega.{arith}
use Rattle.std.proofs.lemmas.Result.{err_from_is_err_and}
use Rattle.sevens.proofs.Sevens.{number-within}
use Rattle.stored.proofs.Mapped.{mapped_ok, mapped_err}
use Rattle.stored.proofs.Reading.{reading-more, reading-not, reading-end}
use Rattle.stored.proofs.entry.numbers_at.Goals as goal

pub slice_bounds-t-count : goal.slice_bounds-t-count
slice_bounds-t-count c =
    let w = number-within _ (sym c.number_at.ensures ∙ mapped_ok c.number_at.result c.map_err.ensures.cases c.in_ok-n.was) in
    omega arith

pub slice_bounds-t-start : goal.slice_bounds-t-start
slice_bounds-t-start c =
    let w = number-within _ (sym c.number_at.ensures ∙ mapped_ok c.number_at.result c.map_err.ensures.cases c.in_ok-n.was) in
    omega arith

pub loop-word-preserved : goal.loop-word-preserved
loop-word-preserved c =
    reading-more c.loop-word.invariant (omega arith)
    (sym c.number_at.ensures ∙ mapped_ok c.number_at.result c.map_err.ensures.cases c.in_ok-n.was)

pub returns-in_err-n : goal.returns-in_err-n
returns-in_err-n c =
    let p = err_from_is_err_and c.from_residual.result c.from_residual.ensures.1 in
    let w = mapped_err c.number_at.result c.map_err.ensures.cases c.in_err-n.was in
    rw p.1 (reading-not c.loop-word.invariant (omega arith) _ _ (sym c.number_at.ensures ∙ w.1) (p.2 ∙ w.2))

pub returns : goal.returns
returns c = reading-end c.loop-word.invariant (omega arith)
