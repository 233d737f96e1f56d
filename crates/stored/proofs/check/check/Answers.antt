-- `check` meets its contract: the count, and then the blocks.
use mathlib.Core.Path.{refl}
use native.Mathlib.Omega.{arith}
use mathlib.Core.Path.{sym, ◌∙◌}
use Rattle.std.proofs.lemmas.Result.{err_from_is_err_and}
use Rattle.sevens.proofs.Sevens.{number-within}
use Rattle.stored.proofs.Mapped.{mapped_ok, mapped_err}
use Rattle.stored.proofs.Checking.{check-is, check-not}
use Rattle.stored.proofs.check.check.Goals as goal

pub returns-in_err-n : goal.returns-in_err-n
returns-in_err-n c =
    let p = err_from_is_err_and c.from_residual.result c.from_residual.ensures.1 in
    let w = mapped_err c.number_at.result c.map_err.ensures.cases c.in_err-n.was in
    rw p.1 (check-not c.args.list.now (sym c.number_at.ensures ∙ w.1) (p.2 ∙ w.2))

pub slice_bounds-check_blocks-count : goal.slice_bounds-check_blocks-count
slice_bounds-check_blocks-count c =
    let w = number-within _ (sym c.number_at.ensures ∙ mapped_ok c.number_at.result c.map_err.ensures.cases c.in_ok-n.was) in
    omega arith

pub slice_bounds-check_blocks-start : goal.slice_bounds-check_blocks-start
slice_bounds-check_blocks-start c =
    let w = number-within _ (sym c.number_at.ensures ∙ mapped_ok c.number_at.result c.map_err.ensures.cases c.in_ok-n.was) in
    omega arith

pub returns : goal.returns
returns c =
    check-is c.args.list.now (sym c.number_at.ensures ∙ mapped_ok c.number_at.result c.map_err.ensures.cases c.in_ok-n.was)
    refl c.check_blocks.ensures
