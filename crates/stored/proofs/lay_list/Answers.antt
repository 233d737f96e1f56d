-- `lay_list` meets its contract: the count, and then the blocks.
use mathlib.Core.Path.{refl}
use native.Mathlib.Omega.{arith}
use mathlib.Core.Path.{sym, ◌∙◌}
use Rattle.std.proofs.lemmas.Result.{err_from_is_err_and}
use Rattle.sevens.proofs.Sevens.{number-within}
use Rattle.stored.proofs.Mapped.{mapped_ok, mapped_err}
use Rattle.stored.proofs.Whole.{lay-is, lay-not}
use Rattle.stored.proofs.lay_list.Goals as goal

pub returns-in_err-n-clause-laid : goal.returns-in_err-n-clause-laid
returns-in_err-n-clause-laid c =
    let p = err_from_is_err_and c.from_residual.result c.from_residual.ensures.1 in
    let w = mapped_err c.number_at.result c.map_err.ensures.cases c.in_err-n.was in
    rw p.1 (lay-not c.args.list.now c.args.blocks.now c.args.text.now (sym c.number_at.ensures ∙ w.1) (p.2 ∙ w.2))

pub slice_bounds-lay_blocks-count : goal.slice_bounds-lay_blocks-count
slice_bounds-lay_blocks-count c =
    let w = number-within _ (sym c.number_at.ensures ∙ mapped_ok c.number_at.result c.map_err.ensures.cases c.in_ok-n.was) in
    omega arith

pub slice_bounds-lay_blocks-start : goal.slice_bounds-lay_blocks-start
slice_bounds-lay_blocks-start c =
    let w = number-within _ (sym c.number_at.ensures ∙ mapped_ok c.number_at.result c.map_err.ensures.cases c.in_ok-n.was) in
    omega arith

pub returns-clause-laid : goal.returns-clause-laid
returns-clause-laid c =
    lay-is c.args.list.now c.args.blocks.now c.args.text.now
    (sym c.number_at.ensures ∙ mapped_ok c.number_at.result c.map_err.ensures.cases c.in_ok-n.was)
    refl c.lay_blocks.ensures.laid
