-- `lay_blocks` meets its contract.
use native.Mathlib.Omega.{arith}
use mathlib.Core.Path.{sym, refl, ◌∙◌}
use lib.ListN.{length-take, length-drop}
use Rattle.std.proofs.lemmas.Result.{err_from_is_err_and}
use Rattle.stored.proofs.Entries.{entry-is}
use Rattle.stored.proofs.Mapped.{mapped_ok, mapped_err}
use Rattle.stored.proofs.Laying.{going-bad, going-full, going_more, going-left, going_end}
use Rattle.stored.proofs.lay_blocks.Goals as goal

pub returns-in_err-e-clause-laid : goal.returns-in_err-e-clause-laid
returns-in_err-e-clause-laid c =
    let p = err_from_is_err_and c.from_residual.result c.from_residual.ensures.1 in
    rw (p.1, p.2) (going-bad c.loop.invariant (omega arith) (sym c.block_at.ensures ∙ c.in_err-e.was))

pub slice_bounds-u-count : goal.slice_bounds-u-count
slice_bounds-u-count c =
    let w = entry-is _ _ (sym c.block_at.ensures ∙ c.in_ok-e.was) in
    omega (arith, w.within)

pub slice_bounds-u-start : goal.slice_bounds-u-start
slice_bounds-u-start c =
    let w = entry-is _ _ (sym c.block_at.ensures ∙ c.in_ok-e.was) in
    omega (arith, w.within)

pub slice_bounds-add-end : goal.slice_bounds-add-end
slice_bounds-add-end c =
    let w = entry-is _ _ (sym c.block_at.ensures ∙ c.in_ok-e.was) in
    simp (length-take, length-drop) (omega (arith, w.within))

pub returns-in_err-map_err-clause-laid : goal.returns-in_err-map_err-clause-laid
returns-in_err-map_err-clause-laid c =
    let p = err_from_is_err_and c.from_residual-in_err-map_err.result c.from_residual-in_err-map_err.ensures.1 in
    let w = mapped_err c.add.result c.map_err.ensures.cases c.in_err-map_err.was in
    rw p.1 (going-full c.loop.invariant (omega arith) (sym c.block_at.ensures ∙ c.in_ok-e.was) refl _ _ _ c.add.ensures.laid w.1 (p.2 ∙ w.2))

pub slice_bounds-t-count : goal.slice_bounds-t-count
slice_bounds-t-count c =
    let w = entry-is _ _ (sym c.block_at.ensures ∙ c.in_ok-e.was) in
    simp (length-take, length-drop) (omega (arith, w.within))

pub slice_bounds-t-start : goal.slice_bounds-t-start
slice_bounds-t-start c =
    let w = entry-is _ _ (sym c.block_at.ensures ∙ c.in_ok-e.was) in
    simp (length-take, length-drop) (omega (arith, w.within))

pub loop-preserved : goal.loop-preserved
loop-preserved c =
    going_more c.loop.invariant (omega arith) (sym c.block_at.ensures ∙ c.in_ok-e.was) refl _ _ _ c.add.ensures.laid
    (mapped_ok c.add.result c.map_err.ensures.cases c.in_ok-map_err.was) c.add.ensures.ready c.add.auto.blocks c.add.auto.text

pub returns-then-t-gt0-clause-laid : goal.returns-then-t-gt0-clause-laid
returns-then-t-gt0-clause-laid c = going-left c.loop.invariant (omega arith) (omega arith) c.of.ensures

pub returns-clause-laid : goal.returns-clause-laid
returns-clause-laid c = going_end c.loop.invariant (omega arith) (omega arith)
