-- `check_blocks` meets its contract.
use native.Mathlib.Omega.{arith}
use mathlib.Core.Path.{sym, ◌∙◌}
use Rattle.std.proofs.lemmas.Result.{err_from_is_err_and}
use Rattle.stored.proofs.Entries.{entry-is}
use Rattle.stored.proofs.Checking.{checking-bad, checking-text}
use Rattle.stored.proofs.Checking.{checking-more, checking-left, checking-end}
use Rattle.stored.proofs.check.check_blocks.Goals as goal

pub returns-in_err-e : goal.returns-in_err-e
returns-in_err-e c =
    let p = err_from_is_err_and c.from_residual.result c.from_residual.ensures.1 in
    rw (p.1, p.2) (λ b h. checking-bad c.loop.invariant (omega arith) b h (sym c.block_at.ensures ∙ c.in_err-e.was))

pub returns-then-left-e : goal.returns-then-left-e
returns-then-left-e c =
    λ b h. checking-text c.loop.invariant (omega arith) b h (sym c.block_at.ensures ∙ c.in_ok-e.was) c.if-left-e.true c.of.ensures

pub overflow_add-t : goal.overflow_add-t
overflow_add-t c =
    let w = entry-is _ _ (sym c.block_at.ensures ∙ c.in_ok-e.was) in
    let f = c.ranges in
    omega (arith, w.within)

pub slice_bounds-t-count : goal.slice_bounds-t-count
slice_bounds-t-count c =
    let w = entry-is _ _ (sym c.block_at.ensures ∙ c.in_ok-e.was) in
    omega (arith, w.within)

pub slice_bounds-t-start : goal.slice_bounds-t-start
slice_bounds-t-start c =
    let w = entry-is _ _ (sym c.block_at.ensures ∙ c.in_ok-e.was) in
    omega (arith, w.within)

pub loop-preserved : goal.loop-preserved
loop-preserved c = checking-more c.loop.invariant (omega arith) (sym c.block_at.ensures ∙ c.in_ok-e.was) c.if-left-e.false

pub returns-then-t-ne0 : goal.returns-then-t-ne0
returns-then-t-ne0 c = λ b h. checking-left c.loop.invariant (omega arith) b h (omega arith) c.of-then-t-ne0.ensures

pub returns : goal.returns
returns c = λ b h. checking-end c.loop.invariant (omega arith) b h (omega arith) (omega arith)
