-- `lay_values` meets its contract: no room for the first, the second behind it, or the second alone.
use Rattle.std.proofs.lemmas.Result.{err_from_is_err_and}
use Rattle.runs.proofs.Saying.{values-full, values-more, values_one}
use Rattle.runs.proofs.lay_values.Goals as goal
use Rattle.runs.proofs.lay_values.Goals.{then-g+in_ok-lay_value, else-g}

pub returns-in_err-lay_value-clause-laid : goal.returns-in_err-lay_value-clause-laid
returns-in_err-lay_value-clause-laid c =
    let p = err_from_is_err_and c.from_residual.result c.from_residual.ensures.1 in
    rw (p.1, p.2) (values-full _ _ _ c.if-g.true (rw c.in_err-lay_value.was at c.lay_value.ensures.laid))

pub returns-clause-laid : goal.returns-clause-laid
returns-clause-laid c =
    elim c.if-g.branch [
      | then-g+in_ok-lay_value w ↦
          values-more _ _ _ w.if-g.true c.if-g.page c.if-g.blocks c.if-g.text
          (rw (w.page-is, w.blocks-is, w.text-is) (rw w.in_ok-lay_value.was at w.lay_value.ensures.laid)) c.lay_value-2.ensures.laid
      | else-g w ↦ values_one _ _ _ w.if-g.false (rw (w.page-is, w.blocks-is, w.text-is) at c.lay_value-2.ensures.laid)
    ]
