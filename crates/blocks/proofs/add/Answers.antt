-- `add` meets its contract: no room for a block, or a block and then the text.
use Rattle.blocks.proofs.Writing.{add-full, add-begun}
use Rattle.std.proofs.lemmas.Result.{err_from_is_err_and}
use Rattle.blocks.proofs.add.Goals as goal

pub returns-in_err-start-clause-laid : goal.returns-in_err-start-clause-laid
returns-in_err-start-clause-laid c =
    let p = err_from_is_err_and c.from_residual.result c.from_residual.ensures.1 in
    rw (p.1, p.2) (add-full _ _ _ _ _ _ _ c.start.result (c.start.ensures.laid c.args.text.now) _ c.in_err-start.was)

pub returns-clause-laid : goal.returns-clause-laid
returns-clause-laid c = add-begun _ _ _ _ _ _ _ c.start.result (c.start.ensures.laid c.args.text.now) _ c.in_ok-start.was c.append.ensures.laid
