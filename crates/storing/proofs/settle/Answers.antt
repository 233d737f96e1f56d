-- `settle` meets its contract: a count within the total, or one beyond.
use Rattle.std.proofs.lemmas.Result.{err_from_is_err_and}
use Rattle.storing.proofs.Settling.{settle-fits, settle-over, settle-refused}
use Rattle.storing.proofs.settle.Goals as goal

pub returns-in_err-n : goal.returns-in_err-n
returns-in_err-n c =
    let p = err_from_is_err_and c.from_residual.result c.from_residual.ensures.1 in
    rw (p.1, p.2) (settle-refused c.args.total c.in_err-n.was)

pub returns-then-n-total : goal.returns-then-n-total
returns-then-n-total c = settle-fits c.args.total c.in_ok-n.was c.if-n-total.true

pub returns : goal.returns
returns c = settle-over c.args.total c.in_ok-n.was c.if-n-total.false c.of.ensures
