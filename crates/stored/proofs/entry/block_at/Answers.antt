-- `block_at` meets its contract: the numbers, and then the rules.
use mathlib.Core.Path.{refl}
use Rattle.fields.specs.Fields.{last_of}
use Rattle.std.proofs.lemmas.Result.{err_from_is_err_and}
use Rattle.stored.proofs.Branches.{block_refused, block-entry}
use Rattle.stored.proofs.entry.block_at.Goals as goal

pub returns-in_err-m : goal.returns-in_err-m
returns-in_err-m c =
    let p = err_from_is_err_and c.from_residual.result c.from_residual.ensures.1 in
    let n = c.numbers_at in
    rw (p.1, p.2) (block_refused (last_of c.args.before) c.args.s.now _ n.result refl n.ensures c.in_err-m.was)

pub returns : goal.returns
returns c =
    let n = c.numbers_at in
    block-entry (last_of c.args.before) c.args.s.now _ n.result refl n.ensures c.in_ok-m.was
    c.style_from-style.ensures c.wide-n.ensures c.ruled.ensures
