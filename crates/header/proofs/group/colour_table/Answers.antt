-- `colour_table` meets its contract: refused by 10, or as the group's tokens are read.
use native.Mathlib.Omega.{arith}
use Rattle.header.proofs.Entering.{colours-read, colours-bad}
use Rattle.std.proofs.lemmas.Result.{err_from_is_err_and}
use Rattle.header.proofs.group.colour_table.Goals as goal

pub returns : goal.returns
returns c = ((λ src. colours-read src _ _ _ _ _ c.if-late.false (c.extent-h.ensures.0 src) c.extent-h.ensures.1 _ _ (c.read_colours.ensures src) c.in_ok-colours.was), c.extent-h.ensures.1)

pub returns-in_err-colours : goal.returns-in_err-colours
returns-in_err-colours c =
    let p = err_from_is_err_and c.from_residual.result c.from_residual.ensures.1 in
    rw (p.1, p.2) ((λ src. colours-bad src _ _ _ _ _ c.if-late.false (c.extent-h.ensures.0 src) c.extent-h.ensures.1 _ _ (c.read_colours.ensures src) c.in_err-colours.was), omega arith)
