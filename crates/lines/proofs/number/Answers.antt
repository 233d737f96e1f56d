-- `number` meets its contract: the fewest digits that hold a number spell it.
use native.Mathlib.Omega.{arith}
use Rattle.lines.proofs.Pages.{put_as, put_then}
use Rattle.lines.proofs.Decimals.{decimal-is}
use Rattle.lines.proofs.number.Goals as goal

pub returns : goal.returns
returns c =
    put_then
    (put_as (decimal-is _ _ _ (omega arith) c.decimal-k.ensures.len c.decimal-k.ensures.digits) c.append-end.ensures)
    c.append-end.auto.page
    c.push.ensures
