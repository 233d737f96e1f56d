-- `signed` meets its contract: a minus sign, and how far the number lies below 0.
use Rattle.lines.proofs.Pages.{put_as, put_then}
use Rattle.lines.proofs.Lines.{signed-down}
use Rattle.lines.proofs.signed.Goals as goal

pub returns : goal.returns
returns c = put_as (signed-down _ _ _ c.if-value-lt2147483648.false c.below_zero.ensures) (put_then c.push-end.ensures c.push-end.auto.page c.number-2.ensures)
