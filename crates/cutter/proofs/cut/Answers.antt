-- `cut` meets its contract: a refusal, tokens that fit, or tokens too many.
use mathlib.Core.Path.{◌∙◌}
use Rattle.cutter.proofs.Tokens.{cuts}
use Rattle.cutter.proofs.Source.{settle-refused, settle-fits, settle-over, room-refused, room_fits}
use Rattle.cutter.proofs.cut.Goals as goal

pub returns-then-n-room : goal.returns-then-n-room
returns-then-n-room c =
    cuts _ _ _ (settle-fits _ _ c.whole.ensures c.in-Ok.is c.if-n-room.true) (room_fits _ _ c.whole.ensures c.in-Ok.is c.if-n-room.true c.clear_from.ensures)

pub returns-in-Err : goal.returns-in-Err
returns-in-Err c =
    let e = settle-refused _ _ c.whole.ensures c.in-Err.is in
    cuts _ _ _ (c.refuse.ensures.answer ∙ e) (room-refused _ _ c.whole.ensures e c.refuse.ensures.content)

pub returns-else-n-room : goal.returns-else-n-room
returns-else-n-room c =
    let e = settle-over _ _ c.whole.ensures c.in-Ok.is c.if-n-room.false c.of.ensures in
    cuts _ _ _ (c.refuse-in-Ok.ensures.answer ∙ e) (room-refused _ _ c.whole.ensures e c.refuse-in-Ok.ensures.content)
