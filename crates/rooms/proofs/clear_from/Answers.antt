-- `clear_from` meets its contract: the part from `at` on is lent to `clear`; past the end there is none.
use Rattle.rooms.proofs.Clearing.{clear_none, clear-part}
use Rattle.rooms.proofs.clear_from.Goals as goal

pub returns-then-at-room : goal.returns-then-at-room
returns-then-at-room g c = clear-part _ _ _ _ c.if-at-room.true c.clear.ensures

pub returns-else-at-room : goal.returns-else-at-room
returns-else-at-room g c = clear_none _ _ _ c.if-at-room.false
