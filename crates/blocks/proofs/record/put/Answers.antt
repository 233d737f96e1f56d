-- `put` meets its contract: the style's words, and two stores behind them, where the room holds the record's place; else nothing is stored.
use mathlib.Core.Path.{◌∙◌, ap}
use native.Mathlib.Omega.{arith}
use lib.ListN.{length-set}
use lib.Seq.{sets}
use Rattle.rooms.proofs.Rooms.{put-out}
use Rattle.blocks.proofs.Records.{put_record}
use Rattle.blocks.proofs.record.put.Goals as goal

pub bounds-room-at-then-n-room : goal.bounds-room-at-then-n-room
bounds-room-at-then-n-room c = simp length-set (omega arith)

pub returns-then-n-room : goal.returns-then-n-room
returns-then-n-room c = put_record _ _ _ _ _ (omega arith) (c.lay.ensures ∙ ap (sets _ _) c.words-words.ensures)

pub returns-else-n-room : goal.returns-else-n-room
returns-else-n-room c = put-out _ _ _ _ c.if-n-room.false
