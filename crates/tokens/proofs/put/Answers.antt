-- `put` meets its contract: six stores are the record's words, where the room holds its place; else nothing is stored.
use native.Mathlib.Omega.{arith}
use lib.ListN.{length-set}
use Rattle.rooms.proofs.Rooms.{put-out}
use Rattle.tokens.proofs.Records.{put_six}
use Rattle.tokens.proofs.put.Goals as goal

pub bounds-room-at-then-n-room : goal.bounds-room-at-then-n-room
bounds-room-at-then-n-room c = simp length-set (omega arith)

pub bounds-room-at-then-n-room-2 : goal.bounds-room-at-then-n-room-2
bounds-room-at-then-n-room-2 c = simp length-set (omega arith)

pub bounds-room-at-then-n-room-3 : goal.bounds-room-at-then-n-room-3
bounds-room-at-then-n-room-3 c = simp length-set (omega arith)

pub bounds-room-at-then-n-room-4 : goal.bounds-room-at-then-n-room-4
bounds-room-at-then-n-room-4 c = simp length-set (omega arith)

pub bounds-room-at-then-n-room-5 : goal.bounds-room-at-then-n-room-5
bounds-room-at-then-n-room-5 c = simp length-set (omega arith)

pub returns-then-n-room : goal.returns-then-n-room
returns-then-n-room c = put_six _ _ _ (omega arith)

pub returns-else-n-room : goal.returns-else-n-room
returns-else-n-room c = put-out _ _ _ _ c.if-n-room.false
