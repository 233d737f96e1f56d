-- `seal_one` meets its contract: two stores, where the room holds the record; else nothing is stored.
use native.Mathlib.Omega.{arith}
use lib.ListN.{length-set}
use Rattle.tokens.proofs.Sealing.{seal-in, seal-out}
use Rattle.tokens.proofs.seal_one.Goals as goal

pub bounds-room-at : goal.bounds-room-at
bounds-room-at c = omega arith

pub bounds-room-at-then-n-room : goal.bounds-room-at-then-n-room
bounds-room-at-then-n-room c = simp length-set (omega arith)

pub returns-then-n-room : goal.returns-then-n-room
returns-then-n-room c = seal-in _ _ _ _ (omega arith)

pub returns-else-n-room : goal.returns-else-n-room
returns-else-n-room c = seal-out _ _ _ _ c.if-n-room.false
