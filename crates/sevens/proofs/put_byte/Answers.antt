-- `put_byte` meets its contract: one store is the byte's record, where the room holds its place; else nothing is stored.
-- Assumes nothing.
use Rattle.sevens.proofs.Branches.{put_one, put-past}
use Rattle.sevens.proofs.put_byte.Goals as goal

pub returns-then-n-room : goal.returns-then-n-room
returns-then-n-room c = search (put_one)

pub returns-else-n-room : goal.returns-else-n-room
returns-else-n-room c = search (put-past)
