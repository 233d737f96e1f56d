-- `put_number` meets its contract. The invariant: who writes the groups of what is left has written the number. The measure is
-- what is left.
-- Assumes nothing.
use Rattle.sevens.proofs.Bits.{byte_or, byte-and}
use Rattle.sevens.proofs.Branches.{putting-start, putting-more, putting-same, putting-done}
use borrow.Author.Rules.{rules}
use Rattle.sevens.proofs.put_number.Goals as goal

pub loop-rest-init : goal.loop-rest-init
loop-rest-init c = search (putting-start, rules)

pub overflow_cast-b : goal.overflow_cast-b
overflow_cast-b c = search (byte_or, byte-and, rules)

pub loop-rest-preserved : goal.loop-rest-preserved
loop-rest-preserved c = search (putting-more)

pub shape_of-room : goal.shape_of-room
shape_of-room c = search (putting-same)

pub returns : goal.returns
returns c = search (putting-done)
