-- The blocks that are left, with the room that is left, are answered as all of them.
use Rattle.stored.proofs.Checking.{Checking}
use Rattle.stored.proofs.check.check_blocks.Given as goal

abbrev pub invariant-loop : goal.invariant-loop
invariant-loop l = Checking l.k l.list l.t l.counter l.left l.before
