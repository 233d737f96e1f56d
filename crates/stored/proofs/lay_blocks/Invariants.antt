-- The blocks that are left, laid here, are all of them, laid at the start.
use Rattle.stored.proofs.Laying.{Going}
use Rattle.stored.proofs.lay_blocks.Given as goal

abbrev pub invariant-loop : goal.invariant-loop
invariant-loop l = Going l.k l.list l.initial.blocks l.initial.text l.t l.counter l.page l.before l.blocks l.text
