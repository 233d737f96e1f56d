-- `walk_tables` meets its contract. The invariant: what is left, from the tables in the rooms, gives the whole result. The
-- measure is how many tokens are left.
use Rattle.header.proofs.Walking.{Walking}
use Rattle.header.proofs.walk_tables.Given as goal

abbrev pub invariant-loop-n : goal.invariant-loop-n
invariant-loop-n l =
    Walking l.source l.tokens l.count l.initial.fonts l.initial.colours l.fonts l.colours l.t l.n l.held_fonts l.held_colours

abbrev pub decreases-loop-n : goal.decreases-loop-n
decreases-loop-n l = l.n
