-- The invariant: the value up to the index, and the room as it was from there on.
use mathlib.Core.Path.{◌≡◌}
use mathlib.Core.List.{◌++◌}
use lib.ListN.{drop, replicate}
use Rattle.rooms.proofs.clear.Given as goal

abbrev pub invariant-loop-x : goal.invariant-loop-x
invariant-loop-x g l = l.room ≡ replicate l.x-index l.zero ++ drop l.x-index l.initial.room
