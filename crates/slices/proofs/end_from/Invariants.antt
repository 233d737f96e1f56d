-- `end_from` meets its contract. The invariant: i bytes of the slice are passed.
use Prim.Native.Nat.{◌+◌, ◌-◌}
use lib.ListN.{get_or, drop}
use Rattle.slices.specs.Slices.{up_to}
use Rattle.slices.proofs.Ends.{At}
use Rattle.slices.proofs.end_from.Given as goal

abbrev pub invariant-loop-i : goal.invariant-loop-i
invariant-loop-i l = At l.s (l.from + up_to (get_or l.s (l.from - 1) 0) (drop l.from l.s)) l.i
