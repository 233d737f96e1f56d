-- `is_utf8` meets its contract: what is passed over is UTF-8 by itself, so that what is left gives the whole answer. The measure
-- is what is left.
use Prim.Native.Nat.{◌-◌}
use lib.ListN.{length}
use Rattle.wellformed.specs.Ascii.{Passed}
use Rattle.wellformed.proofs.is_utf8.Given as goal

abbrev pub invariant-loop-i : goal.invariant-loop-i
invariant-loop-i l = Passed l.s 0 l.i

abbrev pub decreases-loop-i : goal.decreases-loop-i
decreases-loop-i l = length l.s - l.i
