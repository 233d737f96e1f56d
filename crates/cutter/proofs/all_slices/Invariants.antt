-- `all_slices` meets its contract. The invariant: whoever cuts what is left has cut all; the bytes left are the measure.
use lib.ListN.{length}
use Rattle.cutter.proofs.Loop.{Loop}
use Rattle.cutter.proofs.all_slices.Given as goal

abbrev pub invariant-loop-t : goal.invariant-loop-t
invariant-loop-t l = Loop l.reading l.place l.s l.initial.room l.room l.t l.p l.n

abbrev pub decreases-loop-t : goal.decreases-loop-t
decreases-loop-t l = length l.t
