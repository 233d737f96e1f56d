-- `replay` is safe and ends. The invariant: there are at most as many letters as bytes passed, and at most so many agree; the
-- bytes left are the measure.
use Prim.Native.Nat.{◌+◌, ◌≤◌}
use lib.ListN.{length}
use Rattle.letters.proofs.replay.Given as goal

abbrev pub invariant-loop-rest : goal.invariant-loop-rest
invariant-loop-rest g l = (l.tally.letters + length l.rest ≤ length l.file) × (l.tally.agree ≤ l.tally.letters)

abbrev pub decreases-loop-rest : goal.decreases-loop-rest
decreases-loop-rest g l = length l.rest
