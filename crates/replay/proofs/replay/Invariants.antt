-- `replay` is safe and ends. The invariant: there are at most as many answers as bytes passed, and at most so many
-- differ; the bytes left are the measure.
use Prim.Native.Nat.{◌+◌, ◌≤◌}
use lib.ListN.{length}
use Rattle.replay.proofs.replay.Given as goal

abbrev pub invariant-loop-answer : goal.invariant-loop-answer
invariant-loop-answer g l = (l.answers + length l.rest ≤ length l.list) × (l.differ ≤ l.answers)

abbrev pub decreases-loop-answer : goal.decreases-loop-answer
decreases-loop-answer g l = length l.rest
