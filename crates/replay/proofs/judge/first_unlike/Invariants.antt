-- `first_unlike` meets its contract. The invariant: every word passed is the listed one.
use Prim.Native.Nat.{ℕ, ◌*◌, ◌<◌}
use mathlib.Core.Path.{◌≡◌}
use lib.ListN.{get_or}
use Rattle.replay.specs.Listed.{word_at}
use Rattle.replay.proofs.judge.first_unlike.Given as goal

abbrev pub invariant-loop-k : goal.invariant-loop-k
invariant-loop-k l = (j : ℕ) → j < l.k → get_or l.room j 0 ≡ word_at l.records (4 * j)
