-- The invariant: the digits from the index on, after v, give the whole value, and v is within the limit.
use Rattle.std.proofs.Common.{◌≤◌}
use Rattle.numbers.proofs.Numbers.{Digits}
use Rattle.numbers.proofs.digits_of.Given as goal

abbrev pub invariant-loop-b : goal.invariant-loop-b
invariant-loop-b l = (l.v ≤ l.limit) × Digits l.limit l.s l.v l.b-index
