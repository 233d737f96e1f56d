-- The invariant of `seal`: whoever seals the records from i on has sealed all.
use Prim.Native.Nat.{◌-◌}
use mathlib.Core.Path.{◌≡◌}
use Rattle.tokens.specs.Tokens.{sealed_all}
use Rattle.tokens.proofs.seal.Given as goal

abbrev pub invariant-loop-i : goal.invariant-loop-i
invariant-loop-i l = sealed_all l.place l.length l.initial.room l.n (l.m - l.n) ≡ sealed_all l.place l.length l.room l.i (l.m - l.i)
