-- What the test of a high surrogate says, and the parts of a conjunction.
--     and_left, and_right                  both parts of `&&`
--     high-from, high-to                   a high surrogate's range
--     high-waits, high-surrogate           it is not 0, and it is a surrogate
-- Assumes nothing.
use mathlib.Core.Path.{◌≡◌, refl}
use mathlib.Core.Bool.{Bool, true, false, ◌&&◌}
use Prim.Native.Nat.{ℕ, ◌≤◌}
use native.Mathlib.Omega.{arith}
use lib.Dec.{leb, ltb}
use borrow.Author.Tests.{leb-true, lt-ltb, le-leb}
use Rattle.units.specs.Units.{is_high}

pub and_left : (a b : Bool) → a && b ≡ true → a ≡ true
and_left true b p = refl
and_left false b p = p

pub and_right : (a b : Bool) → a && b ≡ true → b ≡ true
and_right true b p = p
and_right false true p = refl
and_right false false p = p

module _ (u : ℕ) (p : is_high u ≡ true) where
  pub high-from : 55296 ≤ u
  high-from = leb-true 55296 u (and_left (leb 55296 u) (leb u 56319) p)

  pub high-to : u ≤ 56319
  high-to = leb-true u 56319 (and_right (leb 55296 u) (leb u 56319) p)

  pub high-waits : ltb 0 u ≡ true
  high-waits = lt-ltb 0 u (omega (arith, high-from))

  pub high-surrogate : leb 55296 u && leb u 57343 ≡ true
  high-surrogate = rw (le-leb 55296 u high-from, le-leb u 57343 (omega (arith, high-to)))
