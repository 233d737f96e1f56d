-- First bytes, and what they owe: a law for each range of the table, in its order.
--     inside, outside                   a byte in a range, and behind one
--     first-low, first-high, is-first   what the test of a first byte says; the code's test
--     behind-1 .. behind-9              the ranges behind a first byte
-- Assumes nothing.
use mathlib.Core.Path.{◌≡◌, refl}
use mathlib.Core.List.{[], ◌∷◌}
use mathlib.Core.Bool.{Bool, true, false, ◌&&◌, ◌||◌}
use Prim.Native.Nat.{ℕ, ◌≤◌, ◌<◌}
use native.Mathlib.Omega.{arith}
use lib.Dec.{leb, leb-zero}
use borrow.Author.Tests.{leb-true, le-leb, lt-leb}
use Rattle.classes.proofs.Runs.{and_left, and_right}
use Rattle.wellformed.specs.WellFormed.{◌to◌, within, tail, is_first, behind}

pub inside : (low high b : ℕ) → low ≤ b → b ≤ high → within (low to high) b ≡ true
inside low high b h k = rw (le-leb low b h, le-leb b high k)

pub outside : (low high b : ℕ) → high < b → within (low to high) b ≡ false
outside low high b h = rw (lt-leb b high h) (go (leb low b))
  where
    go : (t : Bool) → t && false ≡ false
    go true = refl
    go false = refl

pub is-first : (b : ℕ) → leb b 127 || within (194 to 244) b ≡ is_first b
is-first b = rw (leb-zero b)

module _ (b : ℕ) (f : is_first b ≡ true) (h : 127 < b) where
  middle : within (194 to 244) b ≡ true
  middle = rw (outside 0 127 b h) at f

  pub first-low : 194 ≤ b
  first-low = leb-true 194 b (and_left (leb 194 b) (leb b 244) middle)

  pub first-high : b ≤ 244
  first-high = leb-true b 244 (and_right (leb 194 b) (leb b 244) middle)

module _ (b : ℕ) where
  pub behind-1 : b ≤ 127 → behind b ≡ []
  unfolding behind
  behind-1 h = rw (inside 0 127 b (omega arith) h)

  pub behind-2 : 194 ≤ b → b ≤ 223 → behind b ≡ tail ∷ []
  unfolding behind
  behind-2 l h = rw (outside 0 127 b (omega arith), inside 194 223 b l h)

  pub behind-3 : 223 < b → b ≤ 224 → behind b ≡ (160 to 191) ∷ tail ∷ []
  unfolding behind
  behind-3 l h = rw (outside 0 127 b (omega arith), outside 194 223 b l, inside 224 224 b l h)

  pub behind-4 : 224 < b → b ≤ 236 → behind b ≡ tail ∷ tail ∷ []
  unfolding behind
  behind-4 l h = rw (outside 0 127 b (omega arith), outside 194 223 b (omega arith), outside 224 224 b l, inside 225 236 b l h)

  pub behind-5 : 236 < b → b ≤ 237 → behind b ≡ (128 to 159) ∷ tail ∷ []
  unfolding behind
  behind-5 l h =
      rw (
        outside 0 127 b (omega arith),
        outside 194 223 b (omega arith),
        outside 224 224 b (omega arith),
        outside 225 236 b l,
        inside 237 237 b l h,
      )

  pub behind-6 : 237 < b → b ≤ 239 → behind b ≡ tail ∷ tail ∷ []
  unfolding behind
  behind-6 l h =
      rw (
        outside 0 127 b (omega arith),
        outside 194 223 b (omega arith),
        outside 224 224 b (omega arith),
        outside 225 236 b (omega arith),
        outside 237 237 b l,
        inside 238 239 b l h,
      )

  pub behind-7 : 239 < b → b ≤ 240 → behind b ≡ (144 to 191) ∷ tail ∷ tail ∷ []
  unfolding behind
  behind-7 l h =
      rw (
        outside 0 127 b (omega arith),
        outside 194 223 b (omega arith),
        outside 224 224 b (omega arith),
        outside 225 236 b (omega arith),
        outside 237 237 b (omega arith),
        outside 238 239 b l,
        inside 240 240 b l h,
      )

  pub behind-8 : 240 < b → b ≤ 243 → behind b ≡ tail ∷ tail ∷ tail ∷ []
  unfolding behind
  behind-8 l h =
      rw (
        outside 0 127 b (omega arith),
        outside 194 223 b (omega arith),
        outside 224 224 b (omega arith),
        outside 225 236 b (omega arith),
        outside 237 237 b (omega arith),
        outside 238 239 b (omega arith),
        outside 240 240 b l,
        inside 241 243 b l h,
      )

  pub behind-9 : 243 < b → behind b ≡ (128 to 143) ∷ tail ∷ tail ∷ []
  unfolding behind
  behind-9 l =
      rw (
        outside 0 127 b (omega arith),
        outside 194 223 b (omega arith),
        outside 224 224 b (omega arith),
        outside 225 236 b (omega arith),
        outside 237 237 b (omega arith),
        outside 238 239 b (omega arith),
        outside 240 240 b (omega arith),
        outside 241 243 b l,
      )
