-- Bytes as one number: its bound, one byte more in front, and what is done byte by byte.
--     packed_lt       so many bytes, so many powers of 256
--     packed-front    one byte more
--     packed-both     an operation that leaves each byte in its place
--     packed-sum      the sum is one, without a carry
-- Assumes nothing.
use mathlib.Core.Path.{◌≡◌, refl, ap, ◌∙◌}
use mathlib.Core.List.{List, [], ◌∷◌, map}
use Prim.Native.Nat.{ℕ, zero, suc, ◌+◌, ◌*◌, ◌^◌, ◌≤◌, ◌<◌}
use native.Mathlib.Nat.{not-suc-le-zero, le_of_suc-le-suc, pow-suc}
use native.Mathlib.Omega.{arith}
use lib.ListN.{length, get_or, drop}
use lib.Seq.{drop-cons}
use Rattle.classes.specs.Eights.{packed}

-- each is a byte
abbrev pub Bytes : List ℕ → Type 0
Bytes s = (i : ℕ) → get_or s i 0 < 256

pub packed_lt : (s : List ℕ) (k : ℕ) → Bytes s → length s ≤ k → packed s < 256 ^ k
unfolding packed
packed_lt [] zero y h = omega arith
packed_lt [] (suc k) y h =
    let p : packed [] < 256 ^ k = packed_lt [] k y (omega arith) in
    let q : 256 ^ suc k ≡ 256 ^ k * 256 = pow-suc 256 k in
    omega (arith, p, q)
packed_lt (b ∷ s) zero y h = absurd (not-suc-le-zero h)
packed_lt (b ∷ s) (suc k) y h =
    let p : packed s < 256 ^ k = packed_lt s k (λ i. y (suc i)) (le_of_suc-le-suc h) in
    let q : 256 ^ suc k ≡ 256 ^ k * 256 = pow-suc 256 k in
    let z : b < 256 = y zero in
    omega (arith, p, q, z)

pub packed-front : (s : List ℕ) (i : ℕ) → i < length s → packed (drop i s) ≡ packed (drop (suc i) s) * 256 + get_or s i 0
unfolding packed
packed-front s i h = ap packed (drop-cons s i 0 h)

pub packed-sum : (f g : ℕ → ℕ) (s : List ℕ) → packed (map f s) + packed (map g s) ≡ packed (map (λ (b : ℕ). f b + g b) s)
unfolding packed
packed-sum f g [] = refl
packed-sum f g (b ∷ s) = omega (arith, packed-sum f g s)

module _ (op : ℕ → ℕ → ℕ) (none : op zero zero ≡ zero) (block : (a b r t : ℕ) → r < 256 → t < 256 → op (a * 256 + r) (b * 256 + t) ≡ op a b * 256 + op r t) (f g : ℕ → ℕ) (f-small : (b : ℕ) → b < 256 → f b < 256) (g-small : (b : ℕ) → b < 256 → g b < 256) where
  pub packed-both : (s : List ℕ) → Bytes s → op (packed (map f s)) (packed (map g s)) ≡ packed (map (λ (b : ℕ). op (f b) (g b)) s)
  unfolding packed
  packed-both [] y = none
  packed-both (b ∷ s) y = block (packed (map f s)) (packed (map g s)) (f b) (g b) (f-small b (y zero)) (g-small b (y zero)) ∙ ap (λ (n : ℕ). n * 256 + op (f b) (g b)) (packed-both s (λ i. y (suc i)))
