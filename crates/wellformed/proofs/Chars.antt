-- A scalar value's encoding is a character of the syntax: `char`, by the ranges of the table. Assumes nothing.
use mathlib.Core.Path.{◌≡◌, refl}
use mathlib.Core.List.{[], ◌∷◌}
use mathlib.Core.Bool.{Bool, true, false, cond, not, ◌&&◌, false≢true}
use Prim.Native.Nat.{ℕ, ◌+◌, ◌/◌, ◌≤◌, ◌<◌}
use native.Mathlib.Omega.{arith}
use lib.Dec.{leb, ltb}
use borrow.Author.Tests.{leb-false, ltb-true, ltb-false, le-leb}
use Rattle.classes.proofs.Runs.{and_right}
use Rattle.utf8.specs.Utf8.{is_scalar, utf8, tail as tail_of}
use Rattle.utf8.proofs.Utf8.{low_scalar}
use Rattle.wellformed.specs.WellFormed.{Range, ◌to◌, within, tail, is_first, behind, goes_on, is_utf8}
use Rattle.wellformed.proofs.Firsts.{inside, outside}
use Rattle.wellformed.proofs.Firsts.{behind-1, behind-2, behind-3, behind-4, behind-5}
use Rattle.wellformed.proofs.Firsts.{behind-6, behind-7, behind-8, behind-9}

-- the ranges behind its first byte decide
module _ (a : ℕ) (f : is_first a ≡ true) where
  one : behind a ≡ [] → is_utf8 (a ∷ []) ≡ true
  unfolding goes_on
  one e = rw (f, e)

  two : (r : Range) (b : ℕ) → behind a ≡ r ∷ [] → within r b ≡ true → is_utf8 (a ∷ b ∷ []) ≡ true
  unfolding goes_on
  two r b e h = rw (f, e, h)

  three : (r : Range) (b d : ℕ) → behind a ≡ r ∷ tail ∷ [] → within r b ≡ true → within tail d ≡ true
      → is_utf8 (a ∷ b ∷ d ∷ []) ≡ true
  unfolding goes_on
  three r b d e h k = rw (f, e, h, k)

  four : (r : Range) (b d g : ℕ) → behind a ≡ r ∷ tail ∷ tail ∷ [] → within r b ≡ true → within tail d ≡ true
      → within tail g ≡ true → is_utf8 (a ∷ b ∷ d ∷ g ∷ []) ≡ true
  unfolding goes_on
  four r b d g e h k l = rw (f, e, h, k, l)

low_first : (a : ℕ) → a ≤ 127 → is_first a ≡ true
low_first a h = rw (inside 0 127 a (omega arith) h)

high-first : (a : ℕ) → 194 ≤ a → a ≤ 244 → is_first a ≡ true
high-first a h k = rw (outside 0 127 a (omega arith), inside 194 244 a h k)

tail-in : (x : ℕ) → within tail (tail_of x) ≡ true
tail-in x = inside 128 191 (tail_of x) (omega arith) (omega arith)

no_surrogate : (c : ℕ) → is_scalar c ≡ true → c ≤ 57343 → c < 55296
no_surrogate c t h = go (leb 55296 c) refl
  where
    other : not (leb 55296 c && leb c 57343) ≡ true
    other = and_right (leb c 1114111) (not (leb 55296 c && leb c 57343)) t

    go : (u : Bool) → leb 55296 c ≡ u → c < 55296
    go true p = absurd (false≢true (rw (p, le-leb c 57343 h) at other))
    go false p = leb-false 55296 c p

module _ (c : ℕ) (t : is_scalar c ≡ true) where
  char-2 : 128 ≤ c → c < 2048 → is_utf8 ((192 + c / 64) ∷ (tail_of c ∷ [])) ≡ true
  char-2 h k =
      two (192 + c / 64) (high-first (192 + c / 64) (omega arith) (omega arith)) tail (tail_of c)
      (behind-2 (192 + c / 64) (omega arith) (omega arith)) (tail-in c)

  char-3 : 2048 ≤ c → c < 65536 → is_utf8 ((224 + c / 4096) ∷ (tail_of (c / 64) ∷ (tail_of c ∷ []))) ≡ true
  char-3 h k = go (ltb c 4096) (ltb c 53248) (ltb c 57344) refl refl refl
    where
      by : (r : Range) → behind (224 + c / 4096) ≡ r ∷ tail ∷ [] → within r (tail_of (c / 64)) ≡ true
          → is_utf8 ((224 + c / 4096) ∷ (tail_of (c / 64) ∷ (tail_of c ∷ []))) ≡ true
      by r e w =
          three (224 + c / 4096) (high-first (224 + c / 4096) (omega arith) (omega arith)) r (tail_of (c / 64)) (tail_of c) e w
          (tail-in c)

      go : (u v w : Bool) → ltb c 4096 ≡ u → ltb c 53248 ≡ v → ltb c 57344 ≡ w
          → is_utf8 ((224 + c / 4096) ∷ (tail_of (c / 64) ∷ (tail_of c ∷ []))) ≡ true
      go true v w p q r =
          let hi : c < 4096 = ltb-true c 4096 p in
          by (160 to 191) (behind-3 (224 + c / 4096) (omega arith) (omega arith))
          (inside 160 191 (tail_of (c / 64)) (omega arith) (omega arith))
      go false true w p q r =
          let lo : 4096 ≤ c = ltb-false c 4096 p in
          let hi : c < 53248 = ltb-true c 53248 q in
          by tail (behind-4 (224 + c / 4096) (omega arith) (omega arith)) (tail-in (c / 64))
      go false false true p q r =
          let lo : 53248 ≤ c = ltb-false c 53248 q in
          let top : c < 57344 = ltb-true c 57344 r in
          let hi : c < 55296 = no_surrogate c t (omega arith) in
          by (128 to 159) (behind-5 (224 + c / 4096) (omega arith) (omega arith))
          (inside 128 159 (tail_of (c / 64)) (omega arith) (omega arith))
      go false false false p q r =
          let lo : 57344 ≤ c = ltb-false c 57344 r in
          by tail (behind-6 (224 + c / 4096) (omega arith) (omega arith)) (tail-in (c / 64))

  char-4 : 65536 ≤ c → is_utf8 ((240 + c / 262144) ∷ (tail_of (c / 4096) ∷ (tail_of (c / 64) ∷ (tail_of c ∷ [])))) ≡ true
  char-4 h = go (ltb c 262144) (ltb c 1048576) refl refl
    where
      limit : c ≤ 1114111
      limit = low_scalar c t

      by : (r : Range) → behind (240 + c / 262144) ≡ r ∷ tail ∷ tail ∷ [] → within r (tail_of (c / 4096)) ≡ true
          → is_utf8 ((240 + c / 262144) ∷ (tail_of (c / 4096) ∷ (tail_of (c / 64) ∷ (tail_of c ∷ [])))) ≡ true
      by r e w =
          four (240 + c / 262144) (high-first (240 + c / 262144) (omega arith) (omega (arith, limit))) r (tail_of (c / 4096))
          (tail_of (c / 64)) (tail_of c) e w (tail-in (c / 64)) (tail-in c)

      go : (u v : Bool) → ltb c 262144 ≡ u → ltb c 1048576 ≡ v
          → is_utf8 ((240 + c / 262144) ∷ (tail_of (c / 4096) ∷ (tail_of (c / 64) ∷ (tail_of c ∷ [])))) ≡ true
      go true v p q =
          let hi : c < 262144 = ltb-true c 262144 p in
          by (144 to 191) (behind-7 (240 + c / 262144) (omega arith) (omega arith))
          (inside 144 191 (tail_of (c / 4096)) (omega arith) (omega arith))
      go false true p q =
          let lo : 262144 ≤ c = ltb-false c 262144 p in
          let hi : c < 1048576 = ltb-true c 1048576 q in
          by tail (behind-8 (240 + c / 262144) (omega arith) (omega arith)) (tail-in (c / 4096))
      go false false p q =
          let lo : 1048576 ≤ c = ltb-false c 1048576 q in
          by (128 to 143) (behind-9 (240 + c / 262144) (omega arith))
          (inside 128 143 (tail_of (c / 4096)) (omega arith) (omega (arith, limit)))

  pub char : is_utf8 (utf8 c) ≡ true
  unfolding utf8
  char = go (ltb c 128) (ltb c 2048) (ltb c 65536) refl refl refl
    where
      go : (u v w : Bool) → ltb c 128 ≡ u → ltb c 2048 ≡ v → ltb c 65536 ≡ w
          → is_utf8 (cond u (c ∷ [])
          (cond v ((192 + c / 64) ∷ (tail_of c ∷ []))
          (cond w ((224 + c / 4096) ∷ (tail_of (c / 64) ∷ (tail_of c ∷ [])))
          ((240 + c / 262144) ∷ (tail_of (c / 4096) ∷ (tail_of (c / 64) ∷ (tail_of c ∷ []))))))) ≡ true
      go true v w p q r =
          let h : c < 128 = ltb-true c 128 p in
          one c (low_first c (omega arith)) (behind-1 c (omega arith))
      go false true w p q r = char-2 (ltb-false c 128 p) (ltb-true c 2048 q)
      go false false true p q r = char-3 (ltb-false c 2048 q) (ltb-true c 65536 r)
      go false false false p q r = char-4 (ltb-false c 65536 r)
