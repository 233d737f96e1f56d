-- Eight bytes as one number. Marks of the bytes that pass a test: where the first one stands, and what it means that there is none.
--     at-eight      eight bytes, one by one
--     packed-le     the library's number of them
--     chunk-is, chunk-within   the bytes behind a place, as the code takes them
--     first-right   the zeros below the lowest mark
--     unmarked      no mark, no such byte
--     some-marked   a mark, and such a byte
--     lead-outside, lead-marked   what stands before the first such byte, and that it passes
--     lead-all      none passes: all bytes
-- Assumes nothing.
use mathlib.Core.Path.{◌≡◌, refl, ap, ◌∙◌}
use mathlib.Core.List.{List, [], ◌∷◌}
use mathlib.Core.Bool.{Bool, true, false, cond, not, ◌||◌}
use Prim.Native.Nat.{ℕ, zero, suc, ◌+◌, ◌-◌, ◌*◌, ◌≤◌, ◌/◌, ◌%◌, ◌^◌, ◌<◌}
use native.Mathlib.Nat.{mul-one, not-suc-le-zero, le_of_suc-le-suc}
use native.Mathlib.Omega.{arith}
use lib.Bits.{shifted_half, shifted_even}
use lib.Count.{count_trailing_zeros, under}
use lib.ListN.{length, get_or, take, drop, length-take, length-drop}
use Rattle.std.specs.Int.{w64, from_le_bytes}
use Rattle.std.specs.Array.{IsFirstChunk}
use Rattle.std.proofs.lemmas.List.{take_rest}
use Rattle.classes.specs.Bytes.{lead, any}
use Rattle.classes.specs.Eights.{packed, marked, outside}

pub at-eight : (P : List ℕ → Type 0)
    → ((a b c d e f g h : ℕ) → P (a ∷ b ∷ c ∷ d ∷ e ∷ f ∷ g ∷ h ∷ []))
    → (s : List ℕ) → length s ≡ 8 → P s
at-eight P p (a ∷ b ∷ c ∷ d ∷ e ∷ f ∷ g ∷ h ∷ []) q = p a b c d e f g h
at-eight P p [] q = absurd (omega arith)
at-eight P p (a ∷ []) q = absurd (omega arith)
at-eight P p (a ∷ b ∷ []) q = absurd (omega arith)
at-eight P p (a ∷ b ∷ c ∷ []) q = absurd (omega arith)
at-eight P p (a ∷ b ∷ c ∷ d ∷ []) q = absurd (omega arith)
at-eight P p (a ∷ b ∷ c ∷ d ∷ e ∷ []) q = absurd (omega arith)
at-eight P p (a ∷ b ∷ c ∷ d ∷ e ∷ f ∷ []) q = absurd (omega arith)
at-eight P p (a ∷ b ∷ c ∷ d ∷ e ∷ f ∷ g ∷ []) q = absurd (omega arith)
at-eight P p (a ∷ b ∷ c ∷ d ∷ e ∷ f ∷ g ∷ h ∷ i ∷ s) q = absurd (omega arith)

pub packed-le : (s : List ℕ) → length s ≡ 8 → from_le_bytes w64 s ≡ packed s
unfolding packed
packed-le = at-eight (λ s. from_le_bytes w64 s ≡ packed s) (λ a b c d e f g h. omega arith)

module _ (s : List ℕ) (i n : ℕ) (b : List ℕ) (x : IsFirstChunk (take (length s - i) (drop i s)) b n) where
  pub chunk-is : b ≡ take n (drop i s)
  chunk-is = x.same ∙ ap (take n) (take_rest s i)

  pub chunk-within : i ≤ length s → i + n ≤ length s
  chunk-within h = omega (arith, simp (length-take, length-drop) at x.enough)

-- i more, one by one
abbrev up : ℕ → ℕ → ℕ
up zero d = d
up (suc i) d = suc (up i d)

tz_shift : (i d x : ℕ) → count_trailing_zeros (up i d) (x * 2 ^ i) ≡ up i (count_trailing_zeros d x)
unfolding count_trailing_zeros
tz_shift zero d x = ap (count_trailing_zeros d) (mul-one x)
tz_shift (suc i) d x =
    ap (λ (r : ℕ). under r (count_trailing_zeros (up i d) (x * 2 ^ suc i / 2))) (shifted_even x i)
    ∙ ap (λ (m : ℕ). suc (count_trailing_zeros (up i d) m)) (shifted_half x i)
    ∙ ap suc (tz_shift i d x)

tz_odd : (d x : ℕ) → count_trailing_zeros (suc d) (x * 2 + 1) ≡ 0
unfolding count_trailing_zeros
tz_odd d x =
    let o : (x * 2 + 1) % 2 ≡ 1 = omega arith in
    ap (λ (r : ℕ). under r (count_trailing_zeros d ((x * 2 + 1) / 2))) o

-- eight digits for each byte
abbrev places : List ℕ → ℕ
places [] = zero
places (b ∷ s) = up 8 (places s)

module _ (f : ℕ → Bool) where
  tz-marked : (s : List ℕ) → count_trailing_zeros (places s) (packed (marked f s)) / 8 ≡ lead (outside f) s
  unfolding packed marked lead count_trailing_zeros
  tz-marked [] = refl
  tz-marked (b ∷ s) = go (f b) (tz-marked s)
    where
      go : (t : Bool) → count_trailing_zeros (places s) (packed (marked f s)) / 8 ≡ lead (outside f) s
          → count_trailing_zeros (up 8 (places s)) (packed (marked f s) * 256 + cond t 128 zero) / 8 ≡ cond (not t) (suc (lead (outside f) s)) zero
      go true ih =
          let z : packed (marked f s) * 256 + 128 ≡ (packed (marked f s) * 2 + 1) * 2 ^ 7 = omega arith in
          let l : count_trailing_zeros (up 8 (places s)) (packed (marked f s) * 256 + 128) ≡ 7 = ap (count_trailing_zeros (up 8 (places s))) z ∙ tz_shift 7 (suc (places s)) (packed (marked f s) * 2 + 1) ∙ ap (up 7) (tz_odd (places s) (packed (marked f s))) in
          ap (λ (m : ℕ). m / 8) l
      go false ih =
          let z : packed (marked f s) * 256 + 0 ≡ packed (marked f s) * 2 ^ 8 = omega arith in
          let l : count_trailing_zeros (up 8 (places s)) (packed (marked f s) * 256 + 0) ≡ up 8 (count_trailing_zeros (places s) (packed (marked f s))) = ap (count_trailing_zeros (up 8 (places s))) z ∙ tz_shift 8 (places s) (packed (marked f s)) in
          omega (arith, l, ih)

  pub first-right : (s : List ℕ) → length s ≡ 8 → (m : ℕ) → m ≡ packed (marked f s) → count_trailing_zeros 64 m / 8 ≡ lead (outside f) s
  first-right s n m q =
      ap (λ (k : ℕ). count_trailing_zeros 64 k / 8) q
      ∙ ap (λ (d : ℕ). count_trailing_zeros d (packed (marked f s)) / 8) (at-eight (λ (l : List ℕ). 64 ≡ places l) (λ a b c d e g h i. refl) s n)
      ∙ tz-marked s

  pub unmarked : (s : List ℕ) → packed (marked f s) ≡ 0 → any f s ≡ false
  unfolding packed marked any
  unmarked [] q = refl
  unmarked (b ∷ s) q = go (f b) q (unmarked s)
    where
      go : (t : Bool) → packed (marked f s) * 256 + cond t 128 zero ≡ 0 → (packed (marked f s) ≡ 0 → any f s ≡ false) → t || any f s ≡ false
      go true e ih = absurd (omega arith)
      go false e ih = ih (omega arith)

  pub some-marked : (s : List ℕ) → (packed (marked f s) ≡ 0 → ⊥) → lead (outside f) s < length s
  unfolding packed marked lead
  some-marked [] q = absurd (q refl)
  some-marked (b ∷ s) q = go (f b) q (some-marked s)
    where
      go : (t : Bool) → (packed (marked f s) * 256 + cond t 128 zero ≡ 0 → ⊥) → ((packed (marked f s) ≡ 0 → ⊥) → lead (outside f) s < length s) → cond (not t) (suc (lead (outside f) s)) zero < suc (length s)
      go true e ih = omega arith
      go false e ih = let l = ih (λ z. e (omega (arith, z))) in omega (arith, l)

  pub lead-outside : (s : List ℕ) → any f (take (lead (outside f) s) s) ≡ false
  unfolding any lead
  lead-outside [] = refl
  lead-outside (b ∷ s) = go (f b) refl (lead-outside s)
    where
      go : (t : Bool) → f b ≡ t → any f (take (lead (outside f) s) s) ≡ false → any f (take (cond (not t) (suc (lead (outside f) s)) zero) (b ∷ s)) ≡ false
      go true q ih = refl
      go false q ih = rw q ih

  pub lead-marked : (s : List ℕ) → lead (outside f) s < length s → f (get_or s (lead (outside f) s) 0) ≡ true
  unfolding lead
  lead-marked [] h = absurd (not-suc-le-zero h)
  lead-marked (b ∷ s) h = go (f b) refl h (lead-marked s)
    where
      go : (t : Bool) → f b ≡ t → cond (not t) (suc (lead (outside f) s)) zero < suc (length s) → (lead (outside f) s < length s → f (get_or s (lead (outside f) s) 0) ≡ true)
          → f (get_or (b ∷ s) (cond (not t) (suc (lead (outside f) s)) zero) 0) ≡ true
      go true q l ih = q
      go false q l ih = ih (le_of_suc-le-suc l)

  pub lead-all : (s : List ℕ) → any f s ≡ false → lead (outside f) s ≡ length s
  unfolding any lead
  lead-all [] e = refl
  lead-all (b ∷ s) e = go (f b) e (lead-all s)
    where
      go : (t : Bool) → t || any f s ≡ false → (any f s ≡ false → lead (outside f) s ≡ length s) → cond (not t) (suc (lead (outside f) s)) zero ≡ suc (length s)
      go true q ih = cc
      go false q ih = ap suc (ih q)
