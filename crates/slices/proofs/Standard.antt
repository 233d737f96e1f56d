-- Slices in standard reading (02, A1): the laws of Cuttings for it, and its first slice as the code finds it.
--     behind_all            what stands behind a list of bytes
--     standard-first       the first slice, and the slices of the rest
--     standard-append      two sources one after the other, where the second starts a slice
--     starts-behind        a special byte, but a line feed, starts one unless a backslash stands before it
--     standard-within, standard-some   the first slice ends within the source, and is not empty
--     joined-standard      the slices one after the other are the source
--     up_to-anything        where no escape stands before, the slice goes up to the next byte that starts one
--     standard-short, standard-other, standard-feed, standard-escape   from where on this is so, by the bytes in front
-- Assumes nothing.
use mathlib.Core.Path.{◌≡◌, refl, sym, ap, ◌∙◌}
use mathlib.Core.List.{List, [], ◌∷◌, ◌++◌}
use mathlib.Core.Bool.{Bool, true, false, cond, not, ◌&&◌, ◌||◌}
use Prim.Native.Nat.{ℕ, zero, suc, ◌+◌, ◌≤◌, ◌<◌}
use native.Mathlib.Omega.{arith}
use borrow.Author.Tests.{eqb-true, ne_eqb}
use lib.Dec.{eqb}
use lib.ListN.{length, get_or, take, drop}
use Rattle.classes.specs.Bytes.{is_special, lead}
use Rattle.classes.proofs.Runs.{and_left, and_right, or_left}
use Rattle.classes.specs.Eights.{outside}
use Rattle.slices.specs.Slices.{Behind, anything, escape, return, is_start, starts_standard, behind, split_standard, standard_slices, up_to_standard, standard_length, is_return, starts_with_feed}
use Rattle.slices.proofs.Cuttings.{Cutting, joined}
use Rattle.slices.proofs.Cuttings as cuttings
use Rattle.slices.proofs.Slices.{last_byte}

unfoldable pub behind_all : Behind → List ℕ → Behind
behind_all q [] = q
behind_all q (b ∷ s) = behind_all (behind q b) s

behind-again : (q : Behind) (b : ℕ) → starts_standard q b ≡ true → behind q b ≡ behind anything b
behind-again anything b e = refl
behind-again escape b e = cc
behind-again return b e = refl

standard : Cutting Behind
unfolding behind_all split_standard standard_slices up_to_standard standard_length
standard = record {
  starts = starts_standard;
  next = behind;
  fresh = anything;
  again = behind-again;
  after = behind_all;
  after_none = λ q. refl;
  after_more = λ q b s. refl;
  split = split_standard;
  split-none = λ q. refl;
  split-more = λ q b s. refl;
  all = standard_slices;
  all_none = refl;
  all_more = λ b s. refl;
  up_to = up_to_standard;
  up_to-none = λ q. refl;
  up_to-more = λ q b s. refl;
  size = standard_length;
  size_none = refl;
  size-more = λ b s. refl;
}

pub standard-first : (s : List ℕ) → 0 < length s → standard_slices s ≡ take (standard_length s) s ∷ standard_slices (drop (standard_length s) s)
unfolding standard standard_slices standard_length
standard-first = cuttings.first standard

pub standard-within : (s : List ℕ) → standard_length s ≤ length s
unfolding standard standard_length
standard-within = cuttings.within standard

pub standard-some : (s : List ℕ) → 0 < length s → 0 < standard_length s
unfolding standard_length
standard-some [] h = absurd (omega arith)
standard-some (b ∷ s) h = omega arith

-- a slice starts at c, behind x: cutting apart the two by themselves gives the same slices
pub standard-append : (c : ℕ) (y x : List ℕ) → starts_standard (behind_all anything x) c ≡ true → standard_slices (x ++ (c ∷ y)) ≡ standard_slices x ++ standard_slices (c ∷ y)
unfolding standard standard_slices behind_all
standard-append = cuttings.append standard

-- a special byte that is no line feed starts a slice unless a backslash stands before it: then it hangs on that backslash
module _ (c : ℕ) (e : is_special c ≡ true) (n : c ≡ 10 → ⊥) where
  starts-unless : (q : Behind) (b : ℕ) → (b ≡ 92 → ⊥) → starts_standard (behind q b) c ≡ true
  starts-unless anything b m = rw (ne_eqb b 92 m, e)
  starts-unless escape b m = go (eqb b 13)
    where
      go : (t : Bool) → starts_standard (cond t return anything) c ≡ true
      go true = rw (e, ne_eqb c 10 n)
      go false = rw e
  starts-unless return b m = rw (ne_eqb b 92 m, e)

  starts-after : (q : Behind) (b : ℕ) (x : List ℕ) → (last_byte b x ≡ 92 → ⊥) → starts_standard (behind_all (behind q b) x) c ≡ true
  unfolding behind_all last_byte
  starts-after q b [] m = starts-unless q b m
  starts-after q b (d ∷ x) m = starts-after (behind q b) d x m

  pub starts-behind : (x : List ℕ) → (last_byte 32 x ≡ 92 → ⊥) → starts_standard (behind_all anything x) c ≡ true
  unfolding behind_all last_byte
  starts-behind [] m = rw e
  starts-behind (b ∷ x) m = starts-after anything b x m

pub joined-standard : (s : List ℕ) → joined (standard_slices s) ≡ s
unfolding standard standard_slices
joined-standard = cuttings.joined-all standard

-- ---- the first slice, as the code finds it

-- what starts no slice is no backslash
text-behind : (b : ℕ) → is_start b ≡ false → behind anything b ≡ anything
text-behind b e =
    let z : eqb b 92 ≡ false = or_left (eqb b 92) (eqb b 123 || (eqb b 125 || eqb b 10)) (or_left (is_special b) (eqb b 13) e) in
    rw z

pub up_to-anything : (s : List ℕ) → up_to_standard anything s ≡ lead (outside is_start) s
unfolding up_to_standard lead
up_to-anything [] = refl
up_to-anything (b ∷ s) = go (is_start b) refl (up_to-anything s)
  where
    go : (t : Bool) → is_start b ≡ t → up_to_standard anything s ≡ lead (outside is_start) s
        → cond t zero (suc (up_to_standard (behind anything b) s)) ≡ cond (not t) (suc (lead (outside is_start) s)) zero
    go true e ih = refl
    go false e ih = rw (text-behind b e) (ap suc ih)

-- behind a backslash and a carriage return, only a line feed is another matter
up_to-return : (s : List ℕ) → starts_with_feed s ≡ false → up_to_standard return s ≡ up_to_standard anything s
unfolding up_to_standard
up_to-return [] n = refl
up_to-return (b ∷ s) n = go (is_start b) (eqb b 10) n
  where
    go : (t u : Bool) → u ≡ false → cond (t && not u) zero (suc (up_to_standard (behind return b) s)) ≡ cond t zero (suc (up_to_standard (behind anything b) s))
    go true u e = rw e
    go false u e = refl

pub standard-short : (s : List ℕ) → length s < 2 → length s + lead (outside is_start) (drop (length s) s) ≡ standard_length s
unfolding standard_length up_to_standard lead
standard-short [] h = refl
standard-short (b ∷ []) h = refl
standard-short (b ∷ c ∷ s) h = absurd (omega arith)

pub standard-other : (s : List ℕ) → 0 < length s → (get_or s 0 0 ≡ 92 → ⊥) → 1 + lead (outside is_start) (drop 1 s) ≡ standard_length s
unfolding standard_length
standard-other [] h n = absurd (omega arith)
standard-other (b ∷ s) h n = rw (ne_eqb b 92 n) (omega (arith, up_to-anything s))

module _ {t : Bool} where
  pub standard-feed : (s : List ℕ) → t ≡ is_return (take 2 s) && starts_with_feed (drop 2 s) → t ≡ true → 2 < length s → 3 + lead (outside is_start) (drop 3 s) ≡ standard_length s
  unfolding standard_length up_to_standard
  standard-feed [] f x h = absurd (omega arith)
  standard-feed (a ∷ []) f x h = absurd (omega arith)
  standard-feed (a ∷ b ∷ []) f x h = absurd (omega arith)
  standard-feed (a ∷ b ∷ c ∷ s) f x h =
      let e : (eqb a 92 && eqb b 13) && eqb c 10 ≡ true = sym f ∙ x in
      let d : eqb a 92 && eqb b 13 ≡ true = and_left (eqb a 92 && eqb b 13) (eqb c 10) e in
      rw (eqb-true a 92 (and_left (eqb a 92) (eqb b 13) d), eqb-true b 13 (and_right (eqb a 92) (eqb b 13) d), eqb-true c 10 (and_right (eqb a 92 && eqb b 13) (eqb c 10) e))
      (omega (arith, up_to-anything s))

  pub standard-escape : (s : List ℕ) → 2 ≤ length s → get_or s 0 0 ≡ 92 → t ≡ is_return (take 2 s) && starts_with_feed (drop 2 s) → t ≡ false → 2 + lead (outside is_start) (drop 2 s) ≡ standard_length s
  unfolding standard_length up_to_standard
  standard-escape [] h a f x = absurd (omega arith)
  standard-escape (b ∷ []) h a f x = absurd (omega arith)
  standard-escape (b ∷ c ∷ s) h a f x = rw a (go (eqb c 13) refl)
    where
      go : (u : Bool) → eqb c 13 ≡ u → 2 + lead (outside is_start) s ≡ suc (suc (up_to_standard (cond u return anything) s))
      go true e =
          let n : starts_with_feed s ≡ false = rw (a, e) at (sym f ∙ x) in
          omega (arith, up_to-return s n, up_to-anything s)
      go false e = omega (arith, up_to-anything s)
