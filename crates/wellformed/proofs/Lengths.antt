-- A character judged whole is the ranges met one after the other.
--     length-owed, owed-few             how many bytes are owed: at most three
--     pays-short, pays-0 .. pays-3      the code's tests of what is owed, by its count
--     char-other, char-short, char-all  a byte that starts none; one whose bytes are not there; one with all of them
--     utf8-none, utf8-char              no character, no UTF-8; behind one, what follows decides
--     char-within                       a character lies in its bytes
-- Assumes nothing.
use mathlib.Core.Path.{◌≡◌, refl, sym, ap, ◌∙◌}
use mathlib.Core.List.{List, [], ◌∷◌}
use mathlib.Core.Bool.{Bool, true, false, cond, not, ◌&&◌, false≢true}
use Prim.Native.Nat.{ℕ, zero, suc, ◌+◌, ◌≤◌, ◌<◌}
use native.Mathlib.Nat.{not-suc-le-zero, le_of_suc-le-suc}
use native.Mathlib.Numerals.{add-one}
use native.Mathlib.Omega.{arith}
use lib.ListN.{length, get_or, take, drop}
use lib.Seq.{drop-cons, take_all}
use borrow.Author.Tests.{not-true, not-false}
use Rattle.classes.proofs.Runs.{and_right}
use Rattle.wellformed.specs.declared.Owed.{Owed}
use Rattle.wellformed.specs.WellFormed.{Range, ◌to◌, within, tail, is_first, behind, goes_on, is_utf8}
use Rattle.wellformed.specs.Owed.{owed, ranges, pays, char_length}

-- ---- how many

length-owed : (n low high : ℕ) → length (owed n low high) ≡ n
unfolding owed
length-owed zero low high = refl
length-owed (suc n) low high = ap suc (length-owed n 128 191)

record Few (rs : List Range) : Type 0 where
  few : length rs ≤ 3

few-0 : Few []
few-0 = record { few = omega arith }

few-1 : (r : Range) → Few (r ∷ [])
few-1 r = record { few = omega arith }

few-2 : (r q : Range) → Few (r ∷ q ∷ [])
few-2 r q = record { few = omega arith }

few-3 : (r q o : Range) → Few (r ∷ q ∷ o ∷ [])
few-3 r q o = record { few = omega arith }

either : (t : Bool) (x y : List Range) → Few x → Few y → Few (cond t x y)
either true x y p q = p
either false x y p q = q

few-behind : (b : ℕ) → Few (behind b)
unfolding behind
few-behind b =
    either (within (0 to 127) b) [] _ few-0
    (either (within (194 to 223) b) (tail ∷ []) _ (few-1 _)
    (either (within (224 to 224) b) ((160 to 191) ∷ tail ∷ []) _ (few-2 _ _)
    (either (within (225 to 236) b) (tail ∷ tail ∷ []) _ (few-2 _ _)
    (either (within (237 to 237) b) ((128 to 159) ∷ tail ∷ []) _ (few-2 _ _)
    (either (within (238 to 239) b) (tail ∷ tail ∷ []) _ (few-2 _ _)
    (either (within (240 to 240) b) ((144 to 191) ∷ tail ∷ tail ∷ []) _ (few-3 _ _ _)
    (either (within (241 to 243) b) (tail ∷ tail ∷ tail ∷ []) _ (few-3 _ _ _) (few-3 (128 to 143) tail tail))))))))

-- what is owed behind a byte is no more
pub owed-few : (o : Owed) (b : ℕ) → ranges o ≡ behind b → o.count ≤ 3
owed-few o b e =
    let l : length (behind b) ≡ o.count = ap length (sym e) ∙ length-owed o.count o.low o.high in
    omega (arith, l, (few-behind b).few)

-- ---- the code's tests

short : (rs : List Range) (s : List ℕ) → length s < length rs → false ≡ pays rs s
unfolding pays
short [] s h = absurd (not-suc-le-zero h)
short (r ∷ rs) [] h = refl
short (r ∷ rs) (b ∷ s) h = rw (sym (short rs s (le_of_suc-le-suc h))) (go (within r b))
  where
    go : (t : Bool) → false ≡ t && false
    go true = refl
    go false = refl

and-true : (t : Bool) → t ≡ t && true
and-true true = refl
and-true false = refl

module _ (n low high : ℕ) (s : List ℕ) where
  pub pays-short : length s < n → false ≡ pays (owed n low high) s
  pays-short h = short (owed n low high) s (omega (arith, h, length-owed n low high))

  pub pays-0 : n ≡ 0 → true ≡ pays (owed n low high) s
  unfolding owed pays
  pays-0 e = rw e refl

pub pays-1 : (n low high : ℕ) (s : List ℕ) → n ≡ 1 → n ≤ length s → within (low to high) (get_or s 0 0) ≡ pays (owed n low high) s
unfolding owed pays
pays-1 n low high [] e h = absurd (omega arith)
pays-1 n low high (a ∷ s) e h = rw e (and-true (within (low to high) a))

pub pays-2 : (n low high : ℕ) (s : List ℕ) → n ≡ 2 → n ≤ length s → (t : Bool) → t ≡ within tail (get_or s 1 0)
    → within (low to high) (get_or s 0 0) && t ≡ pays (owed n low high) s
unfolding owed pays
pays-2 n low high [] e h t p = absurd (omega arith)
pays-2 n low high (a ∷ []) e h t p = absurd (omega arith)
pays-2 n low high (a ∷ b ∷ s) e h t p = rw (e, p) (ap (λ (u : Bool). within (low to high) a && u) (and-true (within tail b)))

pub pays-3 : (n low high : ℕ) (s : List ℕ) → n ≡ 3 → n ≤ length s → (t u : Bool) → t ≡ within tail (get_or s 1 0)
    → u ≡ within tail (get_or s 2 0)
    → within (low to high) (get_or s 0 0) && (t && u) ≡ pays (owed n low high) s
unfolding owed pays
pays-3 n low high [] e h t u p q = absurd (omega arith)
pays-3 n low high (a ∷ []) e h t u p q = absurd (omega arith)
pays-3 n low high (a ∷ b ∷ []) e h t u p q = absurd (omega arith)
pays-3 n low high (a ∷ b ∷ c ∷ s) e h t u p q =
    rw (e, p, q) (ap (λ (v : Bool). within (low to high) a && (within tail b && v)) (and-true (within tail c)))

-- ---- the length of a character

module _ (s : List ℕ) (i : ℕ) (h : i < length s) (f : Bool) (q : f ≡ is_first (get_or s i 0)) where
  pub char-other : not f ≡ true → 0 ≡ char_length (drop i s)
  unfolding char_length
  char-other t = rw (drop-cons s i 0 h, sym q ∙ not-true f t) refl

  module _ (t : not f ≡ false) (o : Owed) (e : ranges o ≡ behind (get_or s i 0)) (p : Bool) (n : ℕ) (w : p ≡ pays (ranges o) (take n (drop (i + 1) s))) (m : length (drop (i + 1) s) ≤ n) where
    paid : p ≡ pays (behind (get_or s i 0)) (drop (suc i) s)
    paid = rw (sym e, sym (add-one i)) (rw (take_all n (drop (i + 1) s) m) at w)

    pub char-short : p ≡ false → 0 ≡ char_length (drop i s)
    unfolding char_length
    char-short g = rw (drop-cons s i 0 h, sym q ∙ not-false f t, sym paid ∙ g) refl

    pub char-all : p ≡ true → o.count + 1 ≡ char_length (drop i s)
    unfolding char_length
    char-all g =
        let l : length (behind (get_or s i 0)) ≡ o.count = ap length (sym e) ∙ length-owed o.count o.low o.high in
        rw (drop-cons s i 0 h, sym q ∙ not-false f t, sym paid ∙ g, l) (omega arith)

-- ---- what follows decides

and-more : (a b c : Bool) → a && (b && c) ≡ (a && b) && c
and-more true b c = refl
and-more false b c = refl

goes-pays : (rs : List Range) (s : List ℕ) → goes_on rs s ≡ pays rs s && is_utf8 (drop (length rs) s)
unfolding goes_on pays
goes-pays [] s = refl
goes-pays (r ∷ rs) [] = refl
goes-pays (r ∷ rs) (b ∷ s) =
    ap (λ (t : Bool). within r b && t) (goes-pays rs s)
    ∙ and-more (within r b) (pays rs s) (is_utf8 (drop (length rs) s))

whole : (b : ℕ) (s : List ℕ) → is_utf8 (b ∷ s) ≡ (is_first b && pays (behind b) s) && is_utf8 (drop (length (behind b)) s)
unfolding goes_on
whole b s =
    ap (λ (t : Bool). is_first b && t) (goes-pays (behind b) s)
    ∙ and-more (is_first b) (pays (behind b) s) (is_utf8 (drop (length (behind b)) s))

pays-within : (rs : List Range) (s : List ℕ) → pays rs s ≡ true → length rs ≤ length s
unfolding pays
pays-within [] s t = omega arith
pays-within (r ∷ rs) [] t = absurd (false≢true t)
pays-within (r ∷ rs) (b ∷ s) t = omega (arith, pays-within rs s (and_right (within r b) (pays rs s) t))

pub utf8-none : (s : List ℕ) → 0 < length s → char_length s ≡ 0 → is_utf8 s ≡ false
unfolding char_length
utf8-none [] h e = absurd (not-suc-le-zero h)
utf8-none (b ∷ s) h e = whole b s ∙ go (is_first b && pays (behind b) s) e
  where
    go : (t : Bool) → cond t (suc (length (behind b))) zero ≡ 0 → t && is_utf8 (drop (length (behind b)) s) ≡ false
    go true p = absurd (omega arith)
    go false p = refl

pub utf8-char : (s : List ℕ) → (char_length s ≡ 0 → ⊥) → is_utf8 s ≡ is_utf8 (drop (char_length s) s)
unfolding char_length
utf8-char [] z = absurd (z refl)
utf8-char (b ∷ s) z = whole b s ∙ go (is_first b && pays (behind b) s) z
  where
    go : (t : Bool) → (cond t (suc (length (behind b))) zero ≡ 0 → ⊥)
        → t && is_utf8 (drop (length (behind b)) s) ≡ is_utf8 (drop (cond t (suc (length (behind b))) zero) (b ∷ s))
    go true y = refl
    go false y = absurd (y refl)

pub char-within : (s : List ℕ) → char_length s ≤ length s
unfolding char_length
char-within [] = omega arith
char-within (b ∷ s) = go (is_first b && pays (behind b) s) refl
  where
    go : (t : Bool) → is_first b && pays (behind b) s ≡ t → cond t (suc (length (behind b))) zero ≤ suc (length s)
    go true e = omega (arith, pays-within (behind b) s (and_right (is_first b) (pays (behind b) s) e))
    go false e = omega arith
