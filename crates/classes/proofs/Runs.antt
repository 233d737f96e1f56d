-- What `lead`, `body` and `any` tell, in the terms of chains of iterators, and `lead` in those of a loop that goes over a slice by an index.
--     lead-more, lead-stop, lead-end   a byte that passes, one that does not, the end of the list
--     lead-length                      at most all bytes
--     lead-prefix                      what a chain counts that takes bytes from the front while they pass
--     body-suffix                      the length less what one counts that takes them from the end
--     any-fold, any_append             what a fold joins; two lists
--     and_left, and_right              both parts of a test that holds
--     or_left, or_right                both parts of a test that fails
-- Assumes nothing.
use mathlib.Core.Path.{◌≡◌, refl, sym, ap, ◌∙◌}
use mathlib.Core.List.{List, [], ◌∷◌, ◌++◌}
use mathlib.Core.Bool.{Bool, true, false, cond, not, ◌&&◌, ◌||◌, false≢true}
use Prim.Native.Nat.{ℕ, zero, suc, ◌+◌, ◌-◌, ◌≤◌, ◌<◌}
use native.Mathlib.Numerals.{add-one}
use native.Mathlib.Omega.{arith}
use lib.ListN.{length, get_or, drop, drop_of_length-le}
use lib.Seq.{drop-cons}
use lib.Dec.{eqb}
use Rattle.std.specs.List.{prefix_len, suffix_len, fold}
use Rattle.std.proofs.lemmas.List.Folds.{prefix_len-append}
use Rattle.std.proofs.lemmas.List.Sums.{suffix_len-le-length}
use Rattle.std.proofs.lemmas.List.{length-reverse}
use Rattle.std.proofs.lemmas.Grind.{reverse_onto}
use mathlib.Core.List.{reverse}
use Rattle.std.proofs.lemmas.Bool.Decides.{nat_tests}
use borrow.Author.Tests.{not-true, not-false}
use Rattle.classes.specs.Bytes.{lead, body, grown, any}

module _ (f : ℕ → Bool) (s : List ℕ) where
  -- what is counted from an index on
  abbrev pub Lead : ℕ → Type 0
  Lead i = lead f s ≡ i + lead f (drop i s)

  lead-at : (i : ℕ) → i < length s → lead f (drop i s) ≡ cond (f (get_or s i 0)) (suc (lead f (drop (suc i) s))) zero
  unfolding lead
  lead-at i h = rw (drop-cons s i 0)

  pub lead-start : Lead 0
  lead-start = omega arith

  module _ (i : ℕ) (r : Bool) (q : r ≡ f (get_or s i 0)) (h : i < length s) (e : Lead i) where
    pub lead-more : not r ≡ false → Lead (i + 1)
    lead-more t =
        let l : lead f (drop i s) ≡ suc (lead f (drop (i + 1) s)) = rw add-one (rw (sym q ∙ not-false r t) at (lead-at i h)) in
        omega arith

    pub lead-stop : not r ≡ true → i ≡ lead f s
    lead-stop t =
        let l : lead f (drop i s) ≡ 0 = rw (sym q ∙ not-true r t) at (lead-at i h) in
        omega arith

  pub lead-end : (i : ℕ) → length s ≤ i → Lead i → i ≡ lead f s
  unfolding lead
  lead-end i h e =
      let l : lead f (drop i s) ≡ 0 = rw (drop_of_length-le s h) in
      omega arith

pub lead-length : (f : ℕ → Bool) (s : List ℕ) → lead f s ≤ length s
unfolding lead
lead-length f [] = omega arith
lead-length f (b ∷ s) = go (f b) (lead-length f s)
  where
    go : (t : Bool) → lead f s ≤ length s → cond t (suc (lead f s)) zero ≤ suc (length s)
    go true h = omega arith
    go false h = omega arith

or_assoc : (a b c : Bool) → a || (b || c) ≡ (a || b) || c
or_assoc true b c = refl
or_assoc false b c = refl

or-false : (a : Bool) → a || false ≡ a
or-false true = refl
or-false false = refl

-- what a chain of iterators counts is the same
pub lead-prefix : (f : ℕ → Bool) (s : List ℕ) → prefix_len f s ≡ lead f s
unfolding lead
lead-prefix f [] = refl
lead-prefix f (b ∷ s) = let e = lead-prefix f s in go (f b) (prefix_len f s) (lead f s) e
  where
    go : (t : Bool) (m n : ℕ) → m ≡ n → cond t (1 + m) 0 ≡ cond t (suc n) zero
    go true m n e = omega arith
    go false m n e = refl

pub body-suffix : (f : ℕ → Bool) (s : List ℕ) → length s - suffix_len f s ≡ body f s
unfolding body
body-suffix f [] = refl
body-suffix f (b ∷ s) =
    let e : suffix_len f (b ∷ s) ≡ cond (eqb (suffix_len f s) (length s)) (length s + cond (f b) 1 0) (suffix_len f s) =
    rw (reverse_onto s b [], prefix_len-append f (reverse s) (b ∷ []), length-reverse s) in
    rw (e, ← body-suffix f s) (go (f b) (suffix_len f s) (length s) (suffix_len-le-length f s))
  where
    go : (t : Bool) (k n : ℕ) → k ≤ n → suc n - cond (eqb k n) (n + cond t 1 0) k ≡ grown t (n - k)
    go true k n h = grind (arith, nat_tests)
    go false k n h = grind (arith, nat_tests)

pub any-fold : (f : ℕ → Bool) (s : List ℕ) → fold (λ t b. t || f b) false s ≡ any f s
unfolding any
any-fold f s = go false s
  where
    go : (t : Bool) (s : List ℕ) → fold (λ t b. t || f b) t s ≡ t || any f s
    go t [] = sym (or-false t)
    go t (b ∷ s) = go (t || f b) s ∙ sym (or_assoc t (f b) (any f s))

pub and_left : (a b : Bool) → a && b ≡ true → a ≡ true
and_left true b t = refl
and_left false b t = t

pub and_right : (a b : Bool) → a && b ≡ true → b ≡ true
and_right true b t = t
and_right false b t = absurd (false≢true t)

pub or_left : (a b : Bool) → a || b ≡ false → a ≡ false
or_left true b t = t
or_left false b t = refl

pub or_right : (a b : Bool) → a || b ≡ false → b ≡ false
or_right true b t = absurd (false≢true (sym t))
or_right false b t = t

pub any_append : (f : ℕ → Bool) (a b : List ℕ) → any f (a ++ b) ≡ any f a || any f b
unfolding any
any_append f [] b = refl
any_append f (x ∷ a) b = ap (λ (t : Bool). f x || t) (any_append f a b) ∙ or_assoc (f x) (any f a) (any f b)
