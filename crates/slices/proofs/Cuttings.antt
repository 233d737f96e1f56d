-- A cutting: a way to tell, byte by byte, where a slice starts, from what stands before. The crate's cutting and the standard one are two; the
-- laws of slices are the same for each.
--     split-first     the rest of the slice that is under way, and the slices behind it
--     first           the first slice, and the slices of the rest
--     append          two sources one after the other, where the second starts a slice
--     joined-all      the slices one after the other are the source
--     within          a slice ends within the source
-- Assumes nothing.
use mathlib.Core.Path.{◌≡◌, refl, ap, ◌∙◌}
use mathlib.Core.List.{List, [], ◌∷◌, ◌++◌}
use mathlib.Core.Bool.{Bool, true, false, cond}
use Prim.Native.Nat.{ℕ, zero, suc, ◌≤◌, ◌<◌}
use native.Mathlib.Nat.{not-suc-le-zero}
use native.Mathlib.Omega.{arith}
use lib.ListN.{length, take, drop}
use Rattle.slices.specs.Slices.{onto}

-- slices one after the other
unfoldable pub joined : List (List ℕ) → List ℕ
joined [] = []
joined (s ∷ ss) = s ++ joined ss

-- Q is what a byte must know of those before it; `again`: where a slice starts, what stood before it is forgotten
pub record Cutting (Q : Type 0) : Type 0 where
  pub starts : Q → ℕ → Bool
  pub next : Q → ℕ → Q
  pub fresh : Q
  pub again : (q : Q) (b : ℕ) → starts q b ≡ true → next q b ≡ next fresh b
  pub after : Q → List ℕ → Q
  pub after_none : (q : Q) → after q [] ≡ q
  pub after_more : (q : Q) (b : ℕ) (s : List ℕ) → after q (b ∷ s) ≡ after (next q b) s
  pub split : Q → List ℕ → List (List ℕ)
  pub split-none : (q : Q) → split q [] ≡ [] ∷ []
  pub split-more : (q : Q) (b : ℕ) (s : List ℕ) → split q (b ∷ s) ≡ cond (starts q b) ([] ∷ onto b (split (next q b) s)) (onto b (split (next q b) s))
  pub all : List ℕ → List (List ℕ)
  pub all_none : all [] ≡ []
  pub all_more : (b : ℕ) (s : List ℕ) → all (b ∷ s) ≡ onto b (split (next fresh b) s)
  pub up_to : Q → List ℕ → ℕ
  pub up_to-none : (q : Q) → up_to q [] ≡ zero
  pub up_to-more : (q : Q) (b : ℕ) (s : List ℕ) → up_to q (b ∷ s) ≡ cond (starts q b) zero (suc (up_to (next q b) s))
  pub size : List ℕ → ℕ
  pub size_none : size [] ≡ zero
  pub size-more : (b : ℕ) (s : List ℕ) → size (b ∷ s) ≡ suc (up_to (next fresh b) s)

module _ {Q : Type 0} (k : Cutting Q) where
  split-first : (q : Q) (s : List ℕ) → k.split q s ≡ take (k.up_to q s) s ∷ k.all (drop (k.up_to q s) s)
  split-first q [] = rw (k.split-none q, k.up_to-none q, k.all_none)
  split-first q (c ∷ s) = rw (k.split-more q c s, k.up_to-more q c s) (go (k.starts q c) refl (split-first (k.next q c) s))
    where
      go : (t : Bool) → k.starts q c ≡ t → k.split (k.next q c) s ≡ take (k.up_to (k.next q c) s) s ∷ k.all (drop (k.up_to (k.next q c) s) s)
          → cond t ([] ∷ onto c (k.split (k.next q c) s)) (onto c (k.split (k.next q c) s))
          ≡ take (cond t zero (suc (k.up_to (k.next q c) s))) (c ∷ s) ∷ k.all (drop (cond t zero (suc (k.up_to (k.next q c) s))) (c ∷ s))
      go true e ih = rw (k.all_more c s, k.again q c e)
      go false e ih = ap (onto c) ih

  pub first : (s : List ℕ) → 0 < length s → k.all s ≡ take (k.size s) s ∷ k.all (drop (k.size s) s)
  first [] h = absurd (not-suc-le-zero h)
  first (b ∷ s) h = rw (k.size-more b s) (k.all_more b s ∙ ap (onto b) (split-first (k.next k.fresh b) s))

  up_to-within : (q : Q) (s : List ℕ) → k.up_to q s ≤ length s
  up_to-within q [] = rw (k.up_to-none q) (omega arith)
  up_to-within q (b ∷ s) = rw (k.up_to-more q b s) (go (k.starts q b) (up_to-within (k.next q b) s))
    where
      go : (t : Bool) → k.up_to (k.next q b) s ≤ length s → cond t zero (suc (k.up_to (k.next q b) s)) ≤ suc (length s)
      go true h = omega arith
      go false h = omega arith

  pub within : (s : List ℕ) → k.size s ≤ length s
  within [] = rw k.size_none (omega arith)
  within (b ∷ s) = rw (k.size-more b s) (omega (arith, up_to-within (k.next k.fresh b) s))

  module _ (c : ℕ) (y : List ℕ) where
    split-append : (q : Q) (x : List ℕ) → k.starts (k.after q x) c ≡ true → k.split q (x ++ (c ∷ y)) ≡ k.split q x ++ k.all (c ∷ y)
    split-append q [] t =
        let u : k.starts q c ≡ true = rw (k.after_none q) at t in
        rw (k.split-more q c y, u, k.split-none q, k.all_more c y, k.again q c u)
    split-append q (d ∷ x) t =
        rw (k.split-more q d (x ++ (c ∷ y)), k.split-more q d x)
        (go (k.starts q d) (k.split (k.next q d) x) (split-first (k.next q d) x) (split-append (k.next q d) x (rw (k.after_more q d x) at t)))
      where
        go : (u : Bool) (l : List (List ℕ)) → l ≡ take (k.up_to (k.next q d) x) x ∷ k.all (drop (k.up_to (k.next q d) x) x) → k.split (k.next q d) (x ++ (c ∷ y)) ≡ l ++ k.all (c ∷ y)
            → cond u ([] ∷ onto d (k.split (k.next q d) (x ++ (c ∷ y)))) (onto d (k.split (k.next q d) (x ++ (c ∷ y)))) ≡ cond u ([] ∷ onto d l) (onto d l) ++ k.all (c ∷ y)
        go true l e ih = rw (ih, e)
        go false l e ih = rw (ih, e)

    -- a slice starts at c, behind x: cutting apart the two by themselves gives the same slices
    pub append : (x : List ℕ) → k.starts (k.after k.fresh x) c ≡ true → k.all (x ++ (c ∷ y)) ≡ k.all x ++ k.all (c ∷ y)
    append [] t = rw k.all_none
    append (b ∷ x) t =
        k.all_more b (x ++ (c ∷ y))
        ∙ ap (onto b) (split-append (k.next k.fresh b) x (rw (k.after_more k.fresh b x) at t))
        ∙ rw (k.all_more b x, split-first (k.next k.fresh b) x)

  joined-split : (q : Q) (s : List ℕ) → joined (k.split q s) ≡ s
  unfolding joined
  joined-split q [] = rw (k.split-none q)
  joined-split q (c ∷ s) = rw (k.split-more q c s) (go (k.starts q c) (k.split (k.next q c) s) (joined-split (k.next q c) s))
    where
      go : (t : Bool) (l : List (List ℕ)) → joined l ≡ s → joined (cond t ([] ∷ onto c l) (onto c l)) ≡ c ∷ s
      go true [] e = ap (λ (z : List ℕ). c ∷ z) e
      go true (x ∷ xs) e = ap (λ (z : List ℕ). c ∷ z) e
      go false [] e = ap (λ (z : List ℕ). c ∷ z) e
      go false (x ∷ xs) e = ap (λ (z : List ℕ). c ∷ z) e

  pub joined-all : (s : List ℕ) → joined (k.all s) ≡ s
  unfolding joined
  joined-all [] = rw k.all_none
  joined-all (b ∷ s) = rw (k.all_more b s) (go (k.split (k.next k.fresh b) s) (split-first (k.next k.fresh b) s) (joined-split (k.next k.fresh b) s))
    where
      go : (l : List (List ℕ)) → l ≡ take (k.up_to (k.next k.fresh b) s) s ∷ k.all (drop (k.up_to (k.next k.fresh b) s) s) → joined l ≡ s → joined (onto b l) ≡ b ∷ s
      go [] e j = ap (λ (z : List ℕ). b ∷ z) j
      go (x ∷ xs) e j = ap (λ (z : List ℕ). b ∷ z) j
