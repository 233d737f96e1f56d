-- The search for the next byte that passes a test, whatever stands before it.
--     Goes         it does not stand before i
--     goes-more, goes-here, goes_last   a byte that does not pass, one that does, the end
--     goes-eight   eight bytes without a mark
--     goes-found   eight bytes with one
-- Assumes nothing.
use mathlib.Core.Path.{◌≡◌, refl, sym, ap, ◌∙◌}
use mathlib.Core.List.{List, [], ◌∷◌}
use mathlib.Core.Bool.{Bool, true, false, cond, not}
use Prim.Native.Nat.{ℕ, zero, suc, ◌+◌, ◌-◌, ◌≤◌, ◌<◌}
use native.Mathlib.Nat.{not-suc-le-zero, le_of_suc-le-suc}
use native.Mathlib.Numerals.{add-one}
use native.Mathlib.Omega.{arith}
use lib.ListN.{length, get_or, take, drop, length-take, length-drop, drop_of_length-le}
use lib.Seq.{drop-cons, drop-drop}
use Rattle.classes.specs.Bytes.{lead}
use Rattle.classes.specs.Eights.{packed, marked, outside}
use Rattle.std.specs.Array.{IsFirstChunk}
use Rattle.classes.proofs.Marks.{chunk-is, chunk-within, unmarked, some-marked, lead-all}

-- all of the first k bytes pass, or not all
lead-on : (g : ℕ → Bool) (k : ℕ) (s : List ℕ) → k ≤ length s → lead g (take k s) ≡ k → lead g s ≡ k + lead g (drop k s)
unfolding lead
lead-on g zero s h e = omega arith
lead-on g (suc k) [] h e = absurd (not-suc-le-zero h)
lead-on g (suc k) (b ∷ s) h e = go (g b) e (lead-on g k s (le_of_suc-le-suc h))
  where
    go : (t : Bool) → cond t (suc (lead g (take k s))) zero ≡ suc k → (lead g (take k s) ≡ k → lead g s ≡ k + lead g (drop k s))
        → cond t (suc (lead g s)) zero ≡ suc k + lead g (drop k s)
    go true q ih = let l = ih (omega (arith, q)) in omega (arith, l)
    go false q ih = absurd (omega (arith, q))

lead-stops : (g : ℕ → Bool) (k : ℕ) (s : List ℕ) → lead g (take k s) < k → k ≤ length s → lead g s ≡ lead g (take k s)
unfolding lead
lead-stops g zero s h l = absurd (not-suc-le-zero h)
lead-stops g (suc k) [] h l = absurd (not-suc-le-zero l)
lead-stops g (suc k) (b ∷ s) h l = go (g b) h (λ m. lead-stops g k s m (le_of_suc-le-suc l))
  where
    go : (t : Bool) → cond t (suc (lead g (take k s))) zero < suc k → (lead g (take k s) < k → lead g s ≡ lead g (take k s))
        → cond t (suc (lead g s)) zero ≡ cond t (suc (lead g (take k s))) zero
    go true q ih = ap suc (ih (le_of_suc-le-suc q))
    go false q ih = refl

module _ (f : ℕ → Bool) (s : List ℕ) (total : ℕ) where
  pub record Goes (i : ℕ) : Type 0 where
    pub within : i ≤ length s
    pub ends : total ≡ i + lead (outside f) (drop i s)

  lead-at : (i : ℕ) → i < length s → lead (outside f) (drop i s) ≡ cond (not (f (get_or s i 0))) (suc (lead (outside f) (drop (suc i) s))) zero
  unfolding lead
  lead-at i h = rw (drop-cons s i 0)

  module _ {i : ℕ} (g : Goes i) where
    module _ (r : Bool) (q : r ≡ f (get_or s i 0)) (h : i < length s) where
      pub goes-more : r ≡ false → Goes (i + 1)
      goes-more t =
          let l : lead (outside f) (drop i s) ≡ suc (lead (outside f) (drop (i + 1) s)) = rw add-one (rw (sym q ∙ t) at (lead-at i h)) in
          record { within = omega arith; ends = omega (arith, g.ends) }

      pub goes-here : r ≡ true → i ≡ total
      goes-here t =
          let l : lead (outside f) (drop i s) ≡ 0 = rw (sym q ∙ t) at (lead-at i h) in
          omega (arith, g.ends)

    pub goes_last : length s ≤ i → i ≡ total
    unfolding lead
    goes_last h =
        let l : lead (outside f) (drop i s) ≡ 0 = rw (drop_of_length-le s h) in
        omega (arith, g.ends)

    -- eight bytes, as the code takes them
    module _ (b : List ℕ) (x : IsFirstChunk (take (length s - i) (drop i s)) b 8) (m : ℕ) (p : m ≡ packed (marked f b)) where
      h : i + 8 ≤ length s
      h = chunk-within s i 8 b x g.within

      q : m ≡ packed (marked f (take 8 (drop i s)))
      q = rw (chunk-is s i 8 b x) at p

      eight : length (take 8 (drop i s)) ≡ 8
      eight = simp (length-take, length-drop) (omega (arith, h))

      pub goes-eight : m ≡ 0 → Goes (i + 8)
      goes-eight z =
          let a : lead (outside f) (take 8 (drop i s)) ≡ length (take 8 (drop i s)) = lead-all f (take 8 (drop i s)) (unmarked f (take 8 (drop i s)) (sym q ∙ z)) in
          let e : lead (outside f) (drop i s) ≡ 8 + lead (outside f) (drop 8 (drop i s)) = lead-on (outside f) 8 (drop i s) (simp length-drop (omega (arith, h))) (omega (arith, a, eight)) in
          record { within = h; ends = rw (← drop-drop 8 i s) (omega (arith, g.ends, e)) }

      module _ (k : ℕ) (n : m ≡ 0 → ⊥) (t : (p : ℕ → Bool) (l : List ℕ) → length l ≡ 8 → m ≡ packed (marked p l) → k ≡ lead (outside p) l) where
        first : k ≡ lead (outside f) (take 8 (drop i s))
        first = t f (take 8 (drop i s)) eight q

        pub goes-few : k < 8
        goes-few = let l = some-marked f (take 8 (drop i s)) (λ z. n (q ∙ z)) in omega (arith, l, eight, first)

        pub goes-found : i + k ≡ total
        goes-found =
            let e : lead (outside f) (drop i s) ≡ lead (outside f) (take 8 (drop i s)) = lead-stops (outside f) 8 (drop i s) (omega (arith, first, goes-few)) (simp length-drop (omega (arith, h))) in
            omega (arith, e, first, g.ends)
