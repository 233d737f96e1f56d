-- Cutting a source that splits at the start of a slice: what stands before is cut by itself, all of its slices as slices
-- that are not the last.
--     all_append   slices, and then at least one slice more
--     all_split    a source that a new slice starts in
-- Assumes nothing.
use mathlib.Core.Path.{◌≡◌, refl, sym, ap, ◌∙◌}
use mathlib.Core.List.{List, [], ◌∷◌, ◌++◌}
use mathlib.Core.Bool.{true}
use Prim.Native.Nat.{ℕ, ◌+◌}
use native.Mathlib.Omega.{arith}
use lib.ListN.{length, take, drop, length-append}
use Rattle.readings.specs.declared.Reading.{Reading}
use Rattle.rooms.specs.Streams.{Stream, end, and_then}
use Rattle.rooms.proofs.Streams.{then-then}
use Rattle.slices.specs.Slices.{starts_slice, slices_by, length_by}
use Rattle.slices.proofs.Slices.{last_byte, joined}
use Rattle.slices.proofs.Feeds.{slices_by-first, slices_by-append, joined-slices_by}
use Rattle.tokens.specs.Tokens.{Token}
use Rattle.cutter.specs.Cutting.{located, all_slices}
use Rattle.answers.specs.declared.Refusal.{Refusal}

module _ (rd : Reading) where
  -- the tokens of slices none of which is the last
  unfoldable pub before : ℕ → List (List ℕ) → Stream Refusal Token
  before p [] = end
  before p (s ∷ ss) = and_then (located rd p s) (before (p + length s) ss)

  module _ (t : List ℕ) (ts : List (List ℕ)) where
    all_cons : (p : ℕ) (s : List ℕ) (xs : List (List ℕ)) → all_slices rd p (s ∷ (xs ++ (t ∷ ts))) ≡ and_then (located rd p s) (all_slices rd (p + length s) (xs ++ (t ∷ ts)))
    unfolding all_slices
    all_cons p s [] = refl
    all_cons p s (x ∷ xs) = refl

    pub all_append : (p : ℕ) (xs : List (List ℕ)) → all_slices rd p (xs ++ (t ∷ ts)) ≡ and_then (before p xs) (all_slices rd (p + length (joined xs)) (t ∷ ts))
    unfolding before joined and_then
    all_append p [] = ap (λ (q : ℕ). all_slices rd q (t ∷ ts)) (omega arith)
    all_append p (s ∷ xs) =
        let l : p + length s + length (joined xs) ≡ p + length (s ++ joined xs) = omega (arith, length-append s (joined xs)) in
        all_cons p s xs
        ∙ ap (and_then (located rd p s)) (all_append (p + length s) xs)
        ∙ sym (then-then (located rd p s) (before (p + length s) xs) (all_slices rd (p + length s + length (joined xs)) (t ∷ ts)))
        ∙ ap (λ (q : ℕ). and_then (and_then (located rd p s) (before (p + length s) xs)) (all_slices rd q (t ∷ ts))) l

  -- x and then c ∷ y, where a new slice starts at c, which is no line feed
  pub all_split : (p : ℕ) (x : List ℕ) (c : ℕ) (y : List ℕ) → (c ≡ 10 → ⊥) → starts_slice (last_byte 32 x) c ≡ true
      → all_slices rd p (slices_by rd (x ++ (c ∷ y))) ≡ and_then (before p (slices_by rd x)) (all_slices rd (p + length x) (slices_by rd (c ∷ y)))
  all_split p x c y m h =
      let n : ℕ = length_by rd (c ∷ y) in
      let t : List ℕ = take n (c ∷ y) in
      let ts : List (List ℕ) = slices_by rd (drop n (c ∷ y)) in
      let f : slices_by rd (c ∷ y) ≡ t ∷ ts = slices_by-first rd (c ∷ y) (omega arith) in
      let e : slices_by rd (x ++ (c ∷ y)) ≡ slices_by rd x ++ (t ∷ ts) = slices_by-append rd c y x m h ∙ ap (λ (l : List (List ℕ)). slices_by rd x ++ l) f in
      ap (all_slices rd p) e
      ∙ all_append t ts p (slices_by rd x)
      ∙ ap (λ (k : ℕ). and_then (before p (slices_by rd x)) (all_slices rd (p + k) (t ∷ ts))) (ap length (joined-slices_by rd x))
      ∙ ap (λ (l : List (List ℕ)). and_then (before p (slices_by rd x)) (all_slices rd (p + length x) l)) (sym f)
