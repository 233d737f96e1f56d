-- The length of the first slice, in the terms of a loop over its bytes. Assumes nothing.
use mathlib.Core.Path.{◌≡◌, refl, sym, ap, ◌∙◌}
use mathlib.Core.List.{List, [], ◌∷◌}
use mathlib.Core.Bool.{Bool, true, false, cond}
use Prim.Native.Nat.{ℕ, zero, suc, ◌+◌, ◌-◌, ◌≤◌, ◌<◌}
use native.Mathlib.Nat.{not-suc-le-zero, le_of_suc-le-suc}
use native.Mathlib.Numerals.{add-one}
use native.Mathlib.Omega.{arith}
use lib.ListN.{length, get_or, take, drop, length-take, length-drop, drop_of_length-le}
use lib.Seq.{drop-cons, drop-drop, get_or-take, get_or-drop, take-take}
use Rattle.slices.specs.Slices.{starts_slice, up_to, slice_length}
use Rattle.classes.specs.Bytes.{is_special, any, lead}
use Rattle.classes.proofs.Runs.{or_left, or_right}
use borrow.Author.Tests.{ne_eqb}
use Rattle.classes.specs.Eights.{packed, marked, outside}
use Rattle.std.specs.Array.{IsFirstChunk}
use Rattle.classes.proofs.Marks.{chunk-is, chunk-within, unmarked, some-marked, lead-outside, lead-marked}
use Rattle.slices.proofs.Slices.{last_byte, last_byte-at}

-- fewer than two bytes are one slice, or none
pub end_short : (s : List ℕ) → length s < 2 → length s ≡ slice_length s
unfolding slice_length up_to
end_short [] h = refl
end_short (b ∷ []) h = refl
end_short (b ∷ c ∷ s) h = absurd (omega arith)

-- a run without a special byte is of the slice
up_to-plain : (k before : ℕ) (s : List ℕ) → any is_special (take k s) ≡ false → k ≤ length s → up_to before s ≡ k + up_to (last_byte before (take k s)) (drop k s)
unfolding up_to any last_byte
up_to-plain zero before s e h = omega arith
up_to-plain (suc k) before [] e h = absurd (not-suc-le-zero h)
up_to-plain (suc k) before (b ∷ s) e h =
    let x : is_special b ≡ false = or_left (is_special b) (any is_special (take k s)) e in
    let y : any is_special (take k s) ≡ false = or_right (is_special b) (any is_special (take k s)) e in
    rw x (omega (arith, up_to-plain k b s y (le_of_suc-le-suc h)))

-- what is counted from i on, behind the byte `before`, where `total` is what is counted in all
module _ (s : List ℕ) (total : ℕ) where
  abbrev pub Ends : ℕ → ℕ → Type 0
  Ends before i = total ≡ i + up_to before (drop i s)

  up_to-at : (before i : ℕ) → i < length s → up_to before (drop i s) ≡ cond (starts_slice before (get_or s i 0)) zero (suc (up_to (get_or s i 0) (drop (suc i) s)))
  unfolding up_to
  up_to-at before i h = rw (drop-cons s i 0)

  module _ (before i : ℕ) (r : Bool) (q : r ≡ starts_slice before (get_or s i 0)) (h : i < length s) (e : Ends before i) where
    pub ends_more : r ≡ false → Ends (get_or s i 0) (i + 1)
    ends_more t =
        let l : up_to before (drop i s) ≡ suc (up_to (get_or s i 0) (drop (i + 1) s)) = rw add-one (rw (sym q ∙ t) at (up_to-at before i h)) in
        omega arith

    pub ends-here : r ≡ true → i ≡ total
    ends-here t =
        let l : up_to before (drop i s) ≡ 0 = rw (sym q ∙ t) at (up_to-at before i h) in
        omega arith

  last_taken : (i k : ℕ) → i + 1 + k ≤ length s → last_byte (get_or s i 0) (take k (drop (i + 1) s)) ≡ get_or s (i + k) 0
  unfolding last_byte
  last_taken i zero h = ap (λ (m : ℕ). get_or s m 0) (omega arith)
  last_taken i (suc k) h =
      let n : length (take (suc k) (drop (i + 1) s)) ≡ suc k = simp (length-take, length-drop) (omega arith) in
      let y : suc k - 1 ≡ k = omega arith in
      let z : i + 1 + k ≡ i + suc k = omega arith in
      last_byte-at (get_or s i 0) (take (suc k) (drop (i + 1) s)) (omega (arith, n))
      ∙ rw (n, y) (get_or-take (suc k) (drop (i + 1) s) k 0 (omega arith) ∙ get_or-drop (i + 1) s k 0 ∙ ap (λ (m : ℕ). get_or s m 0) z)

  pub ends_last : (before i : ℕ) → length s ≤ i → Ends before i → i ≡ total
  unfolding up_to
  ends_last before i h e =
      let l : up_to before (drop i s) ≡ 0 = rw (drop_of_length-le s h) in
      omega arith

-- i bytes of the first slice are passed
module _ (s : List ℕ) (total : ℕ) where
  pub record At (i : ℕ) : Type 0 where
    pub some : 0 < i
    pub within : i ≤ length s
    pub ends : Ends s total (get_or s (i - 1) 0) i

  -- none of them special
  pub at-pass : {i j : ℕ} → At i → i ≤ j → j ≤ length s → any is_special (take (j - i) (drop i s)) ≡ false → At j
  at-pass {i} {j} a h l n =
      let k : ℕ = j - i in
      let z : i + k ≡ j = omega arith in
      let y : i - 1 + 1 ≡ i = omega (arith, a.some) in
      let u : up_to (get_or s (i - 1) 0) (drop i s) ≡ k + up_to (last_byte (get_or s (i - 1) 0) (take k (drop i s))) (drop k (drop i s)) = up_to-plain k (get_or s (i - 1) 0) (drop i s) n (simp length-drop (omega arith)) in
      let d : drop k (drop i s) ≡ drop j s = drop-drop k i s ∙ ap (λ (m : ℕ). drop m s) z in
      let e : last_byte (get_or s (i - 1) 0) (take k (drop i s)) ≡ get_or s (i - 1 + k) 0 = rw y at (last_taken s total (i - 1) k (omega (arith, a.some, a.within))) in
      let f : i - 1 + k ≡ j - 1 = omega (arith, a.some) in
      let g : last_byte (get_or s (i - 1) 0) (take k (drop i s)) ≡ get_or s (j - 1) 0 = e ∙ ap (λ (m : ℕ). get_or s m 0) f in
      record { some = omega (arith, a.some); within = l; ends = rw (← g, ← d) (omega (arith, a.ends, u, z)) }

  -- the slice goes up to a special byte, or beyond it
  pub record Found (i : ℕ) : Type 0 where
    pub at : At i
    pub within : i < length s
    pub special : is_special (get_or s i 0) ≡ true

  -- eight bytes, as the code takes them
  module _ {i : ℕ} (a : At i) (b : List ℕ) (x : IsFirstChunk (take (length s - i) (drop i s)) b 8) where
    l : i + 8 ≤ length s
    l = chunk-within s i 8 b x a.within

    eight : length (take 8 (drop i s)) ≡ 8
    eight = simp (length-take, length-drop) (omega (arith, l))

    -- eight bytes without a mark
    pub passed : (m : ℕ) → m ≡ packed (marked is_special b) → m ≡ 0 → At (i + 8)
    passed m p z =
        let q : m ≡ packed (marked is_special (take 8 (drop i s))) = rw (chunk-is s i 8 b x) at p in
        let w : i + 8 - i ≡ 8 = omega arith in
        at-pass a (omega arith) l (rw w (unmarked is_special (take 8 (drop i s)) (sym q ∙ z)))

    -- eight bytes with a mark
    module _ (m k : ℕ) (p : m ≡ packed (marked is_special b)) (n : m ≡ 0 → ⊥) (f : (p : ℕ → Bool) (t : List ℕ) → length t ≡ 8 → m ≡ packed (marked p t) → k ≡ lead (outside p) t) where
      q : m ≡ packed (marked is_special (take 8 (drop i s)))
      q = rw (chunk-is s i 8 b x) at p

      first : k ≡ lead (outside is_special) (take 8 (drop i s))
      first = f is_special (take 8 (drop i s)) eight q

      few : k < 8
      few = let h = some-marked is_special (take 8 (drop i s)) (λ z. n (q ∙ z)) in omega (arith, h, eight, first)

      pub found : Found (i + k)
      found =
          let z : i + k - i ≡ k = omega arith in
          let t : take k (take 8 (drop i s)) ≡ take k (drop i s) = take-take k 8 (drop i s) (omega (arith, few)) in
          let p : any is_special (take k (take 8 (drop i s))) ≡ false = rw (← first) at (lead-outside is_special (take 8 (drop i s))) in
          let u : is_special (get_or (take 8 (drop i s)) k 0) ≡ true = rw (← first) at (lead-marked is_special (take 8 (drop i s)) (omega (arith, first, few, eight))) in
          let g : get_or (take 8 (drop i s)) k 0 ≡ get_or s (i + k) 0 = get_or-take 8 (drop i s) k 0 (omega (arith, few)) ∙ get_or-drop i s k 0 in
          record { at = at-pass a (omega arith) (omega (arith, few, l)) (rw (z, ← t) p); within = omega (arith, few, l); special = rw (← g) u }

  -- it starts the next slice, unless a backslash stands before it
  pub found-ends : {i : ℕ} → Found i → (get_or s (i - 1) 0 ≡ 92 → ⊥) → i ≡ total
  found-ends {i} f n =
      let q : true ≡ starts_slice (get_or s (i - 1) 0) (get_or s i 0) = rw (f.special, ne_eqb (get_or s (i - 1) 0) 92 n) in
      ends-here s total (get_or s (i - 1) 0) i true q f.within f.at.ends refl

  -- a byte that starts no slice
  pub at_more : {i : ℕ} (r : Bool) → r ≡ starts_slice (get_or s (i - 1) 0) (get_or s i 0) → At i → i < length s → r ≡ false → At (i + 1)
  at_more {i} r q a h t =
      let z : i + 1 - 1 ≡ i = omega arith in
      record { some = omega arith; within = omega arith; ends = rw z (ends_more s total (get_or s (i - 1) 0) i r q h a.ends t) }

  pub found-more : {i : ℕ} → Found i → get_or s (i - 1) 0 ≡ 92 → At (i + 1)
  found-more {i} f e =
      let q : false ≡ starts_slice (get_or s (i - 1) 0) (get_or s i 0) = rw (f.special, e) in
      at_more false q f.at f.within refl

-- a slice's first byte is passed unseen
pub at-start : (s : List ℕ) → 0 < length s → At s (slice_length s) 1
unfolding slice_length
at-start [] h = absurd (omega arith)
at-start (b ∷ s) h = record { some = omega arith; within = omega arith; ends = omega arith }
