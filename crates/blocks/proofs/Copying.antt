-- Bytes copied into a list at a place, a part after the other.
--     held-part, held-length, piece-held   a piece that is held elsewhere on the way
--     byte_more    one byte more is copied
--     piece-more   a piece more, which begins where the copied part ends or within it
--     copy-end     all is copied
-- Assumes nothing.
use mathlib.Core.Path.{◌≡◌, sym, ap, ap₂, ◌∙◌}
use mathlib.Core.List.{List, ◌++◌, append_assoc}
use Prim.Native.Nat.{ℕ, ◌+◌, ◌-◌, ◌<◌, ◌≤◌}
use native.Mathlib.Numerals.{add-one}
use native.Mathlib.Omega.{arith}
use lib.ListN.{length, take, drop, set, get_or, length-drop}
use lib.Seq.{sets, sets-eq, paste, paste-suc, length-paste, take-paste, drop-paste, take-length, length-take-le, take_at, take-add, take-take, take-append-add, drop-drop}

length_part : (s : List ℕ) (i k : ℕ) → i + k ≤ length s → length (take k (drop i s)) ≡ k
length_part s i k h = length-take-le k (drop i s) (simp length-drop (omega arith))

-- z is what the holder held before
module _ (s z h : List ℕ) (i k : ℕ) (held : h ≡ sets z 0 (take (i + k - i) (drop i s))) (inside : i + k ≤ length s) (room : k ≤ length z) where
  pub held-part : take k h ≡ take k (drop i s)
  held-part =
      let q : i + k - i ≡ k = omega arith in
      let v : List ℕ = take k (drop i s) in
      let n : length v ≡ k = length_part s i k inside in
      ap (take k) (held ∙ rw q (sets-eq v z 0 (omega (arith, n, room)))) ∙ take_at v (drop (0 + length v) z) k n

  pub held-length : length (take k h) ≡ k
  held-length = ap length held-part ∙ length_part s i k inside

  pub piece-held : (t : List ℕ) (to : ℕ) {t' : List ℕ} → t' ≡ sets t to (take k h) → t' ≡ sets t to (take k (drop i s))
  piece-held t to e = e ∙ ap (sets t to) held-part

module _ (d : List ℕ) (at : ℕ) (s : List ℕ) (fits : at + length s ≤ length d) where
  -- what stands before a place of the copied part, and behind one that is past it
  front : (i j : ℕ) {l : List ℕ} → j ≤ i → i ≤ length s → l ≡ paste d at s i → take (at + j) l ≡ take at d ++ take j s
  front i j {l} h n e =
      let a : at ≤ length d = omega arith in
      let q : length (take at d) ≡ at = length-take-le at d a in
      sym (take-take (at + j) (at + i) l (omega arith))
      ∙ ap (λ (r : List ℕ). take (at + j) (take (at + i) r)) e
      ∙ ap (take (at + j)) (take-paste d at s i a n)
      ∙ rw q at (take-append-add (take at d) (take i s) j)
      ∙ ap (λ (r : List ℕ). take at d ++ r) (take-take j i s h)

  back : (i j : ℕ) {l : List ℕ} → i ≤ j → i ≤ length s → l ≡ paste d at s i → drop (at + j) l ≡ drop (at + j) d
  back i j {l} h n e =
      let q : at + j ≡ at + i + (j - i) = omega arith in
      rw q
      (sym (drop-drop (j - i) (at + i) l)
      ∙ ap (λ (r : List ℕ). drop (j - i) (drop (at + i) r)) e
      ∙ ap (drop (j - i)) (drop-paste d at s i (omega arith) n)
      ∙ drop-drop (j - i) (at + i) d)

  pub byte_more : (i : ℕ) {l : List ℕ} → i < length s → l ≡ paste d at s i → set l (at + i) (get_or s i 0) ≡ paste d at s (i + 1)
  byte_more i h e = rw (add-one, e) (paste-suc d at s i 0 (omega arith) h)

  pub piece-more : (i j k : ℕ) {l l' : List ℕ} → j ≤ i → i ≤ j + k → j + k ≤ length s → l ≡ paste d at s i
      → l' ≡ sets l (at + j) (take k (drop j s)) → l' ≡ paste d at s (j + k)
  piece-more i j k {l} {l'} h g n e f =
      let v : List ℕ = take k (drop j s) in
      let c : length v ≡ k = length_part s j k n in
      let w : length l ≡ length d = ap length e ∙ length-paste d at s i (omega arith) (omega arith) in
      let q : at + j + length v ≡ at + (j + k) = omega (arith, c) in
      f
      ∙ sets-eq v l (at + j) (omega (arith, c, w))
      ∙ ap₂ (λ (x y : List ℕ). x ++ y)
      (ap (λ (r : List ℕ). r ++ v) (front i j h (omega arith) e)
      ∙ append_assoc (take at d) (take j s) v
      ∙ ap (λ (r : List ℕ). take at d ++ r) (sym (take-add j k s)))
      (ap (λ (r : ℕ). drop r l) q ∙ back i (j + k) g (omega arith) e)

  pub copy-end : (k : ℕ) {l : List ℕ} → k ≡ length s → l ≡ paste d at s k → l ≡ sets d at s
  copy-end k q e = e ∙ rw (q, take-length) (sym (sets-eq s d at fits))
