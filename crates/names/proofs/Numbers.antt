-- What `same_bytes` and a word's number mean.
--     same-bytes-eq    `same_bytes` is equality
--     number_small     a number is at most 49
--     number-named     a number below 49 is that of the word's name
--     number-unnamed   a word with the number 49 is none of the names
-- Assumes nothing.
use mathlib.Core.Path.{◌≡◌, refl}
use mathlib.Core.List.{List, [], ◌∷◌}
use mathlib.Core.Bool.{Bool, true, false, cond, false≢true}
use Prim.Native.Nat.{ℕ, zero, suc, ◌≤◌, ◌<◌}
use native.Mathlib.Nat.{not-suc-le-zero, le_of_suc-le-suc}
use native.Mathlib.Omega.{arith}
use borrow.Author.Tests.{eqb-true}
use lib.ListN.{length, get_or}
use lib.Dec.{eqb}
use Rattle.names.specs.Names.{names, same_bytes, place_in, word_number, name_of}

pub same-bytes-eq : (a b : List ℕ) → same_bytes a b ≡ true → a ≡ b
unfolding same_bytes
same-bytes-eq [] [] e = refl
same-bytes-eq [] (y ∷ b) e = absurd (false≢true e)
same-bytes-eq (x ∷ a) [] e = absurd (false≢true e)
same-bytes-eq (x ∷ a) (y ∷ b) e = go (eqb x y) refl (same-bytes-eq a b) e
  where
    go : (t : Bool) → eqb x y ≡ t → (same_bytes a b ≡ true → a ≡ b) → cond t (same_bytes a b) false ≡ true → x ∷ a ≡ y ∷ b
    go true q f r =
        let p : x ≡ y = eqb-true x y q in
        let l : a ≡ b = f r in
        cc
    go false q f r = absurd (false≢true r)

module _ (w : List ℕ) where
  place-small : (ns : List (List ℕ)) → place_in ns w ≤ length ns
  unfolding place_in
  place-small [] = omega arith
  place-small (n ∷ ns) = go (same_bytes w n) (place-small ns)
    where
      go : (t : Bool) → place_in ns w ≤ length ns → cond t zero (suc (place_in ns w)) ≤ suc (length ns)
      go true h = omega arith
      go false h = omega arith

  place-named : (ns : List (List ℕ)) → place_in ns w < length ns → w ≡ get_or ns (place_in ns w) []
  unfolding place_in
  place-named [] h = absurd (not-suc-le-zero h)
  place-named (n ∷ ns) h = go (same_bytes w n) refl (place-named ns) h
    where
      go : (t : Bool) → same_bytes w n ≡ t → (place_in ns w < length ns → w ≡ get_or ns (place_in ns w) [])
          → cond t zero (suc (place_in ns w)) < suc (length ns) → w ≡ get_or (n ∷ ns) (cond t zero (suc (place_in ns w))) []
      go true e ih h = same-bytes-eq w n e
      go false e ih h = ih (le_of_suc-le-suc h)

  place-unnamed : (ns : List (List ℕ)) → length ns ≤ place_in ns w → (k : ℕ) → k < length ns → same_bytes w (get_or ns k []) ≡ false
  unfolding place_in
  place-unnamed [] h k l = absurd (not-suc-le-zero l)
  place-unnamed (n ∷ ns) h k l = go (same_bytes w n) refl (place-unnamed ns) h k l
    where
      go : (t : Bool) → same_bytes w n ≡ t → (length ns ≤ place_in ns w → (k : ℕ) → k < length ns → same_bytes w (get_or ns k []) ≡ false)
          → suc (length ns) ≤ cond t zero (suc (place_in ns w)) → (k : ℕ) → k < suc (length ns) → same_bytes w (get_or (n ∷ ns) k []) ≡ false
      go true e ih h k l = absurd (not-suc-le-zero h)
      go false e ih h zero l = e
      go false e ih h (suc k) l = ih (le_of_suc-le-suc h) k (le_of_suc-le-suc l)

  pub number_small : word_number w ≤ 49
  unfolding word_number
  number_small = place-small names

  pub number-named : word_number w < 49 → w ≡ name_of (word_number w)
  unfolding word_number name_of
  number-named = place-named names

  pub number-unnamed : 49 ≤ word_number w → (k : ℕ) → k < 49 → same_bytes w (name_of k) ≡ false
  unfolding word_number name_of
  number-unnamed = place-unnamed names
