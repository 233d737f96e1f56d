-- What the table holds. Each law but `each` is one computed test, over all names where it is about a name.
--     each                        a test that holds of all numbers below n, by one computation
--     names-all                   there are 49 names
--     names-lettered              every name starts with a letter
--     bounds-rise, -within, -end  a name ends behind its begin and within the run, the last one where the run does
--     bounds-name                 between a name's bounds stands the name
--     link-chain                  a name's link leads to what is left of its chain, so a chain ends
--     head-finds                  on the chain of its first letter a name is found, and under its number
-- Assumes nothing.
use mathlib.Core.Path.{◌≡◌, refl, ap, ◌∙◌}
use mathlib.Core.List.{List, [], ◌∷◌, flatten}
use mathlib.Core.Bool.{Bool, true, cond, ◌&&◌}
use mathlib.Core.Logic.{◌⊎◌, inl, inr}
use Prim.Native.Nat.{ℕ, zero, suc, ◌+◌, ◌-◌, ◌≤◌, ◌<◌}
use native.Mathlib.Nat.{not-suc-le-zero, eq-or-lt_of_le, le_of_suc-le-suc}
use borrow.Author.Tests.{eqb-true, leb-true, ltb-true}
use lib.ListN.{length, get_or, take, drop}
use lib.Dec.{eqb, leb, ltb}
use Rattle.classes.specs.Bytes.{is_letter}
use Rattle.classes.proofs.Runs.{and_left, and_right}
use Rattle.names.specs.Names.{names, same_bytes, place_in, word_number, name_of, run, bounds_from, first_with, behind, links, heads, rows}
use Rattle.names.proofs.Numbers.{same-bytes-eq}

-- a test holds of all numbers below n
unfoldable below : (ℕ → Bool) → ℕ → Bool
below p zero = true
below p (suc n) = p n && below p n

each : (p : ℕ → Bool) (n : ℕ) → below p n ≡ true → (k : ℕ) → k < n → p k ≡ true
unfolding below
each p zero t k h = absurd (not-suc-le-zero h)
each p (suc n) t k h = go (eq-or-lt_of_le (le_of_suc-le-suc h)) (each p n (and_right (p n) (below p n) t) k)
  where
    go : (k ≡ n) ⊎ (k < n) → (k < n → p k ≡ true) → p k ≡ true
    go (inl q) ih = ap p q ∙ and_left (p n) (below p n) t
    go (inr l) ih = ih l

-- where the rows behind the run start: `BOUNDS`, `LINKS`, `HEADS` of the code
abbrev pub bounds_at : ℕ
bounds_at = 203

abbrev pub links_at : ℕ
links_at = 253

abbrev pub heads_at : ℕ
heads_at = 302

-- what the code reads: where a name begins and ends, the number of the next one, and that of a letter's first
abbrev pub begins : ℕ → ℕ
begins k = get_or rows (bounds_at + k) 0

abbrev pub ends : ℕ → ℕ
ends k = get_or rows (bounds_at + k + 1) 0

abbrev pub link : ℕ → ℕ
link k = get_or rows (links_at + k) 0

abbrev pub head : ℕ → ℕ
head b = get_or rows (heads_at + (b - 97)) 0

names-all : length names ≡ 49
names-all = refl

pub names-lettered : (k : ℕ) → k < 49 → is_letter (get_or (name_of k) 0 0) ≡ true
unfolding below name_of
names-lettered = each (λ (k : ℕ). is_letter (get_or (name_of k) 0 0)) 49 refl

pub bounds-rise : (k : ℕ) → k < 49 → begins k < ends k
unfolding below flatten run bounds_from rows
bounds-rise k h = ltb-true (begins k) (ends k) (each (λ (j : ℕ). ltb (begins j) (ends j)) 49 refl k h)

pub bounds-within : (k : ℕ) → k < 49 → ends k ≤ bounds_at
unfolding below flatten run bounds_from rows
bounds-within k h = leb-true (ends k) bounds_at (each (λ (j : ℕ). leb (ends j) bounds_at) 49 refl k h)

bounds-end : ends 48 ≡ length run
unfolding flatten run bounds_from rows
bounds-end = refl

-- what stands in the run between a name's bounds
abbrev pub between : ℕ → List ℕ
between k = take (ends k - begins k) (drop (begins k) rows)

pub bounds-name : (k : ℕ) → k < 49 → between k ≡ name_of k
unfolding below flatten same_bytes name_of run bounds_from rows
bounds-name k h = same-bytes-eq (between k) (name_of k) (each (λ (j : ℕ). same_bytes (between j) (name_of j)) 49 refl k h)

-- the numbers along the links, from a number on, at most f of them
unfoldable pub ahead : ℕ → ℕ → List ℕ
ahead zero k = []
ahead (suc f) k = cond (ltb k 49) (k ∷ ahead f (link k)) []

-- the chain from a number on; no chain is longer than there are names
unfoldable pub chain : ℕ → List ℕ
chain = ahead 49

pub link-chain : (k : ℕ) → k < 49 → chain k ≡ k ∷ chain (link k)
unfolding below flatten same_bytes place_in word_number name_of run bounds_from first_with behind links heads rows ahead chain
link-chain k h =
    same-bytes-eq (chain k) (k ∷ chain (link k)) (each (λ (j : ℕ). same_bytes (chain j) (j ∷ chain (link j))) 49 refl k h)

-- the first number of a list whose name is w, 49 if there is none
unfoldable pub found_in : List ℕ → List ℕ → ℕ
found_in [] w = 49
found_in (k ∷ ks) w = cond (same_bytes w (name_of k)) k (found_in ks w)

pub head-finds : (k : ℕ) → k < 49 → found_in (chain (head (get_or (name_of k) 0 0))) (name_of k) ≡ k
unfolding below flatten same_bytes place_in word_number name_of run bounds_from first_with behind links heads rows ahead chain found_in
head-finds k h = eqb-true (found k) k (each (λ (j : ℕ). eqb (found j) j) 49 refl k h)
  where
    found : ℕ → ℕ
    found j = found_in (chain (head (get_or (name_of j) 0 0))) (name_of j)
