-- The loop over the names of a letter.
--     Ahead                      what is found on the chain from a number on is the word's number
--     ahead_none, -empty         a word that starts with no letter, or is empty, has the number 49
--     ahead-start                the chain of the word's first letter
--     ahead-stop, -more, -end    the name that is looked at is the word, is another, or there is none left
--     ahead-less                 a link makes the chain shorter
-- Assumes nothing.
use mathlib.Core.Path.{◌≡◌, refl, sym, ap, ◌∙◌}
use mathlib.Core.List.{List, [], ◌∷◌}
use mathlib.Core.Bool.{Bool, true, false, cond, not, false≢true}
use mathlib.Core.Logic.{◌⊎◌, inl, inr}
use Prim.Native.Nat.{ℕ, zero, suc, ◌+◌, ◌-◌, ◌≤◌, ◌<◌}
use native.Mathlib.Nat.{eq-or-lt_of_le}
use native.Mathlib.Omega.{arith}
use borrow.Author.Tests.{ltb-true, le-ltb, not-true}
use lib.ListN.{length, get_or}
use lib.Dec.{ltb}
use Rattle.classes.specs.Bytes.{is_letter}
use Rattle.names.specs.Names.{same_bytes, word_number, name_of, rows}
use Rattle.names.proofs.Numbers.{number_small, number-named, number-unnamed}
use Rattle.names.proofs.Contents.{links_at, heads_at, head, link, ahead, chain, found_in, names-lettered, link-chain, head-finds}

-- a word that is no name is found nowhere
found_none : (w : List ℕ) → ((k : ℕ) → k < 49 → same_bytes w (name_of k) ≡ false) → (f k : ℕ) → found_in (ahead f k) w ≡ 49
unfolding ahead found_in
found_none w n zero k = refl
found_none w n (suc f) k = go (ltb k 49) refl (found_none w n f (link k))
  where
    go : (t : Bool) → ltb k 49 ≡ t → found_in (ahead f (link k)) w ≡ 49 → found_in (cond t (k ∷ ahead f (link k)) []) w ≡ 49
    go true e ih = rw (n k (ltb-true k 49 e)) ih
    go false e ih = refl

empty-first : (w : List ℕ) → length w ≡ 0 → get_or w 0 0 ≡ 0
empty-first [] e = refl
empty-first (b ∷ w) e = absurd (omega arith)

module _ (w : List ℕ) where
  pub Ahead : ℕ → Type 0
  Ahead k = found_in (chain k) w ≡ word_number w

  pub ahead_none : (r : Bool) → r ≡ is_letter (get_or w 0 0) → not r ≡ true → 49 ≡ word_number w
  ahead_none r q t = go (eq-or-lt_of_le (number_small w))
    where
      go : (word_number w ≡ 49) ⊎ (word_number w < 49) → 49 ≡ word_number w
      go (inl e) = sym e
      go (inr h) =
          absurd (false≢true (sym (not-true r t) ∙ q ∙ ap (λ (v : List ℕ). is_letter (get_or v 0 0)) (number-named w h) ∙ names-lettered (word_number w) h))

  pub ahead-empty : length w ≡ 0 → 49 ≡ word_number w
  ahead-empty e = ahead_none false (ap is_letter (sym (empty-first w e))) refl

  head-found : found_in (chain (head (get_or w 0 0))) w ≡ word_number w
  unfolding chain
  head-found = go (eq-or-lt_of_le (number_small w))
    where
      go : (word_number w ≡ 49) ⊎ (word_number w < 49) → found_in (chain (head (get_or w 0 0))) w ≡ word_number w
      go (inl e) = found_none w (number-unnamed w (omega arith)) 49 (head (get_or w 0 0)) ∙ sym e
      go (inr h) = ap (λ (v : List ℕ). found_in (chain (head (get_or v 0 0))) v) (number-named w h) ∙ head-finds (word_number w) h

  pub ahead-end : (k : ℕ) → Ahead k → 49 ≤ k → 49 ≡ word_number w
  unfolding Ahead chain ahead found_in
  ahead-end k a h = rw (le-ltb k 49 h) at a

  module _ (k : ℕ) (a : Ahead k) (h : k < 49) (r : Bool) (q : r ≡ same_bytes w (name_of k)) where
    here : cond r k (found_in (chain (link k)) w) ≡ word_number w
    unfolding Ahead found_in
    here = rw q (rw (link-chain k h) at a)

    pub ahead-stop : r ≡ true → k ≡ word_number w
    ahead-stop t = rw t at here

    pub ahead_more : r ≡ false → (t : List ℕ) → t ≡ rows → (j : ℕ) → j ≡ get_or t (links_at + k) 0 → Ahead j
    unfolding Ahead
    ahead_more f t z j e = rw (e, z) (rw f at here)

  pub ahead-start : (t : List ℕ) → t ≡ rows → (k : ℕ) → k ≡ get_or t (heads_at + (get_or w 0 0 - 97)) 0 → Ahead k
  unfolding Ahead
  ahead-start t z k e = rw (e, z) head-found

pub ahead-less : (t : List ℕ) → t ≡ rows → (k j : ℕ) → k < 49 → j ≡ get_or t (links_at + k) 0 → length (chain j) < length (chain k)
ahead-less t z k j h e = rw (e, z) (omega (arith, ap length (link-chain k h)))
