-- A record read back, and records one after the other.
--     kind-number             a kind but a text's has the number that it is read from
--     item-by-kind            the item of a record, by its kind
--     part_none ..            the part of a source, by where it lies
--     shown-none, -some       what a room's tokens show, from the first one on
--     tokens_none, -some      the tokens themselves, from the first one on
--     tokens-drop, -take      those behind the first k, and the first k
--     tokens-shown            what they show
-- Assumes nothing.
use mathlib.Core.Path.{◌≡◌, refl, sym, ap, ◌∙◌}
use mathlib.Core.List.{List, [], ◌∷◌}
use Prim.Native.Nat.{ℕ, zero, suc, ◌+◌, ◌-◌, ◌*◌, ◌≤◌, ◌<◌}
use native.Mathlib.Nat.{not-suc-le-zero}
use native.Mathlib.Omega.{arith}
use lib.ListN.{length, get_or, take, drop, length-drop, length-take}
use lib.Seq.{drop-drop, take_all, get_or-take}
use Rattle.tokens.specs.Tokens.{Shown, Token, shown_words, token_words, shown_by}
use Rattle.tokens.specs.Tokens.{kind_number}
use Rattle.tokens.specs.declared.Kind.{Kind}
use Rattle.tokens.specs.declared.Kind.TheVariants as kinds
use Rattle.tokens.specs.declared.item.Item.{Item}
use Rattle.tokens.specs.declared.item.Item.TheVariants.{Text, Opening, Closing, LineBreak, Ignorable, Symbol}
use Rattle.std.proofs.lemmas.Bool.{eqb-true}
use Rattle.std.specs.Prelude.{Bool, true, false, cond, eqb}
use Rattle.tokens.specs.Items.{number_at, word_item, kind_at, item_of, item_at, part, shown_of, shown_all, token_at, tokens_all}

-- a kind but a text's has the number that it is read from
abbrev pub IsNamed : Kind → Type 0
IsNamed kinds.Text = ⊥
IsNamed kinds.Opening = Unit
IsNamed kinds.Closing = Unit
IsNamed kinds.LineBreak = Unit
IsNamed kinds.Ignorable = Unit
IsNamed kinds.Word = Unit
IsNamed kinds.Symbol = Unit

kind-number-by : (n : ℕ) (b1 b2 b3 b4 b5 b6 : Bool) → eqb n 1 ≡ b1 → eqb n 2 ≡ b2 → eqb n 3 ≡ b3 → eqb n 4 ≡ b4 → eqb n 5 ≡ b5 → eqb n 6 ≡ b6
    → IsNamed (cond b1 kinds.Opening (cond b2 kinds.Closing (cond b3 kinds.LineBreak (cond b4 kinds.Ignorable (cond b5 kinds.Word (cond b6 kinds.Symbol kinds.Text)))))) → n ≡ kind_number (cond b1 kinds.Opening (cond b2 kinds.Closing (cond b3 kinds.LineBreak (cond b4 kinds.Ignorable (cond b5 kinds.Word (cond b6 kinds.Symbol kinds.Text))))))
kind-number-by n true b2 b3 b4 b5 b6 p1 p2 p3 p4 p5 p6 named = eqb-true n 1 p1
kind-number-by n false true b3 b4 b5 b6 p1 p2 p3 p4 p5 p6 named = eqb-true n 2 p2
kind-number-by n false false true b4 b5 b6 p1 p2 p3 p4 p5 p6 named = eqb-true n 3 p3
kind-number-by n false false false true b5 b6 p1 p2 p3 p4 p5 p6 named = eqb-true n 4 p4
kind-number-by n false false false false true b6 p1 p2 p3 p4 p5 p6 named = eqb-true n 5 p5
kind-number-by n false false false false false true p1 p2 p3 p4 p5 p6 named = eqb-true n 6 p6
kind-number-by n false false false false false false p1 p2 p3 p4 p5 p6 named = absurd named

pub kind-number : (ws : List ℕ) {k : Kind} → kind_at ws ≡ k → IsNamed k → get_or ws 0 0 ≡ kind_number k
kind-number ws e named = rw (← e) (kind-number-by (get_or ws 0 0) _ _ _ _ _ _ refl refl refl refl refl refl (rw e named))

-- the item of a record whose kind is known
abbrev pub item_by : Kind → List ℕ → Item
item_by kinds.Text ws = Text (get_or ws 4 0) (get_or ws 5 0)
item_by kinds.Opening ws = Opening
item_by kinds.Closing ws = Closing
item_by kinds.LineBreak ws = LineBreak
item_by kinds.Ignorable ws = Ignorable
item_by kinds.Word ws = word_item (get_or ws 1 0) (number_at ws) (get_or ws 4 0) (get_or ws 5 0)
item_by kinds.Symbol ws = Symbol (get_or ws 1 0) (number_at ws)

item_by_cases : (ws : List ℕ) (b1 b2 b3 b4 b5 b6 : Bool) → item_by (cond b1 kinds.Opening (cond b2 kinds.Closing (cond b3 kinds.LineBreak (cond b4 kinds.Ignorable (cond b5 kinds.Word (cond b6 kinds.Symbol kinds.Text)))))) ws
    ≡ cond b1 Opening (cond b2 Closing (cond b3 LineBreak (cond b4 Ignorable (cond b5 (item_by kinds.Word ws) (cond b6 (item_by kinds.Symbol ws) (item_by kinds.Text ws))))))
item_by_cases ws true b2 b3 b4 b5 b6 = refl
item_by_cases ws false true b3 b4 b5 b6 = refl
item_by_cases ws false false true b4 b5 b6 = refl
item_by_cases ws false false false true b5 b6 = refl
item_by_cases ws false false false false true b6 = refl
item_by_cases ws false false false false false true = refl
item_by_cases ws false false false false false false = refl

pub item-by-kind : (ws : List ℕ) {k : Kind} → kind_at ws ≡ k → item_by k ws ≡ item_at ws
unfolding item_at item_of
item-by-kind ws e = rw (← e) (item_by_cases ws _ _ _ _ _ _)

-- all from a place on, as the code lends it
abbrev pub rest : List ℕ → ℕ → List ℕ
rest l p = take (length l - p) (drop p l)

pub rest-drop : (l : List ℕ) (p : ℕ) → rest l p ≡ drop p l
rest-drop l p = take_all (length l - p) (drop p l) (simp length-drop (omega arith))

-- a part of a source, as far as there is one; place and count as the code widens them
module _ (l : List ℕ) {p from : ℕ} (f : from ≡ p) where
  pub part_none : (n : ℕ) → length l < from → [] ≡ part l p n
  unfolding part
  part_none n h = go (drop p l) (simp length-drop (omega arith))
    where
      go : (m : List ℕ) → length m ≡ 0 → [] ≡ take n m
      go [] e = sym (take_all n [] (omega arith))
      go (a ∷ m) e = absurd (omega arith)

  module _ {n count : ℕ} (g : count ≡ n) where
    pub part-short : length (rest l from) < count → rest l from ≡ part l p n
    unfolding part
    part-short h =
        let k : length (drop from l) < count = rw rest-drop at h in
        rest-drop l from ∙ sym (take_all count (drop from l) (omega arith)) ∙ rw (f, g)

    pub part-whole : take count (rest l from) ≡ part l p n
    unfolding part
    part-whole = rw (rest-drop l from, f, g)

-- the words of the tokens behind the first
pub words-less : (n : ℕ) (ws : List ℕ) → n * token_words ≤ length ws → (n - 1) * token_words ≤ length (rest ws token_words)
words-less n ws h = simp (length-take, length-drop) (omega arith)

-- what stands behind a place, of the words up to a later one
drop-take : (a m : ℕ) (l : List ℕ) → drop a (take (a + m) l) ≡ take m (drop a l)
drop-take zero m l = let z : 0 + m ≡ m = omega arith in rw z
drop-take (suc a) m [] = let z : suc a + m ≡ suc (a + m) = omega arith in rw z (sym (take_all m [] (omega arith)))
drop-take (suc a) m (x ∷ l) = let z : suc a + m ≡ suc (a + m) = omega arith in rw z (drop-take a m l)

-- a record, of the words up to a place behind it
item-take : (m : ℕ) (ws : List ℕ) → token_words ≤ m → item_at (take m ws) ≡ item_at ws
unfolding item_at
item-take m ws h =
    rw (
      get_or-take m ws 0 0 (omega arith),
      get_or-take m ws 1 0 (omega arith),
      get_or-take m ws 2 0 (omega arith),
      get_or-take m ws 3 0 (omega arith),
      get_or-take m ws 4 0 (omega arith),
      get_or-take m ws 5 0 (omega arith),
    )

-- a token, of the words up to a place behind it
token-take : (src : List ℕ) (m : ℕ) (ws : List ℕ) → token_words ≤ m → token_at src (take m ws) ≡ token_at src ws
token-take src m ws h =
    rw (item-take m ws h, get_or-take m ws shown_words 0 (omega arith), get_or-take m ws (shown_words + 1) 0 (omega arith))

module _ (src : List ℕ) where
  pub shown-none : (n : ℕ) (ws : List ℕ) → n ≤ 0 → shown_all src n ws ≡ []
  unfolding shown_all
  shown-none zero ws h = refl
  shown-none (suc n) ws h = absurd (not-suc-le-zero h)

  -- the first token, and the rest
  pub shown-some : (n : ℕ) (ws : List ℕ) → 0 < n → shown_all src n ws ≡ shown_of src (item_at ws) ∷ shown_all src (n - 1) (rest ws token_words)
  unfolding shown_all
  shown-some zero ws h = absurd (not-suc-le-zero h)
  shown-some (suc n) ws h = let q : suc n - 1 ≡ n = omega arith in rw (q, rest-drop)

  pub tokens_none : (n : ℕ) (ws : List ℕ) → n ≤ 0 → tokens_all src n ws ≡ []
  unfolding tokens_all
  tokens_none zero ws h = refl
  tokens_none (suc n) ws h = absurd (not-suc-le-zero h)

  -- the first token, and the rest
  pub tokens-some : (n : ℕ) (ws : List ℕ) → 0 < n → tokens_all src n ws ≡ token_at src ws ∷ tokens_all src (n - 1) (rest ws token_words)
  unfolding tokens_all
  tokens-some zero ws h = absurd (not-suc-le-zero h)
  tokens-some (suc n) ws h = let q : suc n - 1 ≡ n = omega arith in rw (q, rest-drop)

  drop-tokens : (k n : ℕ) (ws : List ℕ) → k ≤ n → drop k (tokens_all src n ws) ≡ tokens_all src (n - k) (drop (k * token_words) ws)
  unfolding tokens_all
  drop-tokens zero n ws h = let q : n - 0 ≡ n = omega arith in rw q
  drop-tokens (suc k) zero ws h = absurd (not-suc-le-zero h)
  drop-tokens (suc k) (suc n) ws h =
      let q : suc n - suc k ≡ n - k = omega arith in
      let x : token_words + k * token_words ≡ suc k * token_words = omega arith in
      let e : drop (suc k * token_words) ws ≡ drop (k * token_words) (drop token_words ws) = sym (drop-drop (k * token_words) token_words ws ∙ ap (λ (m : ℕ). drop m ws) x) in
      rw (q, e) (drop-tokens k n (drop token_words ws) (omega arith))

  -- the tokens behind the first k
  pub tokens-drop : (k n : ℕ) (ws : List ℕ) → k ≤ n → drop k (tokens_all src n ws) ≡ tokens_all src (n - k) (rest ws (k * token_words))
  tokens-drop k n ws h = rw rest-drop (drop-tokens k n ws h)

  -- the first k tokens
  pub tokens-take : (k n : ℕ) (ws : List ℕ) → k ≤ n → take k (tokens_all src n ws) ≡ tokens_all src k (take (k * token_words) ws)
  unfolding tokens_all
  tokens-take zero n ws h = refl
  tokens-take (suc k) zero ws h = absurd (not-suc-le-zero h)
  tokens-take (suc k) (suc n) ws h =
      let x : suc k * token_words ≡ token_words + k * token_words = omega arith in
      rw (x, token-take src (token_words + k * token_words) ws (omega arith), drop-take token_words (k * token_words) ws)
      (ap (λ (ts : List Token). token_at src ws ∷ ts) (tokens-take k n (drop token_words ws) (omega arith)))

  -- what they show
  pub tokens-shown : (n : ℕ) (ws : List ℕ) → shown_by (tokens_all src n ws) ≡ shown_all src n ws
  unfolding tokens_all shown_all shown_by
  tokens-shown zero ws = refl
  tokens-shown (suc n) ws = ap (λ (xs : List Shown). shown_of src (item_at ws) ∷ xs) (tokens-shown n (drop token_words ws))
