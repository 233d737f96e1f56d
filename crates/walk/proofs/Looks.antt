-- The loops that look behind a bracket.
--     Looking, look-start, -more, -none, -found   for the first token that is no line break
--     Measuring, measure-start, -more, -end, -none   for the bracket that matches
--     Seeking, seek-start, -more, -none, -found      for the place of a table's word
-- Assumes nothing.
use mathlib.Core.Path.{◌≡◌, refl, sym, ap, ◌∙◌}
use mathlib.Core.List.{List, []}
use mathlib.Core.Bool.{Bool, true, false, cond, not, false≢true}
use Prim.Native.Nat.{ℕ, suc, ◌+◌, ◌-◌, ◌*◌, ◌≤◌, ◌<◌}
use native.Mathlib.Omega.{arith}
use borrow.Author.Tests.{eq-eqb, ne_eqb, not-true, not-false}
use lib.ListN.{length}
use lib.Dec.{eqb}
use Rattle.tokens.specs.Tokens.{Shown, token_words}
use Rattle.tokens.specs.declared.item.Item.{Item}
use Rattle.tokens.specs.declared.item.Item.TheVariants.{LineBreak}
use Rattle.tokens.specs.Items.{item_at, shown_of, shown_all, slice_at, tokens_all}
use Rattle.tokens.proofs.Items.{rest, words-less, shown-none, shown-some, tokens_none}
use Rattle.rooms.proofs.Chunks.{Chunk, chunk-words, left_none}
use Rattle.tokens.proofs.Chunks.{chunk-shown, chunk-tokens}
use Rattle.walk.specs.declared.Aim.{Aim}
use Rattle.walk.specs.declared.Aim.TheVariants.{Nothing}
use Rattle.walk.specs.Walk.{aim_at, is_break, aim_from, aim, level, extent, table_word}

-- what is left, from here, gives the whole result
pub record Looking (s : List ℕ) (count : ℕ) (t : List ℕ) (n : ℕ) (late : Bool) : Type 0 where
  pub words : n * token_words ≤ length t
  pub left : (src : List ℕ) → aim_from late (shown_all src n t) ≡ aim (shown_all src count s)

pub look-start : (s : List ℕ) (count : ℕ) → count * token_words ≤ length s → Looking s count s count false
look-start s count h = record { words = h; left = λ src. refl }

break-goes-on : (late : Bool) (t : Shown) (later : Aim) → is_break t ≡ true → aim_at late t later ≡ later
break-goes-on late Shown.line_break later e = refl
break-goes-on late Shown.ignorable later e = absurd (false≢true e)
break-goes-on late (Shown.word w num) later e = absurd (false≢true e)
break-goes-on late (Shown.text p bs) later e = absurd (false≢true e)
break-goes-on late Shown.opening later e = absurd (false≢true e)
break-goes-on late Shown.closing later e = absurd (false≢true e)
break-goes-on late (Shown.unknown p bs num) later e = absurd (false≢true e)
break-goes-on late (Shown.symbol b num) later e = absurd (false≢true e)

other-decides : (late : Bool) (t : Shown) (later other : Aim) → is_break t ≡ false → aim_at late t later ≡ aim_at late t other
other-decides late Shown.line_break later other e = absurd (false≢true (sym e))
other-decides late Shown.ignorable later other e = refl
other-decides late (Shown.word w num) later other e = refl
other-decides late (Shown.text p bs) later other e = refl
other-decides late Shown.opening later other e = refl
other-decides late Shown.closing later other e = refl
other-decides late (Shown.unknown p bs num) later other e = refl
other-decides late (Shown.symbol b num) later other e = refl

module _ {s : List ℕ} {count : ℕ} {t : List ℕ} {n : ℕ} {late : Bool} (l : Looking s count t n late) where
  -- no token is left
  pub look_none : n ≡ 0 → {first : Item} {r : Aim} → first ≡ LineBreak → ((src : List ℕ) → r ≡ aim_at late (shown_of src first) Nothing)
      → (src : List ℕ) → r ≡ aim (shown_all src count s)
  unfolding aim_from
  look_none z {first} {r} f g src =
      let e : shown_all src n t ≡ [] = shown-none src n t (omega arith) in
      let a : Nothing ≡ aim (shown_all src count s) = rw e at (l.left src) in
      g src ∙ ap (λ (i : Item). aim_at late (shown_of src i) Nothing) f ∙ a

  module _ (z : n ≡ 0 → ⊥) {i : Item} (e : i ≡ item_at t) {b : Bool} (q : (src : List ℕ) → b ≡ is_break (shown_of src i)) where
    first-token : (src : List ℕ) → aim_at late (shown_of src i) (aim_from true (shown_all src (n - 1) (rest t token_words))) ≡ aim (shown_all src count s)
    unfolding aim_from
    first-token src = rw e (rw (shown-some src n t (omega arith)) at (l.left src))

    pub look-found : not b ≡ true → {first : Item} {r : Aim} → first ≡ i → ((src : List ℕ) → r ≡ aim_at late (shown_of src first) Nothing)
        → (src : List ℕ) → r ≡ aim (shown_all src count s)
    look-found f {first} {r} h g src =
        g src
        ∙ ap (λ (j : Item). aim_at late (shown_of src j) Nothing) h
        ∙ other-decides late (shown_of src i) Nothing (aim_from true (shown_all src (n - 1) (rest t token_words))) (sym (q src) ∙ not-true b f)
        ∙ first-token src

    pub look-more : not b ≡ false → Looking s count (rest t token_words) (n - 1) true
    look-more f = record {
      words = words-less n t l.words;
      left = λ src. sym (break-goes-on late (shown_of src i) (aim_from true (shown_all src (n - 1) (rest t token_words))) (sym (q src) ∙ not-false b f)) ∙ first-token src;
    }

-- what was measured, and what is left
pub record Measuring (s : List ℕ) (count : ℕ) (t : List ℕ) (n d : ℕ) : Type 0 where
  pub words : n * token_words ≤ length t
  pub few : n ≤ count
  pub some : 0 < d
  pub deep : d ≤ 1 + (count - n)
  pub left : (src : List ℕ) → count - n + extent d (shown_all src n t) ≡ extent 1 (shown_all src count s)

pub measure-start : (s : List ℕ) (count : ℕ) → count * token_words ≤ length s → Measuring s count s count 1
measure-start s count h = record {
  words = h;
  few = omega arith;
  some = omega arith;
  deep = omega arith;
  left = λ src. let z : count - count ≡ 0 = omega arith in rw z (omega arith);
}

level-bound : (t : Shown) (d : ℕ) → level t d ≤ d + 1
level-bound Shown.opening d = omega arith
level-bound Shown.closing d = omega arith
level-bound Shown.line_break d = omega arith
level-bound Shown.ignorable d = omega arith
level-bound (Shown.text p bs) d = omega arith
level-bound (Shown.word w num) d = omega arith
level-bound (Shown.unknown p bs num) d = omega arith
level-bound (Shown.symbol b num) d = omega arith

module _ {s : List ℕ} {count : ℕ} {t : List ℕ} {n d : ℕ} (l : Measuring s count t n d) where
  pub measure-none : (0 < n → length t < token_words) → ((src : List ℕ) → count ≡ extent 1 (shown_all src count s)) × (count ≤ count)
  unfolding extent
  measure-none f =
      let z : n ≤ 0 = left_none token_words n t l.words f in
      ((λ src. let e : count - n + 0 ≡ extent 1 (shown_all src count s) = rw (shown-none src n t z) at (l.left src) in omega arith), omega arith)

  module _ {here more : List ℕ} {m : ℕ} (k : Chunk token_words t n here more m) where
    -- what `level` asks
    pub measure-ready : (0 < d) × (d ≤ count)
    measure-ready = (l.some, let e : m + 1 ≡ n = k.one in let a : d ≤ 1 + (count - n) = l.deep in let b : n ≤ count = l.few in omega arith)

    module _ {i : Item} (e : i ≡ item_at here) {d' : ℕ} (q : (src : List ℕ) → d' ≡ level (shown_of src i) d) where
      one_more : (src : List ℕ) → count - n + cond (eqb d' 0) 1 (suc (extent d' (shown_all src m more))) ≡ extent 1 (shown_all src count s)
      unfolding extent
      one_more src = rw (q src, e) (rw (chunk-shown k src) at (l.left src))

      -- p tokens came before
      pub measure-end : (p : ℕ) → p + n ≡ count → d' ≡ 0 → ((src : List ℕ) → p + 1 ≡ extent 1 (shown_all src count s)) × (p + 1 ≤ count)
      measure-end p o f =
          let z : m + 1 ≡ n = k.one in
          ((λ src. let a : count - n + 1 ≡ extent 1 (shown_all src count s) = rw (eq-eqb d' 0 f) at (one_more src) in omega arith), omega arith)

      pub measure-more : (d' ≡ 0 → ⊥) → Measuring s count more m d'
      measure-more f =
          let z : m + 1 ≡ n = k.one in
          let g : n ≤ count = l.few in
          let h : d ≤ 1 + (count - n) = l.deep in
          record {
            words = chunk-words k l.words;
            few = omega arith;
            some = omega arith;
            deep = let b : d' ≤ d + 1 = rw (q []) (level-bound (shown_of [] i) d) in omega arith;
            left = λ src.
                let a : count - n + suc (extent d' (shown_all src m more)) ≡ extent 1 (shown_all src count s) = rw (ne_eqb d' 0 f) at (one_more src) in
                let b : count - m ≡ count - n + 1 = omega arith in
                rw b (omega arith);
          }

-- for the table's word: what is left, from here, has it
pub record Seeking (s : List ℕ) (count : ℕ) (t : List ℕ) (n : ℕ) : Type 0 where
  pub words : n * token_words ≤ length t
  pub left : (src : List ℕ) → table_word (tokens_all src n t) ≡ table_word (tokens_all src count s)

pub seek-start : (s : List ℕ) (count : ℕ) → count * token_words ≤ length s → Seeking s count s count
seek-start s count h = record { words = h; left = λ src. refl }

module _ {s : List ℕ} {count : ℕ} {t : List ℕ} {n : ℕ} (l : Seeking s count t n) where
  pub seek-none : (0 < n → length t < token_words) → (src : List ℕ) → 0 ≡ table_word (tokens_all src count s)
  unfolding table_word
  seek-none f src = rw (tokens_none src n t (left_none token_words n t l.words f)) at (l.left src)

  module _ {here more : List ℕ} {m : ℕ} (k : Chunk token_words t n here more m) {i : Item} (e : i ≡ item_at here)
      {b : Bool} (q : (src : List ℕ) → b ≡ is_break (shown_of src i)) where
    seek-one : (src : List ℕ) → cond b (table_word (tokens_all src m more)) (slice_at here) ≡ table_word (tokens_all src count s)
    unfolding table_word
    seek-one src = rw (q src, e) (rw (chunk-tokens k src) at (l.left src))

    pub seek_found : b ≡ false → {r : ℕ} → r ≡ slice_at here → (src : List ℕ) → r ≡ table_word (tokens_all src count s)
    seek_found f h src = h ∙ (rw f at (seek-one src))

    pub seek-more : b ≡ true → Seeking s count more m
    seek-more f = record { words = chunk-words k l.words; left = λ src. rw f at (seek-one src) }
