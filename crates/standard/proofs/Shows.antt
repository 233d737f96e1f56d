-- What the tokens of a slice may show, and that it does not depend on where the slice stands.
--     tokens-each                a property that each kind of item has, each item of a slice has
--     tokens-alike, tail-alike   a slice that begins with no bracket, and text: the items at two places are alike in pairs, by any
--                                relation of what differs by its place alone
-- Assumes nothing.
use mathlib.Core.Path.{◌≡◌}
use mathlib.Core.List.{List, [], ◌∷◌}
use mathlib.Core.Bool.{Bool, true, false, cond, ◌||◌}
use Prim.Native.Nat.{ℕ, ◌+◌}
use lib.ListN.{take, drop}
use lib.Dec.{eqb, ltb}
use Rattle.answers.specs.declared.Why.{Why}
use Rattle.answers.specs.declared.Why.TheVariants.{HexShort, HexBad, NumberBad}
use Rattle.classes.specs.declared.Class.TheVariants.{Alpha}
use Rattle.classes.specs.Bytes.{is_alpha, in_class, lead}
use Rattle.names.specs.Names.{word_number}
use Rattle.numbers.specs.Numbers.{hex_pair, decimal}
use Rattle.rooms.specs.Streams.{Stream, end, stop, ◌▸◌, and_then}
use Rattle.rooms.proofs.Streams.{Each, Each-then, Each-either}
use Rattle.tokens.specs.Tokens.{Shown}
use Rattle.controls.specs.Controls.{shown_word, numbered}
use Rattle.standard.specs.Standard.{leads, tail, is_escape, number_length, named, word, hex_value, hex_escape, break_length, line_break_and, escaped, tokens}
use Rattle.std.specs.Prelude.{Option, Some, None}

-- a property of each kind of item; no text is empty
pub record Kinds (P : Shown → Type 0) : Type 0 where
  pub text : (p b : ℕ) (s : List ℕ) → P (Shown.text p (b ∷ s))
  pub opening : P Shown.opening
  pub closing : P Shown.closing
  pub line_break : P Shown.line_break
  pub ignorable : P Shown.ignorable
  pub known : (w : ℕ) (num : Option ℕ) → P (Shown.word w num)
  pub unknown : (p : ℕ) (name : List ℕ) (num : Option ℕ) → P (Shown.unknown p (92 ∷ name) num)
  pub symbol : (b : ℕ) (num : Option ℕ) → P (Shown.symbol b num)

module _ (P : Shown → Type 0) (k : Kinds P) where
  tail-each : (p : ℕ) (s : List ℕ) → Each P (tail p s)
  unfolding tail
  tail-each p [] = tt
  tail-each p (b ∷ s) = (k.text p b s, tt)

  shown-each : (p : ℕ) (name : List ℕ) (num : Option ℕ) → P (shown_word p name num)
  unfolding shown_word
  shown-each p name num = go (ltb (word_number name) 49)
    where
      go : (t : Bool) → P (cond t (Shown.word (word_number name) num) (Shown.unknown p (92 ∷ name) num))
      go true = k.known (word_number name) num
      go false = k.unknown p name num

  numbered-each : (p : ℕ) (name : List ℕ) (v : Option ℕ) → Each P (numbered p name v)
  unfolding numbered
  numbered-each p name (Some v) = (shown-each p name (Some v), tt)
  numbered-each p name None = tt

  named-each : (p : ℕ) (name s : List ℕ) → Each P (named p name s)
  unfolding named
  named-each p name [] = (shown-each p name None, tt)
  named-each p name (b ∷ s) = numbered-each p name (decimal (b ∷ s))

  word_each : (p : ℕ) (s : List ℕ) → Each P (word p s)
  unfolding word
  word_each p s =
      let m = lead (in_class Alpha) s in
      let n = number_length (drop m s) in
      let e = m + n + leads 32 (drop (m + n) s) in
      Each-then P _ _ (named-each p (take m s) (take n (drop m s))) (tail-each (p + 1 + e) (drop e s))

  hex-each : (p : ℕ) (s : List ℕ) → Each P (hex_escape p s)
  unfolding hex_escape hex_value
  hex-each p [] = tt
  hex-each p (a ∷ []) = tt
  hex-each p (a ∷ b ∷ s) = go (hex_pair a b)
    where
      go : (v : Option ℕ) → Each P (hex_value v (tail (p + 4) s))
      go (Some v) = (k.symbol 39 (Some v), tail-each (p + 4) s)
      go None = tt

  escaped-each : (p : ℕ) (s : List ℕ) → Each P (escaped p s)
  unfolding escaped line_break_and
  escaped-each p [] = (k.symbol 0 None, tt)
  escaped-each p (b ∷ s) =
      Each-either P (is_alpha b) _ _ (word_each p (b ∷ s))
      (Each-either P (is_escape b) _ _ (k.text (p + 1) b s, tt)
      (Each-either P (eqb b 39) _ _ (hex-each p s)
      (Each-either P (eqb b 10 || eqb b 13) _ _ (k.line_break, tail-each (p + 2 + break_length b s) (drop (break_length b s) s))
      (Each-either P (eqb b 42) _ _ (k.ignorable, tail-each (p + 2) s) (k.symbol b None, tail-each (p + 2) s)))))

  pub tokens-each : (p : ℕ) (s : List ℕ) → Each P (tokens p s)
  unfolding tokens
  tokens-each p [] = tt
  tokens-each p (b ∷ s) =
      Each-either P (eqb b 92) _ _ (escaped-each p s)
      (Each-either P (eqb b 123) _ _ (k.opening, tail-each (p + 1) s)
      (Each-either P (eqb b 125) _ _ (k.closing, tail-each (p + 1) s)
      (Each-either P (eqb b 10 || eqb b 13) _ _ (tail-each (p + 1) s) (tail-each p (b ∷ s)))))

-- two streams with items in pairs, which stop alike
pub data Alike (R : Shown → Shown → Type 0) : Stream Why Shown → Stream Why Shown → Type 0 where
  ends : Alike R end end
  stops : (r : Why) → Alike R (stop r) (stop r)
  more : {t u : Shown} {a b : Stream Why Shown} → R t u → Alike R a b → Alike R (t ▸ a) (u ▸ b)

-- a relation that holds between an item that is no bracket and the same elsewhere
pub record Moved (R : Shown → Shown → Type 0) : Type 0 where
  pub text : (p q : ℕ) (s : List ℕ) → R (Shown.text p s) (Shown.text q s)
  pub line_break : R Shown.line_break Shown.line_break
  pub ignorable : R Shown.ignorable Shown.ignorable
  pub known : (w : ℕ) (num : Option ℕ) → R (Shown.word w num) (Shown.word w num)
  pub unknown : (p q : ℕ) (bs : List ℕ) (num : Option ℕ) → R (Shown.unknown p bs num) (Shown.unknown q bs num)
  pub symbol : (b : ℕ) (num : Option ℕ) → R (Shown.symbol b num) (Shown.symbol b num)

module _ (R : Shown → Shown → Type 0) where
  alike-cond : {a b c d : Stream Why Shown} (x : Bool) → Alike R a c → Alike R b d → Alike R (cond x a b) (cond x c d)
  alike-cond true h i = h
  alike-cond false h i = i

  alike_then : {a b c d : Stream Why Shown} → Alike R a c → Alike R b d → Alike R (and_then a b) (and_then c d)
  unfolding and_then
  alike_then ends i = i
  alike_then (stops r) i = stops r
  alike_then (more e h) i = more e (alike_then h i)

  module _ (k : Moved R) where
    pub tail-alike : (p q : ℕ) (s : List ℕ) → Alike R (tail p s) (tail q s)
    unfolding tail
    tail-alike p q [] = ends
    tail-alike p q (b ∷ s) = more (k.text p q (b ∷ s)) ends

    shown-alike : (p q : ℕ) (name : List ℕ) (num : Option ℕ) → R (shown_word p name num) (shown_word q name num)
    unfolding shown_word
    shown-alike p q name num = go (ltb (word_number name) 49)
      where
        go : (t : Bool) → R (cond t (Shown.word (word_number name) num) (Shown.unknown p (92 ∷ name) num)) (cond t (Shown.word (word_number name) num) (Shown.unknown q (92 ∷ name) num))
        go true = k.known (word_number name) num
        go false = k.unknown p q (92 ∷ name) num

    numbered-alike : (p q : ℕ) (name : List ℕ) (v : Option ℕ) → Alike R (numbered p name v) (numbered q name v)
    unfolding numbered
    numbered-alike p q name (Some v) = more (shown-alike p q name (Some v)) ends
    numbered-alike p q name None = stops NumberBad

    named-alike : (p q : ℕ) (name s : List ℕ) → Alike R (named p name s) (named q name s)
    unfolding named
    named-alike p q name [] = more (shown-alike p q name None) ends
    named-alike p q name (b ∷ s) = numbered-alike p q name (decimal (b ∷ s))

    word-alike : (p q : ℕ) (s : List ℕ) → Alike R (word p s) (word q s)
    unfolding word
    word-alike p q s =
        let m = lead (in_class Alpha) s in
        let n = number_length (drop m s) in
        let e = m + n + leads 32 (drop (m + n) s) in
        alike_then (named-alike p q (take m s) (take n (drop m s))) (tail-alike (p + 1 + e) (q + 1 + e) (drop e s))

    value-alike : (p q : ℕ) (s : List ℕ) (v : Option ℕ) → Alike R (hex_value v (tail (p + 4) s)) (hex_value v (tail (q + 4) s))
    unfolding hex_value
    value-alike p q s (Some v) = more (k.symbol 39 (Some v)) (tail-alike (p + 4) (q + 4) s)
    value-alike p q s None = stops HexBad

    hex-alike : (p q : ℕ) (s : List ℕ) → Alike R (hex_escape p s) (hex_escape q s)
    unfolding hex_escape
    hex-alike p q [] = stops HexShort
    hex-alike p q (a ∷ []) = stops HexShort
    hex-alike p q (a ∷ b ∷ s) = value-alike p q s (hex_pair a b)

    escaped-alike : (p q : ℕ) (s : List ℕ) → Alike R (escaped p s) (escaped q s)
    unfolding escaped line_break_and
    escaped-alike p q [] = more (k.symbol 0 None) ends
    escaped-alike p q (b ∷ s) =
        alike-cond (is_alpha b) (word-alike p q (b ∷ s))
        (alike-cond (is_escape b) (more (k.text (p + 1) (q + 1) (b ∷ s)) ends)
        (alike-cond (eqb b 39) (hex-alike p q s)
        (alike-cond (eqb b 10 || eqb b 13) (more k.line_break (tail-alike (p + 2 + break_length b s) (q + 2 + break_length b s) (drop (break_length b s) s)))
        (alike-cond (eqb b 42) (more k.ignorable (tail-alike (p + 2) (q + 2) s))
        (more (k.symbol b None) (tail-alike (p + 2) (q + 2) s))))))

    pub tokens-alike : (p q b : ℕ) (s : List ℕ) → eqb b 123 ≡ false → eqb b 125 ≡ false → Alike R (tokens p (b ∷ s)) (tokens q (b ∷ s))
    unfolding tokens
    tokens-alike p q b s e f =
        rw (e, f)
        (alike-cond (eqb b 92) (escaped-alike p q s)
        (alike-cond (eqb b 10 || eqb b 13) (tail-alike (p + 1) (q + 1) s) (tail-alike p q (b ∷ s))))
