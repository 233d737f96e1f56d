-- What a slice shows stands in it, so that a token's place and length can be read back from the source.
--     tokens-stand   what the tokens of a slice show stands in the slice; numbers fit their words
-- Passes on the notions of it, which both rule sets share.
-- Assumes nothing.
use mathlib.Core.Path.{◌≡◌, refl}
use mathlib.Core.List.{List, [], ◌∷◌, ◌++◌, append_assoc}
use mathlib.Core.Bool.{Bool, true, false, cond}
use Prim.Native.Nat.{ℕ, ◌+◌, ◌<◌}
use native.Mathlib.Omega.{arith}
use borrow.Author.Tests.{eqb-true}
use lib.ListN.{length, take, drop, length-take, length-drop, take-append-drop}
use lib.Dec.{eqb, ltb}
use Rattle.classes.specs.declared.Class.TheVariants.{White, WordEnd, InWord, Space, Numeral}
use Rattle.classes.specs.Bytes.{is_letter, in_class, lead, body}
use Rattle.numbers.specs.Numbers.{hex_pair, decimal}
use Rattle.numbers.proofs.Numbers.{hex-pair-small, decimal-small}
use Rattle.rooms.specs.Streams.{and_then}
use Rattle.rooms.proofs.Streams.{Each, Each-then, Each-weaken, Each-either}
use Rattle.readings.specs.declared.Reading.{Reading}
use Rattle.readings.specs.declared.Reading.TheVariants.{Plain, Paragraphs, Standard}
pub use Rattle.controls.proofs.Places.{At, at_after, at_before, Small, Stands, stands_after, stands-before}
use Rattle.controls.proofs.Places.{at_back, shown-stands, numbered-stands}
use Rattle.tokenize.specs.Tokenize.{is_mark, is_escape, mark, plain, hex_value, hex_escape, line_break_and, named, bare_length, word_tail, word, other, behind_feed, returned, other_by, escaped, tokens}
use Rattle.std.specs.Prelude.{Option, Some, None}

mark-stands : (b : ℕ) (s : List ℕ) (p : ℕ) → Each (Stands s p) (mark b)
unfolding mark
mark-stands b s p = Each-either (Stands s p) (eqb b 123) _ _ (tt, tt) (Each-either (Stands s p) (eqb b 125) _ _ (tt, tt) tt)

-- the rules below at place p of the source, each with what stands in the slice in front of its bytes
module _ (p : ℕ) where
  plain-stands : (x s : List ℕ) (q : ℕ) → q ≡ p + length x → Each (Stands (x ++ s) p) (plain q s)
  unfolding plain
  plain-stands x s q e = Each-either (Stands (x ++ s) p) (eqb (lead (in_class White) s) (length s)) _ _ tt (at_back x s p q e, tt)

  hex-stands : (b : ℕ) (s : List ℕ) → Each (Stands (92 ∷ b ∷ s) p) (hex_escape p s)
  unfolding hex_escape hex_value
  hex-stands b [] = tt
  hex-stands b (c ∷ []) = tt
  hex-stands b (c ∷ d ∷ s) = go (hex_pair c d) refl
    where
      go : (n : Option ℕ) → hex_pair c d ≡ n → Each (Stands (92 ∷ b ∷ c ∷ d ∷ s) p) (hex_value n (plain (p + 4) s))
      go (Some v) e = ((omega arith, omega (arith, hex-pair-small c d v e)), plain-stands (92 ∷ b ∷ c ∷ d ∷ []) s (p + 4) (omega arith))
      go None e = tt

  named-stands : (w y : List ℕ) → Each (Stands (92 ∷ (w ++ y)) p) (named p w)
  unfolding named
  named-stands w y =
      let k = body (in_class Numeral) w in
      let e : take k w ++ (drop k w ++ y) ≡ w ++ y = rw (← append_assoc, take-append-drop) in
      Each-either (Stands (92 ∷ (w ++ y)) p) (eqb k (length w)) _ _ (shown-stands p w y None (omega arith), tt)
      (rw e at (numbered-stands p (take k w) (drop k w ++ y) (decimal (drop k w)) (decimal-small (drop k w))))

  tail-stands : (x s : List ℕ) (q : ℕ) → (0 < length s → q ≡ p + length x) → Each (Stands (x ++ s) p) (word_tail q s)
  unfolding word_tail
  tail-stands x [] q e = tt
  tail-stands x (b ∷ s) q e =
      let h : q ≡ p + length x = e (omega arith) in
      Each-either (Stands (x ++ (b ∷ s)) p) (ltb (lead (in_class WordEnd) (b ∷ s)) (length (b ∷ s))) _ _ (plain-stands x (b ∷ s) q h) (at_back x (b ∷ s) p q h, tt)

  word_stands : (s : List ℕ) → Each (Stands (92 ∷ s) p) (word p s)
  unfolding word
  word_stands s =
      let k = lead (in_class InWord) s in
      let m = bare_length (take k s) in
      Each-then (Stands (92 ∷ s) p) _ _ (rw take-append-drop at (named-stands (take m s) (drop m s)))
      (rw take-append-drop at (tail-stands (92 ∷ take (k + 1) s) (drop (k + 1) s) (p + 1 + (k + 1)) (simp (length-drop, length-take) (omega arith))))

  other-stands : (s : List ℕ) → Each (Stands (92 ∷ s) p) (other p s)
  unfolding other
  other-stands s = Each-either (Stands (92 ∷ s) p) (ltb (lead (in_class Space) s) (length s)) _ _ tt (at_back [] (92 ∷ s) p p (omega arith), tt)

  -- behind a backslash and another byte
  feed-stands : (b : ℕ) (s : List ℕ) → Each (Stands (92 ∷ b ∷ s) p) (behind_feed (p + 2) s)
  feed-stands b [] = plain-stands (92 ∷ b ∷ []) [] (p + 2) (omega arith)
  feed-stands b (c ∷ s) =
      Each-either (Stands (92 ∷ b ∷ c ∷ s) p) (eqb c 10) _ _ (plain-stands (92 ∷ b ∷ c ∷ []) s (p + 2 + 1) (omega arith))
      (plain-stands (92 ∷ b ∷ []) (c ∷ s) (p + 2) (omega arith))

  returned-stands : (s : List ℕ) → Each (Stands (92 ∷ s) p) (returned p s)
  returned-stands [] = other-stands []
  returned-stands (b ∷ s) = Each-either (Stands (92 ∷ b ∷ s) p) (eqb b 13) _ _ (tt, feed-stands b s) (other-stands (b ∷ s))

  other_by-stands : (rd : Reading) (s : List ℕ) → Each (Stands (92 ∷ s) p) (other_by rd p s)
  unfolding other_by
  other_by-stands Plain s = other-stands s
  other_by-stands Paragraphs s = returned-stands s
  other_by-stands Standard s = returned-stands s

  escaped-stands : (rd : Reading) (s : List ℕ) → Each (Stands (92 ∷ s) p) (escaped rd p s)
  unfolding escaped line_break_and
  escaped-stands rd [] = other-stands []
  escaped-stands rd (b ∷ s) =
      let P = Stands (92 ∷ b ∷ s) p in
      Each-either P (is_letter b) _ _ (word_stands (b ∷ s))
      (Each-either P (is_escape b) _ _ (at_back (92 ∷ []) (b ∷ s) p (p + 1) (omega arith), tt)
      (Each-either P (eqb b 39) _ _ (hex-stands b s)
      (Each-either P (eqb b 10) _ _ (tt, plain-stands (92 ∷ b ∷ []) s (p + 2) (omega arith))
      (Each-either P (eqb b 42) _ _ (tt, tt) (other_by-stands rd (b ∷ s))))))

pub tokens-stand : (rd : Reading) (p : ℕ) (s : List ℕ) → Each (Stands s p) (tokens rd p s)
unfolding tokens
tokens-stand rd p [] = tt
tokens-stand rd p (b ∷ s) = go (is_mark b) (eqb b 92) refl (tokens-stand rd (p + 1) s)
  where
    go : (t u : Bool) → eqb b 92 ≡ u → Each (Stands s (p + 1)) (tokens rd (p + 1) s)
        → Each (Stands (b ∷ s) p) (cond t (and_then (mark b) (tokens rd (p + 1) s)) (cond u (escaped rd p s) (plain p (b ∷ s))))
    go true u e h =
        Each-then (Stands (b ∷ s) p) (mark b) (tokens rd (p + 1) s) (mark-stands b (b ∷ s) p)
        (Each-weaken (Stands s (p + 1)) (Stands (b ∷ s) p) (stands_after (b ∷ []) s p) (tokens rd (p + 1) s) h)
    go false true e h = rw (eqb-true b 92 e) (escaped-stands p rd s)
    go false false e h = plain-stands p [] (b ∷ s) p (omega arith)
