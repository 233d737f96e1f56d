-- What a slice shows stands in it, so that a token's place and length can be read back from the source.
--     tokens-stand   what the tokens of a slice show stands in the slice; numbers fit their words
-- Assumes nothing.
use mathlib.Core.Path.{◌≡◌, refl}
use mathlib.Core.List.{List, [], ◌∷◌, ◌++◌}
use mathlib.Core.Bool.{Bool, true, false, cond, ◌||◌}
use Prim.Native.Nat.{ℕ, ◌+◌, ◌<◌}
use native.Mathlib.Omega.{arith}
use borrow.Author.Tests.{eqb-true}
use lib.ListN.{length, take, drop, length-take, length-drop, take-append-drop}
use lib.Dec.{eqb}
use Rattle.classes.specs.declared.Class.TheVariants.{Alpha}
use Rattle.classes.specs.Bytes.{is_alpha, in_class, lead}
use Rattle.numbers.specs.Numbers.{hex_pair, decimal}
use Rattle.numbers.proofs.Numbers.{hex-pair-small, decimal-small}
use Rattle.answers.specs.declared.Why.{Why}
use Rattle.rooms.specs.Streams.{Stream}
use Rattle.rooms.proofs.Streams.{Each, Each-then, Each-either}
use Rattle.tokens.specs.Tokens.{Shown}
use Rattle.controls.proofs.Places.{Stands, at_back, shown-stands, numbered-stands}
use Rattle.standard.specs.Standard.{leads, tail, is_escape, number_length, named, word, hex_value, hex_escape, break_length, line_break_and, escaped, tokens}
use Rattle.std.specs.Prelude.{Option, Some, None}

-- the rules below at place p of the source, each with what stands in the slice in front of its bytes
module _ (p : ℕ) where
  tail-stands : (x s : List ℕ) (q : ℕ) → (0 < length s → q ≡ p + length x) → Each (Stands (x ++ s) p) (tail q s)
  unfolding tail
  tail-stands x [] q e = tt
  tail-stands x (b ∷ s) q e = (at_back x (b ∷ s) p q (e (omega arith)), tt)

  named-stands : (x y s : List ℕ) → Each (Stands (92 ∷ (x ++ y)) p) (named p x s)
  unfolding named
  named-stands x y [] = (shown-stands p x y None (omega arith), tt)
  named-stands x y (b ∷ s) = numbered-stands p x y (decimal (b ∷ s)) (decimal-small (b ∷ s))

  word_stands : (s : List ℕ) → Each (Stands (92 ∷ s) p) (word p s)
  unfolding word
  word_stands s =
      let k = lead (in_class Alpha) s in
      let n = number_length (drop k s) in
      let e = k + n + leads 32 (drop (k + n) s) in
      Each-then (Stands (92 ∷ s) p) _ _ (rw take-append-drop at (named-stands (take k s) (drop k s) (take n (drop k s))))
      (rw take-append-drop at (tail-stands (92 ∷ take e s) (drop e s) (p + 1 + e) (simp (length-drop, length-take) (omega arith))))

  hex-stands : (b : ℕ) (s : List ℕ) → Each (Stands (92 ∷ b ∷ s) p) (hex_escape p s)
  unfolding hex_escape hex_value
  hex-stands b [] = tt
  hex-stands b (c ∷ []) = tt
  hex-stands b (c ∷ d ∷ s) = go (hex_pair c d) refl
    where
      go : (n : Option ℕ) → hex_pair c d ≡ n → Each (Stands (92 ∷ b ∷ c ∷ d ∷ s) p) (hex_value n (tail (p + 4) s))
      go (Some v) e = (hex-pair-small c d v e, tail-stands (92 ∷ b ∷ c ∷ d ∷ []) s (p + 4) (λ h. omega arith))
      go None e = tt

  -- behind a backslash and another byte
  behind-stands : (b : ℕ) (s : List ℕ) → Each (Stands (92 ∷ b ∷ s) p) (tail (p + 2) s)
  behind-stands b s = tail-stands (92 ∷ b ∷ []) s (p + 2) (λ h. omega arith)

  break-stands : (b n : ℕ) (s : List ℕ) → Each (Stands (92 ∷ b ∷ s) p) (line_break_and p n s)
  unfolding line_break_and
  break-stands b n s =
      (tt, rw take-append-drop at (tail-stands (92 ∷ b ∷ take n s) (drop n s) (p + 2 + n) (simp (length-drop, length-take) (omega arith))))

  escaped-stands : (s : List ℕ) → Each (Stands (92 ∷ s) p) (escaped p s)
  unfolding escaped
  escaped-stands [] = (omega arith, tt)
  escaped-stands (b ∷ s) =
      let P = Stands (92 ∷ b ∷ s) p in
      Each-either P (is_alpha b) _ _ (word_stands (b ∷ s))
      (Each-either P (is_escape b) _ _ (at_back (92 ∷ []) (b ∷ s) p (p + 1) (omega arith), tt)
      (Each-either P (eqb b 39) _ _ (hex-stands b s)
      (Each-either P (eqb b 10 || eqb b 13) _ _ (break-stands b (break_length b s) s)
      (Each-either P (eqb b 42) _ _ (tt, behind-stands b s) (omega arith, behind-stands b s)))))

pub tokens-stand : (p : ℕ) (s : List ℕ) → Each (Stands s p) (tokens p s)
unfolding tokens
tokens-stand p [] = tt
tokens-stand p (b ∷ s) =
    let P = Stands (b ∷ s) p in
    let t = tail-stands p (b ∷ []) s (p + 1) (λ h. omega arith) in
    go (eqb b 92) refl _
    (Each-either P (eqb b 123) _ _ (tt, t) (Each-either P (eqb b 125) _ _ (tt, t)
    (Each-either P (eqb b 10 || eqb b 13) _ _ t (tail-stands p [] (b ∷ s) p (λ h. omega arith)))))
  where
    go : (u : Bool) → eqb b 92 ≡ u → (x : Stream Why Shown) → Each (Stands (b ∷ s) p) x → Each (Stands (b ∷ s) p) (cond u (escaped p s) x)
    go true e x h = rw (eqb-true b 92 e) (escaped-stands p s)
    go false e x h = h
