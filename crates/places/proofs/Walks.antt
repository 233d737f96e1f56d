-- What is true of the places of all tokens is true of those that the steps of the walk hold, and of a late table's word.
--     TokensAt, StepsAt   the places of tokens, and of steps
--     walk_at             of the steps over tokens
-- Assumes nothing.
use mathlib.Core.Path.{◌≡◌, refl, sym, ◌∙◌}
use mathlib.Core.List.{List, [], ◌∷◌}
use mathlib.Core.Bool.{Bool, true, false}
use Prim.Native.Nat.{ℕ, zero, suc}
use native.Mathlib.Omega.{arith}
use lib.ListN.{take}
use Rattle.tokens.specs.Tokens.{Shown, Token, token, slice_of, shown_in, shown_by}
use Rattle.walk.specs.declared.Aim.{Aim}
use Rattle.walk.specs.declared.Aim.TheVariants.{Nothing, Hide, Fonts, Colours}
use Rattle.walk.specs.Walk.{aim_from, aim, extent, table_word, Step, kept, hidden, font_table, colour_table, group, entered, step_by, passed_by, walk_from, walk}
use Rattle.walk.proofs.Walk.{group-word}

module _ (P : ℕ → Type 0) where
  abbrev pub TokensAt : List Token → Type 0
  TokensAt [] = Unit {0}
  TokensAt (t ∷ ts) = P (slice_of t) × TokensAt ts

  -- a late table has its word's place, another all its tokens'
  abbrev pub StepAt : Step → Type 0
  StepAt (kept t) = P (slice_of t)
  StepAt hidden = Unit {0}
  StepAt (font_table true ts) = P (table_word ts)
  StepAt (font_table false ts) = TokensAt ts
  StepAt (colour_table true ts) = P (table_word ts)
  StepAt (colour_table false ts) = TokensAt ts

  abbrev pub StepsAt : List Step → Type 0
  StepsAt [] = Unit {0}
  StepsAt (s ∷ ss) = StepAt s × StepsAt ss

  take_at : (n : ℕ) (ts : List Token) → TokensAt ts → TokensAt (take n ts)
  take_at zero ts h = tt
  take_at (suc n) [] h = tt
  take_at (suc n) (t ∷ ts) h = (h.0, take_at n ts h.1)

  -- where a bracket begins something, there is a token that is no line break
  word-at : (late : Bool) (ts : List Token) → TokensAt ts → (aim_from late (shown_by ts) ≡ Nothing → ⊥) → P (table_word ts)
  unfolding aim_from shown_by table_word
  word-at late [] h n = absurd (n refl)
  word-at late (token p l Shown.line_break ∷ ts) h n = word-at true ts h.1 n
  word-at late (token p l Shown.ignorable ∷ ts) h n = h.0
  word-at late (token p l (Shown.word w num) ∷ ts) h n = h.0
  word-at late (token p l (Shown.text q bs) ∷ ts) h n = h.0
  word-at late (token p l Shown.opening ∷ ts) h n = h.0
  word-at late (token p l Shown.closing ∷ ts) h n = h.0
  word-at late (token p l (Shown.unknown q bs num) ∷ ts) h n = h.0
  word-at late (token p l (Shown.symbol b num) ∷ ts) h n = h.0

  group_at : (ts : List Token) → TokensAt ts → (aim (shown_by ts) ≡ Nothing → ⊥) → P (table_word (group ts))
  group_at ts h n = rw (group-word ts) (word-at false ts h n)

  fonts-nothing : {late : Bool} → Fonts late ≡ Nothing → ⊥
  fonts-nothing e = let z : ◌≡◌ {A = ℕ} 0 1 = cc in omega arith

  colours-nothing : {late : Bool} → Colours late ≡ Nothing → ⊥
  colours-nothing e = let z : ◌≡◌ {A = ℕ} 0 1 = cc in omega arith

  entered_at : (a : Aim) (t : Token) (ts : List Token) → aim (shown_by ts) ≡ a → P (slice_of t) → TokensAt ts → StepAt (entered a t ts)
  entered_at Nothing t ts e p h = p
  entered_at Hide t ts e p h = tt
  entered_at (Fonts true) t ts e p h = group_at ts h (λ n. fonts-nothing (sym e ∙ n))
  entered_at (Fonts false) t ts e p h = take_at (extent 1 (shown_by ts)) ts h
  entered_at (Colours true) t ts e p h = group_at ts h (λ n. colours-nothing (sym e ∙ n))
  entered_at (Colours false) t ts e p h = take_at (extent 1 (shown_by ts)) ts h

  step-at : (x : Shown) (t : Token) (ts : List Token) → P (slice_of t) → TokensAt ts → StepAt (step_by x t ts)
  step-at Shown.opening t ts p h = entered_at (aim (shown_by ts)) t ts refl p h
  step-at Shown.closing t ts p h = p
  step-at Shown.line_break t ts p h = p
  step-at Shown.ignorable t ts p h = p
  step-at (Shown.text q bs) t ts p h = p
  step-at (Shown.word w num) t ts p h = p
  step-at (Shown.unknown q bs num) t ts p h = p
  step-at (Shown.symbol b num) t ts p h = p

  walk-from-at : (w : ℕ) (ts : List Token) → TokensAt ts → StepsAt (walk_from w ts)
  unfolding walk_from
  walk-from-at w [] h = tt
  walk-from-at zero (t ∷ ts) h = (step-at (shown_in t) t ts h.0 h.1, walk-from-at (passed_by (shown_in t) (shown_by ts)) ts h.1)
  walk-from-at (suc w) (t ∷ ts) h = walk-from-at w ts h.1

  pub walk_at : (ts : List Token) → TokensAt ts → StepsAt (walk ts)
  walk_at ts h = walk-from-at 0 ts h
