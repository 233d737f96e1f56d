-- Telling token lists, as theorems on the definitions: each is computed. A list stands as RTF would write it, each
-- token with the place of its slice; no rule looks at the slice's length, which is 0 here. Assumes nothing.
use mathlib.Core.Path.{◌≡◌, refl}
use mathlib.Core.List.{List, [], ◌∷◌}
use Prim.Native.Nat.{ℕ}
use lib.ListN.{length, replicate}
use Rattle.answers.specs.declared.Why.TheVariants.{NumberField, ColourRoom}
use Rattle.answers.specs.Answers.{refusal, refusal_at, Found, found, refused}
use Rattle.tokens.specs.Tokens.{Shown, Token, token}
use Rattle.colours.specs.Colours.{colours, colours_from, colour_token, colour_word_of}
use Rattle.std.specs.Prelude.{Some, None}

red : ℕ → ℕ → Token
red p v = token p 0 (Shown.word 37 (Some v))

green : ℕ → ℕ → Token
green p v = token p 0 (Shown.word 38 (Some v))

blue : ℕ → ℕ → Token
blue p v = token p 0 (Shown.word 39 (Some v))

bare-word : ℕ → ℕ → Token
bare-word p w = token p 0 (Shown.word w None)

semicolon : ℕ → Token
semicolon p = token p 0 (Shown.text p (59 ∷ []))

-- `\red1\green2\blue3;\blue`: a blue stores; red and green carry over, and no number means 0
carried : colours 256 (red 0 1 ∷ green 5 2 ∷ blue 12 3 ∷ semicolon 18 ∷ bare-word 19 39 ∷ []) ≡ found (66051 ∷ 66048 ∷ [])
unfolding colours colours_from colour_token colour_word_of red green blue bare-word semicolon
carried = refl

-- `\colortbl;\red7\green7}`: no blue, no colour; other words say nothing
bare : colours 256 (bare-word 0 5 ∷ semicolon 9 ∷ red 10 7 ∷ green 15 7 ∷ token 22 0 Shown.closing ∷ []) ≡ found []
unfolding colours colours_from colour_token colour_word_of red green bare-word semicolon
bare = refl

-- `\red255\green255\blue255` fits, `\red256` and `\blue-1` do not: 12, at the place of the word that does not
largest : colours 256 (red 0 255 ∷ green 7 255 ∷ blue 16 255 ∷ []) ≡ found (16777215 ∷ [])
unfolding colours colours_from colour_token colour_word_of red green blue
largest = refl

red-unfit : colours 256 (blue 3 1 ∷ red 9 256 ∷ blue 16 1 ∷ []) ≡ refused (refusal_at NumberField 9)
unfolding colours colours_from colour_token colour_word_of red blue
red-unfit = refl

green-unfit : colours 256 (green 3 256 ∷ []) ≡ refused (refusal_at NumberField 3)
unfolding colours colours_from colour_token colour_word_of green
green-unfit = refl

blue-unfit : colours 256 (blue 3 4294967295 ∷ []) ≡ refused (refusal_at NumberField 3)
unfolding colours colours_from colour_token colour_word_of blue
blue-unfit = refl

-- a room of one colour: the second is 18, which has no place
full : colours 1 (blue 0 1 ∷ blue 6 2 ∷ []) ≡ refused (refusal ColourRoom)
unfolding colours colours_from colour_token colour_word_of blue
full = refl

-- a colour too many whose blue does not fit: 12 before 18; the first refusal stays
unfit-first : colours 0 (blue 3 256 ∷ []) ≡ refused (refusal_at NumberField 3)
unfolding colours colours_from colour_token colour_word_of blue
unfit-first = refl

first-stays : colours 0 (blue 0 1 ∷ red 6 256 ∷ []) ≡ refused (refusal ColourRoom)
unfolding colours colours_from colour_token colour_word_of red blue
first-stays = refl

-- 256 colours, and one more
abbrev counted : Found (List ℕ) → ℕ
counted (found cs) = length cs
counted (refused r) = 0

all-256 : counted (colours 256 (replicate 256 (blue 0 1))) ≡ 256
unfolding colours colours_from colour_token colour_word_of blue
all-256 = refl

beyond-256 : colours 256 (replicate 257 (blue 0 1)) ≡ refused (refusal ColourRoom)
unfolding colours colours_from colour_token colour_word_of blue
beyond-256 = refl
