-- The telling token lists of specs/Fonts, computed through the definitions, and the limit of 256. Assumes nothing.
use mathlib.Core.Path.{◌≡◌, refl}
use mathlib.Core.List.{List, [], ◌∷◌, ◌++◌}
use Prim.Native.Nat.{ℕ, zero, suc, ◌*◌}
use lib.ListN.{length}
use Rattle.answers.specs.declared.Why.TheVariants.{FontRoom}
use Rattle.answers.specs.Answers.{refusal, Found, found, refused}
use Rattle.classes.specs.Bytes.{body}
use Rattle.classes.specs.Texts.{bytes_of}
use Rattle.tokens.specs.Tokens.{Shown, Token, token}
use Rattle.fonts.specs.Rows.{Font, font_record, table_words, has_key, inserted, stored}
use Rattle.fonts.specs.Fonts.{named, font_word, font_token, fonts_from, fonts}
use Rattle.samples.specs.Fonts.{Told, f, bare, font, told, arial_words}

-- what each list gives, and what it is said to give
given : List Told → List (Found (List Font))
given [] = []
given (t ∷ ts) = fonts t.limit t.tokens ∷ given ts

said : List Told → List (Found (List Font))
said [] = []
said (t ∷ ts) = t.gives ∷ said ts

token-lists : given told ≡ said told
unfolding given said told fonts fonts_from font_token font_word stored inserted has_key named body f bare font
token-lists = refl

arial-words : table_words (font 0 0 [] ∷ font 1 14 (bytes_of "Arial") ∷ []) ≡ arial_words
unfolding table_words font_record font arial_words
arial-words = refl

-- `\f1` to `\fn`, which store 0 to n - 1; and a bracket, which stores n. Slices of five bytes
up_to : ℕ → List Token
up_to zero = []
up_to (suc n) = up_to n ++ (token (5 * n) 5 (f (suc n)) ∷ [])

abbrev counted : Found (List Font) → ℕ
counted (found fs) = length fs
counted (refused r) = 0

all-256 : counted (fonts 256 (up_to 256)) ≡ 256
unfolding fonts fonts_from font_token font_word stored inserted has_key f up_to
all-256 = refl

beyond-256 : fonts 256 (up_to 256 ++ (token 1280 1 Shown.closing ∷ [])) ≡ refused (refusal FontRoom)
unfolding fonts fonts_from font_token font_word stored inserted has_key f up_to
beyond-256 = refl
