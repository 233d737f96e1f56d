-- Bytes: 01's classes of bytes, and those of 02, and runs of a class at the two ends of a list. Assumes nothing: these are definitions.
use Rattle.std.specs.Prelude.{ℕ, zero, suc, List, [], ◌∷◌, Bool, true, false, cond, not, ◌&&◌, ◌||◌, leb, ltb, eqb}
use Rattle.classes.specs.declared.Class.{Class}
use Rattle.classes.specs.declared.Class.TheVariants.{White, WordEnd, InWord, Space, Numeral, Semicolon, Alpha, Digit}

-- "White space is bytes 9 to 13 and 32."
abbrev pub is_white : ℕ → Bool
is_white b = (leb 9 b && leb b 13) || eqb b 32

-- the white space that ends a word: all but byte 11 (docs/DIFFERENCES.md, 1)
abbrev pub ends_word : ℕ → Bool
ends_word b = is_white b && not (eqb b 11)

-- "Digits and minus signs"
abbrev pub is_numeral : ℕ → Bool
is_numeral b = (leb 48 b && leb b 57) || eqb b 45

-- "`{`, `}`, `\` and line feed"
abbrev pub is_special : ℕ → Bool
is_special b = eqb b 92 || (eqb b 123 || (eqb b 125 || eqb b 10))

-- "a to z"
abbrev pub is_letter : ℕ → Bool
is_letter b = leb 97 b && leb b 122

-- 02, A1: "letters (a to z, A to Z)"
abbrev pub is_alpha : ℕ → Bool
is_alpha b = is_letter b || (leb 65 b && leb b 90)

-- the classes by name
abbrev pub in_class : Class → ℕ → Bool
in_class White b = is_white b
in_class WordEnd b = ends_word b
in_class InWord b = not (ends_word b)
in_class Space b = eqb b 32
in_class Numeral b = is_numeral b
in_class Semicolon b = eqb b 59
in_class Alpha b = is_alpha b
in_class Digit b = leb 48 b && leb b 57

-- how many bytes that pass a test stand in front
unfoldable pub lead : (ℕ → Bool) → List ℕ → ℕ
lead f [] = zero
lead f (b ∷ s) = cond (f b) (suc (lead f s)) zero

-- the length of `b ∷ s`, less the passing bytes at its end, where n is that of s and t says whether b passes
abbrev pub grown : Bool → ℕ → ℕ
grown t (suc n) = suc (suc n)
grown true zero = zero
grown false zero = suc zero

-- the length without the bytes that pass a test and stand at the end
unfoldable pub body : (ℕ → Bool) → List ℕ → ℕ
body f [] = zero
body f (b ∷ s) = grown (f b) (body f s)

-- whether some byte passes a test
unfoldable pub any : (ℕ → Bool) → List ℕ → Bool
any f [] = false
any f (b ∷ s) = f b || any f s

-- "a byte above 127"
abbrev pub is_high : ℕ → Bool
is_high b = ltb 127 b
