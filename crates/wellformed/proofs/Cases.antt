-- Telling bytes, accepted and refused: the ends of the ranges, and what lies beside them. Assumes nothing.
use mathlib.Core.Path.{◌≡◌, refl}
use mathlib.Core.List.{[], ◌∷◌}
use mathlib.Core.Bool.{true, false}
use Rattle.wellformed.specs.WellFormed.{behind, goes_on, is_utf8}

-- ---- accepted

-- no bytes
empty : is_utf8 [] ≡ true
unfolding goes_on behind
empty = refl

-- U+0061: 61
letter : is_utf8 (97 ∷ []) ≡ true
unfolding goes_on behind
letter = refl

-- U+0080, the first of two bytes: C2 80
two-low : is_utf8 (194 ∷ 128 ∷ []) ≡ true
unfolding goes_on behind
two-low = refl

-- U+07FF, the last of two: DF BF
two-high : is_utf8 (223 ∷ 191 ∷ []) ≡ true
unfolding goes_on behind
two-high = refl

-- U+0800, the first of three: E0 A0 80
three-low : is_utf8 (224 ∷ 160 ∷ 128 ∷ []) ≡ true
unfolding goes_on behind
three-low = refl

-- U+D7FF, the last before the surrogates: ED 9F BF
before-surrogates : is_utf8 (237 ∷ 159 ∷ 191 ∷ []) ≡ true
unfolding goes_on behind
before-surrogates = refl

-- U+E000, the first behind them: EE 80 80
after-surrogates : is_utf8 (238 ∷ 128 ∷ 128 ∷ []) ≡ true
unfolding goes_on behind
after-surrogates = refl

-- U+FFFF, the last of three: EF BF BF
three-high : is_utf8 (239 ∷ 191 ∷ 191 ∷ []) ≡ true
unfolding goes_on behind
three-high = refl

-- U+10000, the first of four: F0 90 80 80
four_low : is_utf8 (240 ∷ 144 ∷ 128 ∷ 128 ∷ []) ≡ true
unfolding goes_on behind
four_low = refl

-- U+10FFFF, the last of four: F4 8F BF BF
four-high : is_utf8 (244 ∷ 143 ∷ 191 ∷ 191 ∷ []) ≡ true
unfolding goes_on behind
four-high = refl

-- ---- refused

-- a byte of UTF8-tail starts nothing: the first, and the last: 80
tail-low : is_utf8 (128 ∷ []) ≡ false
unfolding goes_on behind
tail-low = refl

tail-high : is_utf8 (191 ∷ []) ≡ false
unfolding goes_on behind
tail-high = refl

-- U+0000 and U+007F in two bytes: C0 80
overlong-two-low : is_utf8 (192 ∷ 128 ∷ []) ≡ false
unfolding goes_on behind
overlong-two-low = refl

overlong-two-high : is_utf8 (193 ∷ 191 ∷ []) ≡ false
unfolding goes_on behind
overlong-two-high = refl

-- a character of two bytes, cut: C2
cut-two : is_utf8 (194 ∷ []) ≡ false
unfolding goes_on behind
cut-two = refl

-- a letter in the place of the second byte: C2 41
two-then-letter : is_utf8 (194 ∷ 65 ∷ []) ≡ false
unfolding goes_on behind
two-then-letter = refl

-- U+07FF in three bytes: E0 9F BF
overlong-three : is_utf8 (224 ∷ 159 ∷ 191 ∷ []) ≡ false
unfolding goes_on behind
overlong-three = refl

-- a character of three bytes, cut: E0 A0
cut-three : is_utf8 (224 ∷ 160 ∷ []) ≡ false
unfolding goes_on behind
cut-three = refl

-- U+D800 and U+DFFF, the surrogates' ends: ED A0 80
surrogate-low : is_utf8 (237 ∷ 160 ∷ 128 ∷ []) ≡ false
unfolding goes_on behind
surrogate-low = refl

surrogate-high : is_utf8 (237 ∷ 191 ∷ 191 ∷ []) ≡ false
unfolding goes_on behind
surrogate-high = refl

-- U+FFFF in four bytes: F0 8F BF BF
overlong-four : is_utf8 (240 ∷ 143 ∷ 191 ∷ 191 ∷ []) ≡ false
unfolding goes_on behind
overlong-four = refl

-- U+110000: F4 90 80 80
above-limit : is_utf8 (244 ∷ 144 ∷ 128 ∷ 128 ∷ []) ≡ false
unfolding goes_on behind
above-limit = refl

-- F5 and FF start nothing: F5 80 80 80
first-245 : is_utf8 (245 ∷ 128 ∷ 128 ∷ 128 ∷ []) ≡ false
unfolding goes_on behind
first-245 = refl

first-255 : is_utf8 (255 ∷ []) ≡ false
unfolding goes_on behind
first-255 = refl

-- a character of four bytes, cut: F0 90 80
cut-four : is_utf8 (240 ∷ 144 ∷ 128 ∷ []) ≡ false
unfolding goes_on behind
cut-four = refl

-- U+20AC behind a cut U+10000: F0 90 80 E2 82 AC
good-behind-cut : is_utf8 (240 ∷ 144 ∷ 128 ∷ 226 ∷ 130 ∷ 172 ∷ []) ≡ false
unfolding goes_on behind
good-behind-cut = refl

-- a byte of UTF8-tail behind a whole character: C2 80 80
tail-behind-whole : is_utf8 (194 ∷ 128 ∷ 128 ∷ []) ≡ false
unfolding goes_on behind
tail-behind-whole = refl
