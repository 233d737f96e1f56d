-- The definitions on the examples of RFC 3629, section 7, and at the ends of the ranges. Assumes nothing.
use mathlib.Core.Path.{◌≡◌, refl}
use mathlib.Core.List.{[], ◌∷◌}
use Rattle.utf8.specs.Utf8.{utf8, written}

-- U+2262 and U+0391: E2 89 A2, CE 91
not-identical : written 8802 ≡ 226 ∷ (137 ∷ (162 ∷ []))
unfolding utf8 written
not-identical = refl

alpha : written 913 ≡ 206 ∷ (145 ∷ [])
unfolding utf8 written
alpha = refl

-- U+FEFF and U+233B4: EF BB BF, F0 A3 8E B4
byte-order : written 65279 ≡ 239 ∷ (187 ∷ (191 ∷ []))
unfolding utf8 written
byte-order = refl

stump : written 144308 ≡ 240 ∷ (163 ∷ (142 ∷ (180 ∷ [])))
unfolding utf8 written
stump = refl

-- U+007F, U+0080 and U+10FFFF
one_end : written 127 ≡ 127 ∷ []
unfolding utf8 written
one_end = refl

two-start : written 128 ≡ 194 ∷ (128 ∷ [])
unfolding utf8 written
two-start = refl

last : written 1114111 ≡ 244 ∷ (143 ∷ (191 ∷ (191 ∷ [])))
unfolding utf8 written
last = refl

-- D800, DFFF and 110000 are no scalar values: EF BF BD
first-surrogate : written 55296 ≡ 239 ∷ (191 ∷ (189 ∷ []))
unfolding utf8 written
first-surrogate = refl

last-surrogate : written 57343 ≡ 239 ∷ (191 ∷ (189 ∷ []))
unfolding utf8 written
last-surrogate = refl

too_large : written 1114112 ≡ 239 ∷ (191 ∷ (189 ∷ []))
unfolding utf8 written
too_large = refl
