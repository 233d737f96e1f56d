-- Telling lists: the number that each starts with, computed. Assumes nothing.
use mathlib.Core.Path.{◌≡◌, refl}
use mathlib.Core.List.{[], ◌∷◌}
use Rattle.std.specs.Prelude.{Ok, Err}
use Rattle.answers.specs.declared.Why.TheVariants.{StoredNumber, StoredShort}
use Rattle.sevens.specs.Sevens.{numeral, groups, written, high, sum_from, value_of, is_long, number_of}

-- one byte; what follows is not looked at
none : number_of [] ≡ Err StoredShort
unfolding high sum_from value_of is_long number_of
none = refl

zero_is : number_of (0 ∷ []) ≡ Ok (numeral 0 1)
unfolding high sum_from value_of is_long number_of
zero_is = refl

one-byte-end : number_of (127 ∷ (200 ∷ [])) ≡ Ok (numeral 127 1)
unfolding high sum_from value_of is_long number_of
one-byte-end = refl

-- two bytes; the second may not be zero
two-bytes-start : number_of (128 ∷ (1 ∷ [])) ≡ Ok (numeral 128 2)
unfolding high sum_from value_of is_long number_of
two-bytes-start = refl

not-shortest : number_of (128 ∷ (0 ∷ [])) ≡ Err StoredNumber
unfolding high sum_from value_of is_long number_of
not-shortest = refl

low_first : number_of (172 ∷ (2 ∷ [])) ≡ Ok (numeral 300 2)
unfolding high sum_from value_of is_long number_of
low_first = refl

-- the list ends first
cut_short : number_of (128 ∷ []) ≡ Err StoredShort
unfolding high sum_from value_of is_long number_of
cut_short = refl

four-cut-short : number_of (128 ∷ (128 ∷ (128 ∷ (128 ∷ [])))) ≡ Err StoredShort
unfolding high sum_from value_of is_long number_of
four-cut-short = refl

-- five bytes: the largest number, one more, a last group of zero, a sixth group
largest : number_of (255 ∷ (255 ∷ (255 ∷ (255 ∷ (15 ∷ []))))) ≡ Ok (numeral 4294967295 5)
unfolding high sum_from value_of is_long number_of
largest = refl

too_large : number_of (255 ∷ (255 ∷ (255 ∷ (255 ∷ (16 ∷ []))))) ≡ Err StoredNumber
unfolding high sum_from value_of is_long number_of
too_large = refl

five-not-shortest : number_of (128 ∷ (128 ∷ (128 ∷ (128 ∷ (0 ∷ []))))) ≡ Err StoredNumber
unfolding high sum_from value_of is_long number_of
five-not-shortest = refl

sixth-group : number_of (128 ∷ (128 ∷ (128 ∷ (128 ∷ (128 ∷ []))))) ≡ Err StoredNumber
unfolding high sum_from value_of is_long number_of
sixth-group = refl

-- written
writes-zero : written 0 ≡ 0 ∷ []
unfolding groups
writes-zero = refl

writes-300 : written 300 ≡ 172 ∷ (2 ∷ [])
unfolding groups
writes-300 = refl

writes-largest : written 4294967295 ≡ 255 ∷ (255 ∷ (255 ∷ (255 ∷ (15 ∷ []))))
unfolding groups
writes-largest = refl
