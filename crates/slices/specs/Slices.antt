-- 01, Cutting, and 02, A1 and A2: a letter's slices. Assumes nothing: these are definitions.
use Rattle.std.specs.Prelude.{ℕ, zero, suc, ◌+◌, List, [], ◌∷◌, ◌++◌, Bool, false, cond, not, ◌&&◌, ◌||◌, take, drop, eqb}
use Rattle.readings.specs.declared.Reading.{Reading}
use Rattle.readings.specs.declared.Reading.TheVariants.{Plain, Paragraphs, Standard}
use Rattle.classes.specs.Bytes.{is_special}

-- "`{`, `}`, `\` and line feed start a new slice unless the byte before is `\`."
abbrev pub starts_slice : ℕ → ℕ → Bool
starts_slice before b = is_special b && not (eqb before 92)

-- a byte in front of the first slice
abbrev pub onto : ℕ → List (List ℕ) → List (List ℕ)
onto b [] = (b ∷ []) ∷ []
onto b (s ∷ ss) = (b ∷ s) ∷ ss

-- the rest of the slice of the byte before, and the slices behind it
unfoldable pub split : ℕ → List ℕ → List (List ℕ)
split before [] = [] ∷ []
split before (b ∷ s) =
    let behind = onto b (split b s) in
    cond (starts_slice before b) ([] ∷ behind) behind

-- a source's slices
unfoldable pub slices : List ℕ → List (List ℕ)
slices [] = []
slices (b ∷ s) = onto b (split b s)

-- 02, A2: "a line feed directly after belongs to it": a slice that is a backslash and a carriage return takes in a slice that starts with a line feed
abbrev pub is_return : List ℕ → Bool
is_return [] = false
is_return (a ∷ []) = false
is_return (a ∷ b ∷ []) = eqb a 92 && eqb b 13
is_return (a ∷ b ∷ c ∷ s) = false

abbrev pub starts_with_feed : List ℕ → Bool
starts_with_feed [] = false
starts_with_feed (b ∷ s) = eqb b 10

abbrev pub take_feed : List ℕ → List (List ℕ) → List (List ℕ)
take_feed s [] = s ∷ []
take_feed s (t ∷ ts) = cond (is_return s && starts_with_feed t) ((s ++ t) ∷ ts) (s ∷ t ∷ ts)

unfoldable pub with_feeds : List (List ℕ) → List (List ℕ)
with_feeds [] = []
with_feeds (s ∷ ss) = take_feed s (with_feeds ss)

-- 02, A1: "`{ } \` CR and LF start one unless they stand right behind the backslash that starts it."; and A2: "a line feed directly after" a
-- backslash and a carriage return "belongs to it". What stands before a byte, as far as this asks for it: the backslash that starts the slice;
-- such a backslash and a carriage return; anything else
pub data Behind : Type 0 where
  anything : Behind
  escape : Behind
  return : Behind

abbrev pub is_start : ℕ → Bool
is_start b = is_special b || eqb b 13

abbrev pub starts_standard : Behind → ℕ → Bool
starts_standard anything b = is_start b
starts_standard escape b = false
starts_standard return b = is_start b && not (eqb b 10)

abbrev pub behind : Behind → ℕ → Behind
behind anything b = cond (eqb b 92) escape anything
behind escape b = cond (eqb b 13) return anything
behind return b = cond (eqb b 92) escape anything

-- the rest of the slice that is under way, and the slices behind it
unfoldable pub split_standard : Behind → List ℕ → List (List ℕ)
split_standard before [] = [] ∷ []
split_standard before (b ∷ s) =
    let more = onto b (split_standard (behind before b) s) in
    cond (starts_standard before b) ([] ∷ more) more

unfoldable pub standard_slices : List ℕ → List (List ℕ)
standard_slices [] = []
standard_slices (b ∷ s) = onto b (split_standard (behind anything b) s)

-- a source's slices by the reading: "Plain reading stays equal to the crate."
abbrev pub slices_by : Reading → List ℕ → List (List ℕ)
slices_by Plain s = slices s
slices_by Paragraphs s = with_feeds (slices s)
slices_by Standard s = standard_slices s

-- how many bytes stand before the next slice
unfoldable pub up_to : ℕ → List ℕ → ℕ
up_to before [] = zero
up_to before (b ∷ s) = cond (starts_slice before b) zero (suc (up_to b s))

-- the length of the first slice
unfoldable pub slice_length : List ℕ → ℕ
slice_length [] = zero
slice_length (b ∷ s) = suc (up_to b s)

-- the same in standard reading
unfoldable pub up_to_standard : Behind → List ℕ → ℕ
up_to_standard before [] = zero
up_to_standard before (b ∷ s) = cond (starts_standard before b) zero (suc (up_to_standard (behind before b) s))

unfoldable pub standard_length : List ℕ → ℕ
standard_length [] = zero
standard_length (b ∷ s) = suc (up_to_standard (behind anything b) s)

-- and by the reading: n bytes, and those of the slice behind them that is taken in
abbrev pub feed_length : List ℕ → ℕ → ℕ
feed_length s n = cond (is_return (take n s) && starts_with_feed (drop n s)) (n + slice_length (drop n s)) n

unfoldable pub length_by : Reading → List ℕ → ℕ
length_by Plain s = slice_length s
length_by Paragraphs s = feed_length s (slice_length s)
length_by Standard s = standard_length s
