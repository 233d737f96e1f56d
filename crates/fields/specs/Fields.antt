-- 01, Stored form: the rules of a block's fields, for reading and for writing. Assumes nothing: these are definitions.
use Rattle.std.specs.Prelude.{ℕ, suc, ◌+◌, ◌-◌, ◌*◌, ◌/◌, ◌%◌, List, [], ◌∷◌, Bool, cond, ◌&&◌, ◌||◌, take, leb, ltb, eqb, Option, Some, None}
use Rattle.styles.specs.declared.Style.{Style}
use Rattle.styles.specs.Styles.{bare_width, style_words, style_at}
use Rattle.blocks.specs.Pages.{Last, none, last}

-- "n≥0 as 2n, n<0 as -2n-1", where n below zero stands as n + 2^32
unfoldable pub folded : ℕ → ℕ
folded w = cond (ltb w 2147483648) (2 * w) (2 * (4294967296 - w) - 1)

-- and back
unfoldable pub unfolded : ℕ → ℕ
unfolded n = cond (eqb (n % 2) 0) (n / 2) (4294967296 - (n + 1) / 2)

-- "Ranges: first three to 65,535, flags to 127, alignment to 3, kind to 1, line value to 2,147,483,647 and 0 if automatic."
unfoldable pub in_range : Style → Bool
in_range s =
    leb s.colour 65535 && (leb s.font 65535 && (leb s.size 65535 && (leb s.flags 127 && (leb s.alignment 3
    && (leb s.kind 1 && (leb s.line 2147483647 && (eqb s.kind 1 || eqb s.line 0)))))))

-- "Before, after, multiplier and tab are folded"; 02, A6, "indents folded as the other signed words": by the word's place in a style
abbrev pub is_signed : ℕ → Bool
is_signed i = eqb i 5 || (eqb i 6 || leb 9 i)

-- a word of a style, by its place, as a number, and back
abbrev pub number_at : ℕ → ℕ → ℕ
number_at i w = cond (is_signed i) (folded w) w

abbrev pub word_at : ℕ → ℕ → ℕ
word_at i n = cond (is_signed i) (unfolded n) n

-- the same of items one after the other, the first at place i
unfoldable pub by_place : (ℕ → ℕ → ℕ) → ℕ → List ℕ → List ℕ
by_place f i [] = []
by_place f i (x ∷ xs) = f i x ∷ by_place f (suc i) xs

-- "the eleven style words" of a style as numbers, and the style that they say: "The old stored form cannot hold" indents (02, A5), and says 0
abbrev pub style_numbers : Style → List ℕ
style_numbers s = by_place number_at 0 (take bare_width (style_words s))

abbrev pub style_from : List ℕ → Style
style_from ns = style_at (by_place word_at 0 (take bare_width ns))

-- "per block the eleven style words, text length, text": how many numbers that is
abbrev pub block_numbers : ℕ
block_numbers = bare_width + 1

-- the block before, if there is one
abbrev pub last_of : Option Style → Last
last_of (Some s) = last s
last_of None = none
