-- 01, Body, and 02, A5: the style of a block, as fourteen words. Here alone they are named one by one: what is said of a style elsewhere is said of
-- this list. A signed number n below zero stands as n + 2^32. Assumes nothing: these are definitions.
use Rattle.std.specs.Prelude.{ℕ, List, [], ◌∷◌, Bool, true, false, ◌&&◌, get_or, drop, eqb}
use Rattle.styles.specs.declared.Style.{Style}

-- how many there are, and how many stand before the indents
abbrev pub style_width : ℕ
style_width = 14

abbrev pub bare_width : ℕ
bare_width = 11

-- "colour, font, size, flags .., alignment .., before, after, line kind .., line value, multiplier, tab"; "left, right and first line before the text
-- place"
abbrev pub style_words : Style → List ℕ
style_words s =
    s.colour ∷ s.font ∷ s.size ∷ s.flags ∷ s.alignment ∷ s.before ∷ s.after ∷ s.kind ∷ s.line ∷ s.multiplier ∷ s.tab
    ∷ s.left ∷ s.right ∷ s.first ∷ []

-- the style that words start with; a word that is not there is 0
unfoldable pub style_at : List ℕ → Style
style_at ws = record {
  colour = get_or ws 0 0;
  font = get_or ws 1 0;
  size = get_or ws 2 0;
  flags = get_or ws 3 0;
  alignment = get_or ws 4 0;
  before = get_or ws 5 0;
  after = get_or ws 6 0;
  kind = get_or ws 7 0;
  line = get_or ws 8 0;
  multiplier = get_or ws 9 0;
  tab = get_or ws 10 0;
  left = get_or ws 11 0;
  right = get_or ws 12 0;
  first = get_or ws 13 0;
}

-- every word zero
unfoldable pub no_style : Style
no_style = style_at []

-- whether words are the same
abbrev pub same_words : List ℕ → List ℕ → Bool
same_words [] [] = true
same_words [] (y ∷ ys) = false
same_words (x ∷ xs) [] = false
same_words (x ∷ xs) (y ∷ ys) = eqb x y && same_words xs ys

-- "if style and paragraph are equal": all words are; "Indents belong to the style that merging and 24 compare."
abbrev pub same_style : Style → Style → Bool
same_style a b = same_words (style_words a) (style_words b)

-- "an indent that is not zero", 26: none is
abbrev pub flush : Style → Bool
flush s = same_words (drop bare_width (style_words s)) (0 ∷ 0 ∷ 0 ∷ [])
