-- Each word of `WordNumbers` has the number of its name in 01's list. Assumes nothing.
use mathlib.Core.Path.{◌≡◌, refl}
use mathlib.Core.List.{List, [], ◌∷◌}
use Prim.Native.Nat.{ℕ}
use Rattle.classes.specs.Texts.{bytes_of}
use Rattle.names.specs.Names.{word_number, names, place_in, same_bytes}
use Rattle.tokens.specs.WordNumbers as words

abbrev numbers_of : List (List ℕ) → List ℕ
numbers_of [] = []
numbers_of (n ∷ ns) = word_number n ∷ numbers_of ns

pub words-numbered : numbers_of names
    ≡ words.rtf ∷ words.ansi ∷ words.unicode ∷ words.unicode_ignore_count ∷ words.font_table ∷ words.colour_table ∷ words.file_table
    ∷ words.style_sheet ∷ words.font_charset ∷ words.font_number ∷ words.font_size ∷ words.colour_number ∷ words.italic ∷ words.bold
    ∷ words.underline ∷ words.underline_none ∷ words.superscript ∷ words.subscript ∷ words.smallcaps ∷ words.strikethrough ∷ words.par
    ∷ words.pard ∷ words.sectd ∷ words.plain ∷ words.par_style ∷ words.par_def_tab ∷ words.left_aligned ∷ words.right_aligned
    ∷ words.justify ∷ words.center ∷ words.first_line_indent ∷ words.right_indent ∷ words.left_indent ∷ words.space_before ∷ words.space_after
    ∷ words.space_between_line ∷ words.space_line_mul ∷ words.colour_red ∷ words.colour_green ∷ words.colour_blue ∷ words.emdash ∷ words.endash
    ∷ words.bullet ∷ words.left_single_quote ∷ words.right_single_quote ∷ words.left_double_quote ∷ words.right_double_quote ∷ words.tab ∷ words.line ∷ []
unfolding word_number place_in same_bytes
words-numbered = refl

-- any other word is unknown
pub word-unknown : word_number (bytes_of "sect") ≡ words.unknown
unfolding word_number place_in same_bytes
word-unknown = refl
