-- 01, Body: the fields of a state. Each has a name and a place, and a state is a row of words, one at each place. A setting gives
-- one field a value; a block's style is read off a row. A signed number n below zero stands as n + 2^32. Assumes nothing: these
-- are definitions.
use Rattle.std.specs.Prelude.{ℕ, zero, suc, ◌+◌, List, [], ◌∷◌, cond, get_or, set, eqb}
use Rattle.styles.specs.declared.Style.{Style}
use Rattle.settings.specs.declared.Painter.{Painter}
use Rattle.settings.specs.declared.Paragraph.{Paragraph}
use Rattle.settings.specs.declared.State.{State}

-- the painter's fields; a flag is 1 where it is on
abbrev pub colour : ℕ
colour = 0

abbrev pub font : ℕ
font = 1

abbrev pub size : ℕ
size = 2

abbrev pub bold : ℕ
bold = 3

abbrev pub italic : ℕ
italic = 4

abbrev pub underline : ℕ
underline = 5

abbrev pub superscript : ℕ
superscript = 6

abbrev pub subscript : ℕ
subscript = 7

abbrev pub smallcaps : ℕ
smallcaps = 8

abbrev pub strike : ℕ
strike = 9

-- the paragraph's fields; "line kind (0 automatic, 1 value), line value"
abbrev pub alignment : ℕ
alignment = 10

abbrev pub before : ℕ
before = 11

abbrev pub after : ℕ
after = 12

abbrev pub kind : ℕ
kind = 13

abbrev pub line : ℕ
line = 14

abbrev pub multiplier : ℕ
multiplier = 15

abbrev pub tab : ℕ
tab = 16

-- 02, A5: the indents, "left, right and first line"
abbrev pub left : ℕ
left = 17

abbrev pub right : ℕ
right = 18

abbrev pub first : ℕ
first = 19

-- how many units are skipped behind a `u` word
abbrev pub skip : ℕ
skip = 20

-- how many fields there are: the painter's, the paragraph's, all of them
abbrev pub painter_width : ℕ
painter_width = 10

abbrev pub paragraph_width : ℕ
paragraph_width = 10

abbrev pub width : ℕ
width = 21

-- "A fresh state has size 12, everything else zero or off, and skip count 1."
abbrev pub fresh_painter : Painter
fresh_painter = record {
  colour = 0;
  font = 0;
  size = 12;
  bold = 0;
  italic = 0;
  underline = 0;
  superscript = 0;
  subscript = 0;
  smallcaps = 0;
  strike = 0;
}

abbrev pub fresh_paragraph : Paragraph
fresh_paragraph = record { alignment = 0; before = 0; after = 0; kind = 0; line = 0; multiplier = 0; tab = 0; left = 0; right = 0; first = 0 }

abbrev pub fresh_state : State
fresh_state = record { painter = fresh_painter; paragraph = fresh_paragraph; skip = 1 }

-- the words of a state, each at its field's place
abbrev pub row_of : State → List ℕ
row_of s =
    s.painter.colour ∷ s.painter.font ∷ s.painter.size
    ∷ s.painter.bold ∷ s.painter.italic ∷ s.painter.underline ∷ s.painter.superscript ∷ s.painter.subscript ∷ s.painter.smallcaps ∷ s.painter.strike
    ∷ s.paragraph.alignment ∷ s.paragraph.before ∷ s.paragraph.after ∷ s.paragraph.kind ∷ s.paragraph.line ∷ s.paragraph.multiplier ∷ s.paragraph.tab
    ∷ s.paragraph.left ∷ s.paragraph.right ∷ s.paragraph.first
    ∷ s.skip ∷ []

abbrev pub fresh_row : List ℕ
fresh_row = row_of fresh_state

-- a field and the value that it gets
infix 80 ◌≔◌
pub data Setting : Type 0 where
  ◌≔◌ : ℕ → ℕ → Setting

-- n fields from a place on, each to its fresh value
unfoldable pub resets : ℕ → ℕ → List Setting
resets f zero = []
resets f (suc n) = f ≔ get_or fresh_row f 0 ∷ resets (suc f) n

-- one setting done in a row, and one after the other
abbrev pub put_word : Setting → List ℕ → List ℕ
put_word (f ≔ v) r = set r f v

-- "flags (1 bold, 2 italic, 4 underline, 8 super, 16 sub, 32 scaps, 64 strike)"
abbrev pub bit : ℕ → ℕ → ℕ
bit v n = cond (eqb v 1) n 0

unfoldable pub flags_of : List ℕ → ℕ
flags_of r =
    bit (get_or r bold 0) 1 + bit (get_or r italic 0) 2 + bit (get_or r underline 0) 4 + bit (get_or r superscript 0) 8 + bit (get_or r subscript 0) 16
    + bit (get_or r smallcaps 0) 32 + bit (get_or r strike 0) 64

-- what a block says of the state that its text was written in
unfoldable pub style_of : List ℕ → Style
style_of r = record {
  colour = get_or r colour 0;
  font = get_or r font 0;
  size = get_or r size 0;
  flags = flags_of r;
  alignment = get_or r alignment 0;
  before = get_or r before 0;
  after = get_or r after 0;
  kind = get_or r kind 0;
  line = get_or r line 0;
  multiplier = get_or r multiplier 0;
  tab = get_or r tab 0;
  left = get_or r left 0;
  right = get_or r right 0;
  first = get_or r first 0;
}
