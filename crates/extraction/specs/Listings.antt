-- 01, Sample letters: "It prints answer and five counts, then fonts, colours, blocks one a line in decimal with signs, then the text and
-- a line feed (absent on refusal)." Assumes nothing: these are definitions.
use Rattle.std.specs.Prelude.{ℕ, cond, List, [], ◌∷◌, ◌++◌, eqb, take}
use Rattle.fonts.specs.Rows.{font_words}
use Rattle.colours.specs.Colours.{colour_words}
use Rattle.blocks.specs.Pages.{block_words}
use Rattle.lines.specs.Lines.{item, place_item, lines}
use Rattle.parser.specs.declared.Counts.{Counts}

-- "answer and five counts"; 02, A4: "the listing, on refusal only, prints the place after the refusal number"
unfoldable pub head_line : ℕ → ℕ → Counts → List ℕ
head_line number place n =
    item number 32 ++ (place_item number place ++ (item n.tokens 32 ++ (item n.fonts 32 ++ (item n.colours 32 ++ (item n.blocks 32 ++ item n.text 10)))))

-- "the text and a line feed"
unfoldable pub text_line : ℕ → List ℕ → List ℕ
text_line n text = take n text ++ (10 ∷ [])

-- "fonts, colours, blocks one a line"
unfoldable pub room_lines : Counts → List ℕ → List ℕ → List ℕ → List ℕ → List ℕ
room_lines n fonts colours blocks text =
    lines font_words n.fonts fonts ++ (lines colour_words n.colours colours ++ (lines block_words n.blocks blocks ++ text_line n.text text))

-- of an answer by its number, 0 or a refusal's, its place and its counts
unfoldable pub listing : ℕ → ℕ → Counts → List ℕ → List ℕ → List ℕ → List ℕ → List ℕ
listing number place n fonts colours blocks text = head_line number place n ++ cond (eqb number 0) (room_lines n fonts colours blocks text) []
