-- 01, Body: pieces of text, each with its style, become blocks and text; what rooms hold of them. Assumes nothing: these are
-- definitions.
use Rattle.std.specs.Prelude.{ℕ, ◌+◌, ◌-◌, List, [], ◌∷◌, ◌++◌, Bool, true, cond, not, ◌&&◌, length, ltb, eqb}
use Rattle.answers.specs.declared.Why.TheVariants.{BlockRoom, TextRoom}
use Rattle.answers.specs.Answers.{refusal}
use Rattle.rooms.specs.Streams.{Stream, end, stop, ◌▸◌}
use Rattle.styles.specs.declared.Style.{Style}
use Rattle.styles.specs.Styles.{style_width, style_words, same_style}
use Rattle.answers.specs.declared.Refusal.{Refusal}

-- text of a style
pub record Piece : Type 0 where
  pub style : Style
  pub bytes : List ℕ

abbrev pub piece : Style → List ℕ → Piece
piece s bs = record { style = s; bytes = bs }

-- the blocks of pieces, where a last block is open: "Text joins the last block if style and paragraph are equal, else starts a
-- block."
unfoldable pub blocks_from : Style → List ℕ → List Piece → List Piece
blocks_from s bs [] = piece s bs ∷ []
blocks_from s bs (x ∷ xs) =
    cond (same_style s x.style) (blocks_from s (bs ++ x.bytes) xs) (piece s bs ∷ blocks_from x.style x.bytes xs)

unfoldable pub blocks : List Piece → List Piece
blocks [] = []
blocks (x ∷ xs) = blocks_from x.style x.bytes xs

-- the text of pieces
unfoldable pub text_of : List Piece → List ℕ
text_of [] = []
text_of (x ∷ xs) = x.bytes ++ text_of xs

-- "Block, .. signed 32-bit words: .. text place, text length."; 02, A5: "sixteen words"
abbrev pub text_place : ℕ
text_place = style_width

abbrev pub text_length : ℕ
text_length = style_width + 1

abbrev pub block_words : ℕ
block_words = style_width + 2

unfoldable pub block_record : Style → ℕ → ℕ → List ℕ
block_record s place count = style_words s ++ (place ∷ count ∷ [])

-- the records of blocks, whose text stands one after the other from a place on
unfoldable pub records : ℕ → List Piece → List ℕ
records place [] = []
records place (x ∷ xs) = block_record x.style place (length x.bytes) ++ records (place + length x.bytes) xs

-- "a text room counts for at most 2,147,483,647 bytes"
abbrev pub text_capacity : ℕ → ℕ
text_capacity n = cond (ltb n 2147483647) n 2147483647

-- the style of the last block, if there is one
pub data Last : Type 0 where
  none : Last
  last : Style → Last

-- whether text of a style starts a block
abbrev pub starts : Last → Style → Bool
starts none s = true
starts (last l) s = not (same_style l s)

-- "19, 20: no room for a new block; then, for the text": the pieces that find room, where b blocks and t bytes are left
unfoldable pub roomy : ℕ → ℕ → Last → Stream Refusal Piece → Stream Refusal Piece
roomy b t l end = end
roomy b t l (stop r) = stop r
roomy b t l (x ▸ s) =
    let more = roomy (cond (starts l x.style) (b - 1) b) (t - length x.bytes) (last x.style) s in
    cond (starts l x.style && eqb b 0) (stop (refusal BlockRoom))
    (cond (ltb t (length x.bytes)) (stop (refusal TextRoom))
    (x ▸ more))
