-- Telling cases, computed: pieces of one style join, of two do not; 19 before 20; a room of nothing; records with their places.
-- Assumes nothing.
use mathlib.Core.Path.{◌≡◌, refl}
use mathlib.Core.List.{List, [], ◌∷◌}
use Prim.Native.Nat.{ℕ}
use lib.ListN.{replicate}
use Rattle.answers.specs.declared.Why.TheVariants.{BlockRoom, TextRoom}
use Rattle.answers.specs.Answers.{refusal}
use Rattle.rooms.specs.Streams.{end, stop, ◌▸◌}
use Rattle.rooms.specs.Rooms.{put}
use Rattle.styles.specs.declared.Style.{Style}
use Rattle.styles.specs.Styles.{style_at}
use Rattle.blocks.specs.Pages.{Piece, piece, blocks_from, blocks, block_record, records, none, roomy}
use Rattle.blocks.specs.Laying.{on, off, blank, style_in, start_of, append_of, add_of, lay_all}

-- a style by its size
abbrev sized : ℕ → Style
sized n = style_at (0 ∷ 0 ∷ n ∷ [])

-- a style by its space after a paragraph
abbrev spaced : ℕ → Style
spaced n = style_at (0 ∷ 0 ∷ 12 ∷ 0 ∷ 0 ∷ 0 ∷ n ∷ [])

abbrev a : List ℕ → Piece
a bs = piece (sized 12) bs

abbrev b : List ℕ → Piece
b bs = piece (sized 24) bs

-- two pieces of one style are one block
one_block : blocks (a (65 ∷ []) ∷ a (66 ∷ 67 ∷ []) ∷ []) ≡ a (65 ∷ 66 ∷ 67 ∷ []) ∷ []
unfolding style_at blocks blocks_from
one_block = refl

-- of two styles, two; the paragraph counts as the size does
two_blocks : blocks (a (65 ∷ []) ∷ b (66 ∷ []) ∷ []) ≡ a (65 ∷ []) ∷ b (66 ∷ []) ∷ []
unfolding style_at blocks blocks_from
two_blocks = refl

two-paragraphs : blocks (piece (spaced 0) (65 ∷ []) ∷ piece (spaced 1) (66 ∷ []) ∷ []) ≡ piece (spaced 0) (65 ∷ []) ∷ piece (spaced 1) (66 ∷ []) ∷ []
unfolding style_at blocks blocks_from
two-paragraphs = refl

-- a style that comes back starts a block
back-again : blocks (a (65 ∷ []) ∷ b (66 ∷ []) ∷ a (67 ∷ []) ∷ []) ≡ a (65 ∷ []) ∷ b (66 ∷ []) ∷ a (67 ∷ []) ∷ []
unfolding style_at blocks blocks_from
back-again = refl

-- text of no bytes starts a block too
empty_block : blocks (a [] ∷ []) ≡ a [] ∷ []
unfolding style_at blocks blocks_from
empty_block = refl

-- records, with place and length last
two_records : records 0 (a (65 ∷ 66 ∷ []) ∷ b (67 ∷ []) ∷ [])
    ≡ 0 ∷ 0 ∷ 12 ∷ 0 ∷ 0 ∷ 0 ∷ 0 ∷ 0 ∷ 0 ∷ 0 ∷ 0 ∷ 0 ∷ 0 ∷ 0 ∷ 0 ∷ 2 ∷ 0 ∷ 0 ∷ 24 ∷ 0 ∷ 0 ∷ 0 ∷ 0 ∷ 0 ∷ 0 ∷ 0 ∷ 0 ∷ 0 ∷ 0 ∷ 0 ∷ 2 ∷ 1 ∷ []
unfolding style_at records block_record
two_records = refl

-- room for one block and two bytes: the second style is refused by 19, though its text would be by 20
block-before-text : roomy 1 2 none (a (65 ∷ []) ▸ b (66 ∷ 67 ∷ []) ▸ end) ≡ a (65 ∷ []) ▸ stop (refusal BlockRoom)
unfolding style_at roomy
block-before-text = refl

no-text-room : roomy 1 0 none (a (65 ∷ []) ▸ end) ≡ stop (refusal TextRoom)
unfolding style_at roomy
no-text-room = refl

-- the last byte that fits, and one more
last_byte_lem : roomy 1 2 none (a (65 ∷ []) ▸ a (66 ∷ []) ▸ end) ≡ a (65 ∷ []) ▸ a (66 ∷ []) ▸ end
unfolding style_at roomy
last_byte_lem = refl

byte-too-many : roomy 1 2 none (a (65 ∷ []) ▸ a (66 ∷ 67 ∷ []) ▸ end) ≡ a (65 ∷ []) ▸ stop (refusal TextRoom)
unfolding style_at roomy
byte-too-many = refl

-- laid into rooms of two records and three bytes: the second block's length has grown with its text
laid : lay_all (on blank (replicate 32 0) (0 ∷ 0 ∷ 0 ∷ [])) (a (65 ∷ []) ▸ b (66 ∷ []) ▸ b (67 ∷ []) ▸ end)
    ≡ on (record { blocks = 2; text = 3; from = 1 })
    (0 ∷ 0 ∷ 12 ∷ 0 ∷ 0 ∷ 0 ∷ 0 ∷ 0 ∷ 0 ∷ 0 ∷ 0 ∷ 0 ∷ 0 ∷ 0 ∷ 0 ∷ 1 ∷ 0 ∷ 0 ∷ 24 ∷ 0 ∷ 0 ∷ 0 ∷ 0 ∷ 0 ∷ 0 ∷ 0 ∷ 0 ∷ 0 ∷ 0 ∷ 0 ∷ 1 ∷ 2 ∷ [])
    (65 ∷ 66 ∷ 67 ∷ [])
unfolding lay_all add_of start_of append_of put block_record style_in style_at
laid = refl

-- a room of a record and a half holds one
half-record : lay_all (on blank (replicate 31 0) (0 ∷ 0 ∷ 0 ∷ [])) (a (65 ∷ []) ▸ b (66 ∷ []) ▸ end) ≡ off (refusal BlockRoom)
unfolding lay_all add_of start_of append_of put block_record style_in style_at
half-record = refl
