-- What the round trips speak of. Assumes nothing: these are definitions.
use Rattle.std.specs.Prelude.{ℕ, ◌/◌, ◌≤◌, ◌<◌, ◌≡◌, List, [], ◌∷◌, get_or, length}
use Rattle.rooms.specs.Streams.{Stream, end, ◌▸◌}
use Rattle.rooms.specs.Rooms.{filled}
use Rattle.styles.specs.Styles.{style_words}
use Rattle.blocks.specs.Pages.{Piece, block_words}
use Rattle.stored.specs.declared.Counts.{Counts}
use Rattle.stored.specs.Stored.{stored_answer, stored_blocks, stored_text}
use Rattle.answers.specs.declared.Refusal.{Refusal}
use Rattle.std.specs.Prelude.{Ok}

-- every item is a byte; every item has 32 bits
abbrev pub Bytes : List ℕ → Type 0
Bytes s = (i : ℕ) → get_or s i 0 < 256

abbrev pub Words : List ℕ → Type 0
Words s = (i : ℕ) → get_or s i 0 < 4294967296

-- blocks whose styles are words, as every room's are, and whose texts have a length that is one
abbrev pub Small : List Piece → Type 0
Small [] = 0 < 1
Small (x ∷ xs) = Words (style_words x.style) × (length x.bytes < 4294967296) × Small xs

-- blocks as a stream that ends
unfoldable pub all : List Piece → Stream Refusal Piece
all [] = end
all (x ∷ xs) = x ▸ all xs

-- room for all: b words and t bytes; "a text room counts for at most 2,147,483,647 bytes"
pub record Room (ws tx : List ℕ) (b t : ℕ) : Type 0 where
  pub blocks : length ws ≤ b
  pub text : length tx ≤ t
  pub counts : length tx ≤ 2147483647

-- how many blocks words are, and how many bytes a text has
abbrev pub counts_in : List ℕ → List ℕ → Counts
counts_in ws tx = record { blocks = length ws / block_words; text = length tx }

-- the list s, read into rooms of b words and t bytes: the answer is the counts c, and the rooms hold the blocks' words ws and the
-- text tx, and zeros behind them
pub record ReadsAs (s : List ℕ) (c : Counts) (ws tx : List ℕ) (b t : ℕ) : Type 0 where
  pub answer : stored_answer b t s ≡ Ok c
  pub blocks : stored_blocks b t s ≡ filled b ws
  pub text : stored_text b t s ≡ filled t tx
