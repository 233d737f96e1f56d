-- 01, Stored form: a stored list, and the one answer and the one content of two lent rooms.
-- Assumes nothing: these are definitions.
use Rattle.std.specs.Prelude.{ℕ, zero, suc, ◌+◌, ◌≡◌, List, [], ◌∷◌, length, take, drop, replicate}
use Rattle.answers.specs.declared.Why.{Why}
use Rattle.answers.specs.declared.Why.TheVariants.{StoredLong}
use Rattle.answers.specs.Answers.{refusal}
use Rattle.rooms.specs.Streams.{Stream, end, stop, ◌▸◌, items, answer}
use Rattle.rooms.specs.Rooms.{capacity, filled}
use Rattle.sevens.specs.declared.Numeral.{Numeral}
use Rattle.sevens.specs.Sevens.{number_of}
use Rattle.blocks.specs.Pages.{Piece, piece, Last, none, last, blocks, text_of, records, block_words, text_capacity, roomy}
use Rattle.stored.specs.declared.entry.Entry.{Entry}
use Rattle.stored.specs.declared.Counts.{Counts}
use Rattle.stored.specs.Entries.{entry}
use Rattle.answers.specs.declared.Refusal.{Refusal}
use Rattle.std.specs.Prelude.{Result, Ok, Err}

-- the end of a list: 23 "has bytes left over"
abbrev pub over : List ℕ → Stream Refusal Piece
over [] = end
over (b ∷ s) = stop (refusal StoredLong)

-- a block, and what follows it
abbrev pub entered : Result Entry Refusal → List ℕ → (Last → List ℕ → Stream Refusal Piece) → Stream Refusal Piece
entered (Ok e) s more = piece e.style (take e.text (drop e.numbers s)) ▸ more (last e.style) (drop (e.numbers + e.text) s)
entered (Err r) s more = stop r

-- k blocks, where a block l came before
unfoldable pub blocks_from : ℕ → Last → List ℕ → Stream Refusal Piece
blocks_from zero l s = over s
blocks_from (suc k) l s = entered (entry l s) s (blocks_from k)

-- "The list: block count; per block .."
abbrev pub counted : Result Numeral Why → List ℕ → Stream Refusal Piece
counted (Ok x) s = blocks_from x.value none (drop x.length s)
counted (Err why) s = stop (refusal why)

unfoldable pub stored : List ℕ → Stream Refusal Piece
stored s = counted (number_of s) s

-- "19, 20": the blocks that find room in b words and t bytes
unfoldable pub placed : ℕ → ℕ → List ℕ → Stream Refusal Piece
placed b t s = roomy (capacity block_words b) (text_capacity t) none (stored s)

abbrev pub counts_of : List Piece → Counts
counts_of ps = record { blocks = length (blocks ps); text = length (text_of ps) }

abbrev pub answered : List Piece → Result ℕ Refusal → Result Counts Refusal
answered ps (Ok n) = Ok (counts_of ps)
answered ps (Err r) = Err r

-- the one answer
unfoldable pub stored_answer : ℕ → ℕ → List ℕ → Result Counts Refusal
stored_answer b t s = let q = placed b t s in answered (items q) (answer 0 q)

abbrev pub holding : ℕ → List ℕ → Result ℕ Refusal → List ℕ
holding total ws (Ok n) = filled total ws
holding total ws (Err r) = replicate total 0

-- the one content of each room
unfoldable pub stored_blocks : ℕ → ℕ → List ℕ → List ℕ
stored_blocks b t s = let q = placed b t s in holding b (records 0 (blocks (items q))) (answer 0 q)

unfoldable pub stored_text : ℕ → ℕ → List ℕ → List ℕ
stored_text b t s = let q = placed b t s in holding t (text_of (items q)) (answer 0 q)

-- "Any refusal returns zero counts"
abbrev pub answer_counts : Result Counts Refusal → Counts
answer_counts (Ok n) = n
answer_counts (Err r) = record { blocks = 0; text = 0 }

-- What `read_list` promises of a list and two rooms: the one answer, and the one content of each room.
pub record ReadsList (list bs ts : List ℕ) (r : Result Counts Refusal) (bs' ts' : List ℕ) : Type 0 where
  pub answer : r ≡ stored_answer (length bs) (length ts) list
  pub blocks : bs' ≡ stored_blocks (length bs) (length ts) list
  pub text : ts' ≡ stored_text (length bs) (length ts) list
