-- What any letter reads to without indents, as plain reading does always, is read back as the same blocks and the same text once it is
-- stored. This file says it whole, by the definitions that three contracts cite:
--     reader::read          read_answer, block_room, text_room          (reader/specs/Reading)
--     storing::write_list   write_answer, write_room, indented         (storing/specs/Storing)
--     stored::read_list     stored_answer, stored_blocks, stored_text   (stored/specs/Stored), put together as `ReadsAs`
--                                                                    (roundtrips/specs/Trips)
-- proofs/Previews proves the promise, proofs/Needs computes the numbers named here. Assumes nothing: these are definitions.
use Rattle.std.specs.Prelude.{◌≡◌, List, ℕ, ◌*◌, ◌≤◌, ◌<◌, Bool, true, false, length, take}
use Rattle.answers.specs.declared.Why.TheVariants.{OutputRoom, IndentNotZero}
use Rattle.answers.specs.Answers.{refusal, answer_number}
use Rattle.rooms.specs.Rooms.{filled}
use Rattle.readings.specs.declared.Reading.{Reading}
use Rattle.readings.specs.declared.Reading.TheVariants.{Plain}
use Rattle.blocks.specs.Pages.{block_words}
use Rattle.parser.specs.declared.Counts.{Counts}
use Rattle.parser.specs.Parsing.{Sizes}
use Rattle.reader.specs.Reading.{read_answer, block_room, text_room}
use Rattle.stored.specs.Checks.{checked}
use Rattle.storing.specs.Storing.{indented, write_answer, write_room}
use Rattle.roundtrips.specs.Trips.{ReadsAs}
use Rattle.std.specs.Prelude.{Ok, Err}

-- the blocks and the text of a letter that was read, by the counts c of the answer: what stands in front in the two rooms
abbrev pub blocks_read : Reading → List ℕ → Sizes → Counts → List ℕ
blocks_read rd src z c = take (c.blocks * block_words) (block_room rd src z)

abbrev pub text_read : Reading → List ℕ → Sizes → Counts → List ℕ
text_read rd src z c = take c.text (text_room rd src z)

-- The blocks ws and the text tx are stored as the list s; of `{a}`, whose block and text are a list of 14 bytes:
pub record StoredAs (ws tx s : List ℕ) : Type 0 where
  -- in any room that holds the list, the writer answers its length, and leaves it with zeros behind
  pub answer : (total : ℕ) → length s ≤ total → write_answer total ws tx ≡ Ok (length s)
  pub room : (total : ℕ) → length s ≤ total → write_room total ws tx ≡ filled total s
  -- in any smaller one, as one of 13 bytes, it refuses by 25
  pub full : (total : ℕ) → total < length s → write_answer total ws tx ≡ Err (refusal OutputRoom)

-- The list s is read back: in any rooms of b words and t bytes that hold the blocks and the text, the reader of the stored form
-- answers the counts that the letter's reader answered, and leaves the same blocks and the same text. The list of `{a}` is refused
-- by 19 in a room of 15 words, and by 20 in a room of no bytes
abbrev pub ReadBack : Counts → List ℕ → List ℕ → List ℕ → Type 0
ReadBack c ws tx s =
    (b t : ℕ) → c.blocks * block_words ≤ b → c.text ≤ t
    → ReadsAs s (record { blocks = c.blocks; text = c.text }) ws tx b t

-- blocks and a text that are kept: there is a list that they are stored as, it is read back, and the check of lists answers 0
abbrev pub Kept : Counts → List ℕ → List ℕ → Type 0
Kept c ws tx = (s : List ℕ) × StoredAs ws tx s × ReadBack c ws tx s × (answer_number (checked s) ≡ 0)

-- whether a block of a letter that was read has an indent: one of its last three style words is not 0. `{\li1 a}` has, but in plain reading
abbrev pub has_indent : Reading → List ℕ → Sizes → Counts → Bool
has_indent rd src z c = indented c.blocks (blocks_read rd src z c)

-- Every source, rooms of any sizes: of a letter that is read,
pub record Promise : Type 0 where
  -- in plain reading no block has an indent
  pub plain : (src : List ℕ) (z : Sizes) (c : Counts) → read_answer Plain src z ≡ Ok c → has_indent Plain src z c ≡ false
  -- in any reading, where no block has one, blocks and text are kept. Nothing more is asked. Not that the source is bytes: one with an item above
  -- 127 is refused. Not that the blocks' words have 32 bits, as stored numbers have: they come from the numbers of tokens, and from places in a
  -- text of at most 2,147,483,647 bytes, and so have them
  pub kept : (rd : Reading) (src : List ℕ) (z : Sizes) (c : Counts) → read_answer rd src z ≡ Ok c → has_indent rd src z c ≡ false
      → Kept c (blocks_read rd src z c) (text_read rd src z c)
  -- and where a block has one, the writer refuses by 26, whatever its room
  pub indent : (rd : Reading) (src : List ℕ) (z : Sizes) (c : Counts) → read_answer rd src z ≡ Ok c → has_indent rd src z c ≡ true
      → (total : ℕ) → write_answer total (blocks_read rd src z c) (text_read rd src z c) ≡ Err (refusal IndentNotZero)
