-- 01, Sample letters: the rooms of the extractor, what it reads of a letter and what it prints of it, by the reading (01's is plain). Assumes nothing: these are
-- definitions.
use Rattle.std.specs.Prelude.{ℕ, ◌*◌, ◌≤◌, ◌≡◌, Bool, cond, List, [], ◌++◌, ltb, length, drop, replicate}
use Rattle.answers.specs.declared.Why.TheVariants.{SourceTooLong}
use Rattle.answers.specs.Answers.{refusal, Found, found, refused, answer_number, answer_place}
use Rattle.tokens.specs.Tokens.{token_words}
use Rattle.fonts.specs.Rows.{font_words}
use Rattle.colours.specs.Colours.{colour_words}
use Rattle.readings.specs.declared.Reading.{Reading}
use Rattle.blocks.specs.Pages.{block_words, text_of}
use Rattle.parser.specs.Parsing.{Sizes, Letter, answer_counts}
use Rattle.reader.specs.Reading.{letter_of, read_answer, font_room, colour_room, block_room, text_room}
use Rattle.extraction.specs.declared.listing.Listed.{Listed}
use Rattle.extraction.specs.Listings.{listing}
use Rattle.std.specs.Prelude.{Result, Err}
use Rattle.answers.specs.declared.Refusal.{Refusal}
use Rattle.parser.specs.declared.Counts.{Counts}

-- "1,024 tokens, 128 blocks, 256 fonts and colours, 8,192 text bytes": the rooms' words
abbrev pub extractor_rooms : Sizes
extractor_rooms = record { tokens = 1024 * token_words; fonts = 256 * font_words; colours = 256 * colour_words; blocks = 128 * block_words; text = 8192 }

-- "8,192 bytes .. longer input gets 1"
abbrev pub letter_most : ℕ
letter_most = 8192

abbrev pub longer : List ℕ → Bool
longer letter = ltb letter_most (length letter)

unfoldable pub extracted_answer : Reading → List ℕ → Result Counts Refusal
extracted_answer rd letter = cond (longer letter) (Err (refusal SourceTooLong)) (read_answer rd letter extractor_rooms)

-- the text room: the text and zeros, or zeros alone: "Any refusal .. zeroes all lent rooms."
unfoldable pub extracted_text : Reading → List ℕ → List ℕ
extracted_text rd letter = cond (longer letter) (replicate extractor_rooms.text 0) (text_room rd letter extractor_rooms)

-- what `text_of` answers, and the text room that it leaves; the answer counts no more bytes than the room has
pub record TextOf (rd : Reading) (letter : List ℕ) (r : Result Counts Refusal) (room : List ℕ) : Type 0 where
  pub answer : r ≡ extracted_answer rd letter
  pub text : room ≡ extracted_text rd letter
  pub within : (answer_counts r).text ≤ extractor_rooms.text

-- the text itself; a refusal has none
abbrev pub text_in : Found Letter → List ℕ
text_in (found l) = text_of l.pieces
text_in (refused r) = []

unfoldable pub letter_text : Reading → List ℕ → List ℕ
letter_text rd letter = cond (longer letter) [] (text_in (letter_of rd letter extractor_rooms))

-- what the extractor prints of a letter
unfoldable pub extracted : Reading → List ℕ → List ℕ
extracted rd letter =
    let a = extracted_answer rd letter in
    let z = extractor_rooms in
    listing (answer_number a) (answer_place a) (answer_counts a) (font_room rd letter z) (colour_room rd letter z) (block_room rd letter z) (text_room rd letter z)

-- what `extract` answers, and the page that it leaves: the listing, whole, and behind it what stood there before
pub record Extracts (rd : Reading) (letter page : List ℕ) (r : Listed) (page' : List ℕ) : Type 0 where
  pub number : r.number ≡ answer_number (extracted_answer rd letter)
  pub bytes : r.bytes ≡ length (extracted rd letter)
  pub content : page' ≡ extracted rd letter ++ drop (length (extracted rd letter)) page

-- a letter read in the extractor's rooms: the answer, the text room, and what is listed of all rooms
pub record ReadInRooms (rd : Reading) (letter : List ℕ) (r : Result Counts Refusal) (fonts colours blocks room : List ℕ) : Type 0 where
  pub text-of : TextOf rd letter r room
  pub listed : listing (answer_number r) (answer_place r) (answer_counts r) fonts colours blocks room ≡ extracted rd letter
