-- 01, Answer numbers: a letter read whole: the one answer, and the one content of the five lent rooms. Assumes nothing: these
-- are definitions.
use Rattle.std.specs.Prelude.{ℕ, ◌≤◌, ◌≡◌, List, length, replicate}
use Rattle.answers.specs.Answers.{Found, found, refused}
use Rattle.rooms.specs.Streams.{items}
use Rattle.rooms.specs.Rooms.{encode, filled}
use Rattle.tokens.specs.Tokens.{Token, token_layout}
use Rattle.cutter.specs.Cutting.{token_stream, cut_answer}
use Rattle.fonts.specs.Rows.{table_words}
use Rattle.readings.specs.declared.Reading.{Reading}
use Rattle.blocks.specs.Pages.{blocks, text_of, records}
use Rattle.parser.specs.declared.Counts.{Counts}
use Rattle.parser.specs.Parsing.{begun, Sizes, Letter, walked}
use Rattle.std.specs.Prelude.{Result, Ok, Err}
use Rattle.answers.specs.declared.Refusal.{Refusal}

-- "cutting .. then 6, 7, 8, 9"
abbrev pub cut : Reading → Sizes → List Token → Result ℕ Refusal → Found Letter
cut rd z ts (Ok n) = walked rd z (begun ts)
cut rd z ts (Err r) = refused r

-- a source, read into rooms of such sizes
unfoldable pub letter_of : Reading → List ℕ → Sizes → Found Letter
letter_of rd src z = cut rd z (items (token_stream rd src)) (cut_answer rd src z.tokens)

abbrev pub token_count : Reading → List ℕ → ℕ
token_count rd src = length (items (token_stream rd src))

-- "Success returns counts of tokens, fonts, colours, blocks and text bytes"
abbrev pub counts_of : Reading → List ℕ → Letter → Counts
counts_of rd src l = record {
  tokens = token_count rd src;
  fonts = length l.tables.fonts;
  colours = length l.tables.colours;
  blocks = length (blocks l.pieces);
  text = length (text_of l.pieces);
}

abbrev pub answered : Reading → List ℕ → Found Letter → Result Counts Refusal
answered rd src (found l) = Ok (counts_of rd src l)
answered rd src (refused r) = Err r

-- the one answer
unfoldable pub read_answer : Reading → List ℕ → Sizes → Result Counts Refusal
read_answer rd src z = answered rd src (letter_of rd src z)

-- "room beyond them is zero. Any refusal .. zeroes all lent rooms."
abbrev pub holding : ℕ → (Letter → List ℕ) → Found Letter → List ℕ
holding total words (found l) = filled total (words l)
holding total words (refused r) = replicate total 0

-- the one content of each room
unfoldable pub token_room : Reading → List ℕ → Sizes → List ℕ
token_room rd src z = holding z.tokens (λ (l : Letter). encode token_layout (token_stream rd src)) (letter_of rd src z)

unfoldable pub font_room : Reading → List ℕ → Sizes → List ℕ
font_room rd src z = holding z.fonts (λ (l : Letter). table_words l.tables.fonts) (letter_of rd src z)

unfoldable pub colour_room : Reading → List ℕ → Sizes → List ℕ
colour_room rd src z = holding z.colours (λ (l : Letter). l.tables.colours) (letter_of rd src z)

unfoldable pub block_room : Reading → List ℕ → Sizes → List ℕ
block_room rd src z = holding z.blocks (λ (l : Letter). records 0 (blocks l.pieces)) (letter_of rd src z)

unfoldable pub text_room : Reading → List ℕ → Sizes → List ℕ
text_room rd src z = holding z.text (λ (l : Letter). text_of l.pieces) (letter_of rd src z)

-- counts of a letter that was read: each fits 32 bits, as hosts count
pub record Counted (c : Counts) : Type 0 where
  pub tokens : c.tokens ≤ 65536
  pub fonts : c.fonts ≤ 256
  pub colours : c.colours ≤ 256
  pub blocks : c.blocks ≤ 65536
  pub text : c.text ≤ 2147483647

-- What `read` promises: the one answer, and the one content of each room. That the counts are small follows, and is said with them.
pub record Reads (rd : Reading) (src : List ℕ) (z : Sizes) (r : Result Counts Refusal) (tk fs cs bs tx : List ℕ) : Type 0 where
  pub answer : r ≡ read_answer rd src z
  pub tokens : tk ≡ token_room rd src z
  pub fonts : fs ≡ font_room rd src z
  pub colours : cs ≡ colour_room rd src z
  pub blocks : bs ≡ block_room rd src z
  pub text : tx ≡ text_room rd src z
  pub counted : (c : Counts) → r ≡ Ok c → Counted c
