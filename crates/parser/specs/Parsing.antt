-- 01, Answer numbers 8 to 20, and 02, A4: tokens become tables, blocks and text. Assumes nothing: these are definitions.
use Rattle.std.specs.Prelude.{ℕ, ◌≤◌, List, [], ◌∷◌, length}
use Rattle.answers.specs.declared.Why.TheVariants.{NoTokens, FirstToken}
use Rattle.answers.specs.Answers.{refusal, refusal_at, Found, found, refused}
use Rattle.rooms.specs.Streams.{Stream, items, answer}
use Rattle.rooms.specs.Rooms.{table_limit, capacity}
use Rattle.tokens.specs.Tokens.{Shown, Token, token}
use Rattle.walk.specs.Walk.{walk}
use Rattle.header.specs.Entering.{Tables}
use Rattle.header.specs.Header.{tables}
use Rattle.readings.specs.declared.Reading.{Reading}
use Rattle.blocks.specs.Pages.{Piece, block_words, text_capacity, none, roomy, blocks, text_of}
use Rattle.body.specs.Body.{body}
use Rattle.parser.specs.declared.Counts.{Counts}
use Rattle.fonts.specs.Rows.{font_words}
use Rattle.colours.specs.Colours.{colour_words}
use Rattle.answers.specs.declared.Refusal.{Refusal}
use Rattle.std.specs.Prelude.{Result, Ok, Err}

-- "8: no tokens (blank source)", "9: first token is no opening bracket", with the place of its slice (02, A4)
abbrev pub begun : List Token → Found (List Token)
begun [] = refused (refusal NoTokens)
begun (token p n Shown.opening ∷ ts) = found (token p n Shown.opening ∷ ts)
begun (token p n Shown.closing ∷ ts) = refused (refusal_at FirstToken p)
begun (token p n Shown.line_break ∷ ts) = refused (refusal_at FirstToken p)
begun (token p n Shown.ignorable ∷ ts) = refused (refusal_at FirstToken p)
begun (token p n (Shown.text q bs) ∷ ts) = refused (refusal_at FirstToken p)
begun (token p n (Shown.word w num) ∷ ts) = refused (refusal_at FirstToken p)
begun (token p n (Shown.unknown q bs num) ∷ ts) = refused (refusal_at FirstToken p)
begun (token p n (Shown.symbol b num) ∷ ts) = refused (refusal_at FirstToken p)

-- the sizes of the five rooms: words, and bytes of the text room
pub record Sizes : Type 0 where
  pub tokens : ℕ
  pub fonts : ℕ
  pub colours : ℕ
  pub blocks : ℕ
  pub text : ℕ

abbrev pub sizes : List ℕ → List ℕ → List ℕ → List ℕ → List ℕ → Sizes
sizes tokens fonts colours blocks text =
    record { tokens = length tokens; fonts = length fonts; colours = length colours; blocks = length blocks; text = length text }

-- a letter that was read: its tables and the pieces of its text
pub record Letter : Type 0 where
  pub tables : Tables
  pub pieces : List Piece

-- the pieces of the body that find room in b words and t bytes, or the first refusal met
abbrev pub letter_from : Tables → Stream Refusal Piece → Result ℕ Refusal → Found Letter
letter_from h s (Ok n) = found (record { tables = h; pieces = items s })
letter_from h s (Err r) = refused r

unfoldable pub placed : Reading → ℕ → ℕ → List Token → Stream Refusal Piece
placed rd b t ts = roomy (capacity block_words b) (text_capacity t) none (body rd (walk ts))

unfoldable pub bodied : Reading → ℕ → ℕ → List Token → Tables → Found Letter
bodied rd b t ts h =
    let s = placed rd b t ts in
    letter_from h s (answer 0 s)

-- "then the header walk; then the body"
abbrev pub headed : Reading → ℕ → ℕ → List Token → Found Tables → Found Letter
headed rd b t ts (found h) = bodied rd b t ts h
headed rd b t ts (refused r) = refused r

abbrev pub walked : Reading → Sizes → Found (List Token) → Found Letter
walked rd z (found ts) = headed rd z.blocks z.text ts (tables (table_limit font_words z.fonts) (table_limit colour_words z.colours) (walk ts))
walked rd z (refused r) = refused r

-- "Any refusal returns zero counts": the five counts of an answer
abbrev pub no_counts : Counts
no_counts = record { tokens = 0; fonts = 0; colours = 0; blocks = 0; text = 0 }

abbrev pub answer_counts : Result Counts Refusal → Counts
answer_counts (Ok n) = n
answer_counts (Err r) = no_counts

-- how much a letter of n tokens has, if it was read: what hosts rely on, who count in 32 bits
pub record Few (n : ℕ) (l : Letter) : Type 0 where
  pub fonts : length l.tables.fonts ≤ 256
  pub colours : length l.tables.colours ≤ 256
  pub blocks : length (blocks l.pieces) ≤ n
  pub text : length (text_of l.pieces) ≤ 2147483647

abbrev pub FewIn : ℕ → Found Letter → Type 0
FewIn n (found l) = Few n l
FewIn n (refused r) = Unit {0}
