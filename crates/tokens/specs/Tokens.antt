-- 01, Cutting, and 02, A1 and A4: what a token is, and its eight words. Assumes nothing: these are definitions.
use Rattle.std.specs.Prelude.{ℕ, zero, suc, ◌+◌, ◌*◌, List, [], ◌∷◌, ◌++◌, cond, length, ltb, Option, is_some, unwrap_or}
use Rattle.std.proofs.lemmas.List.Edits.{sets}
use Rattle.rooms.specs.Rooms.{Layout, capacity}
use Rattle.tokens.specs.declared.Kind.{Kind}
use Rattle.tokens.specs.declared.Kind.TheVariants as kinds
use Rattle.tokens.specs.declared.Record.{Record}
use Rattle.tokens.specs.WordNumbers as words

-- "kind (0 text, 1 open, 2 close, 3 line break, 4 ignorable, 5 word)": what a token shows. A text has its source place and
-- its bytes; a word its number and property; an unknown word its source place and bytes, "from its backslash, without its
-- number", and its property. 02, A1: a symbol has the byte behind its backslash; `\'` has the byte that its digits say
pub data Shown : Type 0 where
  text : ℕ → List ℕ → Shown
  opening : Shown
  closing : Shown
  line_break : Shown
  ignorable : Shown
  word : ℕ → Option ℕ → Shown
  unknown : ℕ → List ℕ → Option ℕ → Shown
  symbol : ℕ → Option ℕ → Shown

-- a token: "the place of their slice in two further words, place and length", and what it shows
pub data Token : Type 0 where
  token : ℕ → ℕ → Shown → Token

abbrev pub slice_of : Token → ℕ
slice_of (token p n x) = p

abbrev pub slice_length_of : Token → ℕ
slice_length_of (token p n x) = n

abbrev pub shown_in : Token → Shown
shown_in (token p n x) = x

-- what tokens show
unfoldable pub shown_by : List Token → List Shown
shown_by [] = []
shown_by (t ∷ ts) = shown_in t ∷ shown_by ts

-- "1 if a number is present, that number modulo 2^32"
abbrev pub has_of : Option ℕ → ℕ
has_of num = cond (is_some num) 1 0

abbrev pub value_of : Option ℕ → ℕ
value_of num = unwrap_or num 0

-- "kind (0 text, 1 open, 2 close, 3 line break, 4 ignorable, 5 word)", and 02, A1: 6, a symbol
abbrev pub kind_number : Kind → ℕ
kind_number kinds.Text = 0
kind_number kinds.Opening = 1
kind_number kinds.Closing = 2
kind_number kinds.LineBreak = 3
kind_number kinds.Ignorable = 4
kind_number kinds.Word = 5
kind_number kinds.Symbol = 6

-- "Unused fields are 0."
abbrev pub bare_record : ℕ → Record
bare_record k = record { kind = k; word = 0; has = 0; number = 0; place = 0; length = 0 }

-- "source place and length for text"
abbrev pub text_record : ℕ → ℕ → Record
text_record p n = record { kind = kind_number kinds.Text; word = 0; has = 0; number = 0; place = p; length = n }

abbrev pub word_record : ℕ → Option ℕ → Record
word_record w num = record { kind = kind_number kinds.Word; word = w; has = has_of num; number = value_of num; place = 0; length = 0 }

-- "and for an unknown word", whose number is 49
abbrev pub unknown_record : ℕ → ℕ → Option ℕ → Record
unknown_record p n num = record { kind = kind_number kinds.Word; word = words.unknown; has = has_of num; number = value_of num; place = p; length = n }

-- 02, A1: kind 6, "the byte in the word field"
abbrev pub symbol_record : ℕ → Option ℕ → Record
symbol_record b num = record { kind = kind_number kinds.Symbol; word = b; has = has_of num; number = value_of num; place = 0; length = 0 }

-- the record of what a token shows
unfoldable pub record_of : Shown → Record
record_of (text p bs) = text_record p (length bs)
record_of opening = bare_record (kind_number kinds.Opening)
record_of closing = bare_record (kind_number kinds.Closing)
record_of line_break = bare_record (kind_number kinds.LineBreak)
record_of ignorable = bare_record (kind_number kinds.Ignorable)
record_of (word w num) = word_record w num
record_of (unknown p bs num) = unknown_record p (length bs) num
record_of (symbol b num) = symbol_record b num

-- "A token is six u32"; "two further words, place and length"
abbrev pub shown_words : ℕ
shown_words = 6

abbrev pub token_words : ℕ
token_words = shown_words + 2

abbrev pub record_words : Record → List ℕ
record_words t = t.kind ∷ t.word ∷ t.has ∷ t.number ∷ t.place ∷ t.length ∷ []

abbrev pub slice_words : ℕ → ℕ → List ℕ
slice_words p n = p ∷ n ∷ []

-- how what a token shows, and how a token, stands in a room
abbrev pub shown_layout : Layout Shown
shown_layout = record { width = token_words; words = λ s. record_words (record_of s) }

abbrev pub token_layout : Layout Token
token_layout = record { width = token_words; words = λ t. record_words (record_of (shown_in t)) ++ slice_words (slice_of t) (slice_length_of t) }

-- the room with the place and the length of a slice behind what the token at n shows, if it holds that token
unfoldable pub sealed : ℕ → ℕ → List ℕ → ℕ → List ℕ
sealed p l room n = cond (ltb n (capacity token_words (length room))) (sets room (n * token_words + shown_words) (slice_words p l)) room

-- the same for k tokens from n on
unfoldable pub sealed_all : ℕ → ℕ → List ℕ → ℕ → ℕ → List ℕ
sealed_all p l room n zero = room
sealed_all p l room n (suc k) = sealed_all p l (sealed p l room n) (n + 1) k
