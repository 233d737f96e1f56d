-- Telling slices, as theorems on the definitions: each is computed through the whole of a slice's cutting. Assumes nothing.
use mathlib.Core.Path.{◌≡◌, refl}
use mathlib.Core.List.{List, [], ◌∷◌}
use Prim.Native.Nat.{ℕ}
use Prim.Native.String.{String}
use Rattle.answers.specs.declared.Why.{Why}
use Rattle.answers.specs.declared.Why.TheVariants.{HexShort, HexBad, NumberBad}
use Rattle.classes.specs.Bytes.{lead}
use Rattle.classes.specs.Texts.{bytes_of}
use Rattle.names.specs.Names.{same_bytes, place_in, word_number}
use Rattle.numbers.specs.Numbers.{hex_digit, hex_pair, digits_from, digits, decimal}
use Rattle.rooms.specs.Streams.{Stream, end, stop, ◌▸◌, and_then}
use Rattle.tokens.specs.Tokens.{Shown}
use Rattle.tokens.specs.WordNumbers as words
use Rattle.controls.specs.Controls.{shown_word, numbered}
use Rattle.standard.specs.Standard.{leads, tail, number_length, named, word, hex_value, hex_escape, break_length, line_break_and, escaped, tokens}
use Rattle.std.specs.Prelude.{Some, None}

abbrev text : ℕ → String → Shown
text p s = Shown.text p (bytes_of s)

-- a slice that stands at place 7, and its tokens
record Case : Type 0 where
  slice : String
  gives : Stream Why Shown

abbrev cases : List Case
cases =
    -- one space belongs to a word; a number ends it
    record { slice = "\\b2 a"; gives = Shown.word words.bold (Some 2) ▸ text 11 "a" ▸ end }
    -- a minus sign without a digit is text, and so is a plus sign
    ∷ record { slice = "\\b-"; gives = Shown.word words.bold None ▸ text 9 "-" ▸ end }
    ∷ record { slice = "\\b-1"; gives = Shown.word words.bold (Some 4294967295) ▸ end }
    ∷ record { slice = "\\b+1"; gives = Shown.word words.bold None ▸ text 9 "+1" ▸ end }
    -- capitals belong to a word, and to its name
    ∷ record { slice = "\\B"; gives = Shown.unknown 7 (bytes_of "\\B") None ▸ end }
    ∷ record { slice = "\\bB1 "; gives = Shown.unknown 7 (bytes_of "\\bB") (Some 1) ▸ end }
    -- no other white space vanishes, and one space alone
    ∷ record { slice = "\\b\t"; gives = Shown.word words.bold None ▸ text 9 "\t" ▸ end }
    ∷ record { slice = "\\b  "; gives = Shown.word words.bold None ▸ text 10 " " ▸ end }
    -- no semicolon is dropped
    ∷ record { slice = "\\b;"; gives = Shown.word words.bold None ▸ text 9 ";" ▸ end }
    -- the character behind a `u` word, which plain reading takes for a part of it
    ∷ record { slice = "\\u8217?"; gives = Shown.word words.unicode (Some 8217) ▸ text 13 "?" ▸ end }
    -- a symbol and a hex escape take no space
    ∷ record { slice = "\\~b"; gives = Shown.symbol 126 None ▸ text 9 "b" ▸ end }
    ∷ record { slice = "\\~ b"; gives = Shown.symbol 126 None ▸ text 9 " b" ▸ end }
    ∷ record { slice = "\\'80 x"; gives = Shown.symbol 39 (Some 128) ▸ text 11 " x" ▸ end }
    -- 3, 4 and 5 of the answer numbers
    ∷ record { slice = "\\'8"; gives = stop HexShort }
    ∷ record { slice = "\\'zz"; gives = stop HexBad }
    ∷ record { slice = "\\u99999999999"; gives = stop NumberBad }
    -- a tail of white space is text
    ∷ record { slice = "{ "; gives = Shown.opening ▸ text 8 " " ▸ end }
    ∷ record { slice = "}a"; gives = Shown.closing ▸ text 8 "a" ▸ end }
    -- the tail of a mark stays
    ∷ record { slice = "\\*x"; gives = Shown.ignorable ▸ text 9 "x" ▸ end }
    -- a line break and its tail; a line feed behind a carriage return belongs to it
    ∷ record { slice = "\\\n "; gives = Shown.line_break ▸ text 9 " " ▸ end }
    ∷ record { slice = "\\\r\na"; gives = Shown.line_break ▸ text 10 "a" ▸ end }
    ∷ record { slice = "\\\n\na"; gives = Shown.line_break ▸ text 9 "\na" ▸ end }
    -- an escaped byte is text, with what follows it
    ∷ record { slice = "\\\\x"; gives = text 8 "\\x" ▸ end }
    ∷ record { slice = "\\{"; gives = text 8 "{" ▸ end }
    -- a backslash that ends the source is a symbol
    ∷ record { slice = "\\"; gives = Shown.symbol 0 None ▸ end }
    -- a raw carriage return or line feed vanishes
    ∷ record { slice = "\r"; gives = end }
    ∷ record { slice = "\na"; gives = text 8 "a" ▸ end }
    -- any other run of bytes is text
    ∷ record { slice = " a"; gives = text 7 " a" ▸ end }
    ∷ []

abbrev cut : List Case → List (Stream Why Shown)
cut [] = []
cut (c ∷ cs) = tokens 7 (bytes_of c.slice) ∷ cut cs

abbrev given : List Case → List (Stream Why Shown)
given [] = []
given (c ∷ cs) = c.gives ∷ given cs

pub slices-cut : cut cases ≡ given cases
unfolding tokens escaped word named shown_word numbered leads tail number_length hex_value hex_escape break_length line_break_and and_then lead word_number place_in same_bytes decimal digits digits_from hex_digit hex_pair
slices-cut = refl
