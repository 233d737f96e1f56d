-- Telling letters, as theorems on the definitions: each is computed through the whole of cutting. Assumes nothing.
use mathlib.Core.Path.{◌≡◌, refl}
use mathlib.Core.List.{List, [], ◌∷◌, ◌++◌}
use mathlib.Core.Bool.{Bool, true, false, ◌&&◌}
use Prim.Native.Nat.{ℕ}
use Prim.Native.String.{String}
use lib.Dec.{eqb}
use Rattle.answers.specs.Answers.{answer_number, outcome_count, answer_place}
use Rattle.classes.specs.Bytes.{lead, body, any}
use Rattle.classes.specs.Texts.{bytes_of}
use Rattle.names.specs.Names.{same_bytes, place_in, word_number}
use Rattle.numbers.specs.Numbers.{hex_digit, hex_pair, digits_from, digits, decimal}
use Rattle.rooms.specs.Streams.{and_then, each, ended}
use Rattle.rooms.specs.Rooms.{encode, settled, content}
use Rattle.readings.specs.declared.Reading.{Reading}
use Rattle.readings.specs.declared.Reading.TheVariants.{Plain, Paragraphs}
use Rattle.slices.specs.Slices.{split, slices, with_feeds}
use Rattle.tokens.specs.Tokens.{record_of}
use Rattle.controls.specs.Controls.{shown_word, numbered}
use Rattle.tokenize.specs.Tokenize.{mark, plain, hex_value, hex_escape, line_break_and, named, bare_length, word_tail, word, other, other_by, escaped, tokens}
use Rattle.cutter.specs.Cutting.{located, last, all_slices, trimmed, token_stream, cut_answer, cut_room}

-- a letter, a room's words, the answer's number, place and count, and the room's first words, of which the rest are zero
record Case : Type 0 where
  letter : String
  room : ℕ
  number : ℕ
  place : ℕ
  count : ℕ
  holds : List ℕ

cases : List Case
cases =
    -- 01's sample letters, as far as cutting goes
    record { letter = "{}"; room = 16; number = 0; place = 0; count = 2; holds = (1 ∷ 0 ∷ 0 ∷ 0 ∷ 0 ∷ 0 ∷ 0 ∷ 1 ∷ []) ++ (2 ∷ 0 ∷ 0 ∷ 0 ∷ 0 ∷ 0 ∷ 1 ∷ 1 ∷ []) }
    ∷ record { letter = ""; room = 9; number = 0; place = 0; count = 0; holds = [] }
    ∷ record { letter = "{\\\\{a}}"; room = 32; number = 0; place = 0; count = 4; holds = (1 ∷ 0 ∷ 0 ∷ 0 ∷ 0 ∷ 0 ∷ 0 ∷ 1 ∷ []) ++ (0 ∷ 0 ∷ 0 ∷ 0 ∷ 2 ∷ 3 ∷ 1 ∷ 4 ∷ []) ++ (2 ∷ 0 ∷ 0 ∷ 0 ∷ 0 ∷ 0 ∷ 5 ∷ 1 ∷ []) ++ (2 ∷ 0 ∷ 0 ∷ 0 ∷ 0 ∷ 0 ∷ 6 ∷ 1 ∷ []) }
    ∷ record { letter = "{\\u-3913 }"; room = 24; number = 0; place = 0; count = 3; holds = (1 ∷ 0 ∷ 0 ∷ 0 ∷ 0 ∷ 0 ∷ 0 ∷ 1 ∷ []) ++ (5 ∷ 2 ∷ 1 ∷ 4294963383 ∷ 0 ∷ 0 ∷ 1 ∷ 8 ∷ []) ++ (2 ∷ 0 ∷ 0 ∷ 0 ∷ 0 ∷ 0 ∷ 9 ∷ 1 ∷ []) }
    ∷ record { letter = "{\\'e9\\'e8}"; room = 32; number = 0; place = 0; count = 4; holds = (1 ∷ 0 ∷ 0 ∷ 0 ∷ 0 ∷ 0 ∷ 0 ∷ 1 ∷ []) ++ (5 ∷ 2 ∷ 1 ∷ 233 ∷ 0 ∷ 0 ∷ 1 ∷ 4 ∷ []) ++ (5 ∷ 2 ∷ 1 ∷ 232 ∷ 0 ∷ 0 ∷ 5 ∷ 4 ∷ []) ++ (2 ∷ 0 ∷ 0 ∷ 0 ∷ 0 ∷ 0 ∷ 9 ∷ 1 ∷ []) }
    -- `?` belongs to the word, which is then unknown: DIFFERENCES, 5
    ∷ record { letter = "{\\u8217?}"; room = 24; number = 0; place = 0; count = 3; holds = (1 ∷ 0 ∷ 0 ∷ 0 ∷ 0 ∷ 0 ∷ 0 ∷ 1 ∷ []) ++ (5 ∷ 49 ∷ 0 ∷ 0 ∷ 1 ∷ 7 ∷ 1 ∷ 7 ∷ []) ++ (2 ∷ 0 ∷ 0 ∷ 0 ∷ 0 ∷ 0 ∷ 8 ∷ 1 ∷ []) }
    ∷ record { letter = "{a\\~b}"; room = 24; number = 0; place = 0; count = 3; holds = (1 ∷ 0 ∷ 0 ∷ 0 ∷ 0 ∷ 0 ∷ 0 ∷ 2 ∷ []) ++ (0 ∷ 0 ∷ 0 ∷ 0 ∷ 1 ∷ 1 ∷ 0 ∷ 2 ∷ []) ++ (2 ∷ 0 ∷ 0 ∷ 0 ∷ 0 ∷ 0 ∷ 5 ∷ 1 ∷ []) }
    -- a bracket and the text behind it have one slice; places count before trimming
    ∷ record { letter = " {}b}"; room = 32; number = 0; place = 0; count = 4; holds = (1 ∷ 0 ∷ 0 ∷ 0 ∷ 0 ∷ 0 ∷ 1 ∷ 1 ∷ []) ++ (2 ∷ 0 ∷ 0 ∷ 0 ∷ 0 ∷ 0 ∷ 2 ∷ 2 ∷ []) ++ (0 ∷ 0 ∷ 0 ∷ 0 ∷ 3 ∷ 1 ∷ 2 ∷ 2 ∷ []) ++ (2 ∷ 0 ∷ 0 ∷ 0 ∷ 0 ∷ 0 ∷ 4 ∷ 1 ∷ []) }
    -- byte 11 ends no word, and a white tail with it is lost: DIFFERENCES, 1 and 2
    ∷ record { letter = "\\a\u{b}}"; room = 16; number = 0; place = 0; count = 2; holds = (5 ∷ 49 ∷ 0 ∷ 0 ∷ 0 ∷ 3 ∷ 0 ∷ 3 ∷ []) ++ (2 ∷ 0 ∷ 0 ∷ 0 ∷ 0 ∷ 0 ∷ 3 ∷ 1 ∷ []) }
    ∷ record { letter = "\\a \u{b}}"; room = 16; number = 0; place = 0; count = 2; holds = (5 ∷ 49 ∷ 0 ∷ 0 ∷ 0 ∷ 2 ∷ 0 ∷ 4 ∷ []) ++ (2 ∷ 0 ∷ 0 ∷ 0 ∷ 0 ∷ 0 ∷ 4 ∷ 1 ∷ []) }
    ∷ record { letter = "\\a  }"; room = 24; number = 0; place = 0; count = 3; holds = (5 ∷ 49 ∷ 0 ∷ 0 ∷ 0 ∷ 2 ∷ 0 ∷ 4 ∷ []) ++ (0 ∷ 0 ∷ 0 ∷ 0 ∷ 3 ∷ 1 ∷ 0 ∷ 4 ∷ []) ++ (2 ∷ 0 ∷ 0 ∷ 0 ∷ 0 ∷ 0 ∷ 4 ∷ 1 ∷ []) }
    -- the smallest letter of each refusal from 3 on, and the same behind white space and a group
    ∷ record { letter = "\\'}"; room = 16; number = 3; place = 0; count = 0; holds = [] }
    ∷ record { letter = "\\'zz}"; room = 16; number = 4; place = 0; count = 0; holds = [] }
    ∷ record { letter = "\\a-}"; room = 16; number = 5; place = 0; count = 0; holds = [] }
    ∷ record { letter = "a"; room = 16; number = 6; place = 0; count = 0; holds = [] }
    ∷ record { letter = " {}\\'}"; room = 16; number = 3; place = 3; count = 0; holds = [] }
    ∷ record { letter = " {}\\'zz}"; room = 16; number = 4; place = 3; count = 0; holds = [] }
    ∷ record { letter = " {}\\a-}"; room = 16; number = 5; place = 3; count = 0; holds = [] }
    ∷ record { letter = " {} a "; room = 16; number = 6; place = 2; count = 0; holds = [] }
    ∷ record { letter = "}"; room = 7; number = 7; place = 0; count = 0; holds = [] }
    ∷ record { letter = " {}"; room = 8; number = 7; place = 0; count = 0; holds = [] }
    -- both sides of the 32-bit limits; 5 comes before 7
    ∷ record { letter = "\\b2147483647}"; room = 16; number = 0; place = 0; count = 2; holds = (5 ∷ 13 ∷ 1 ∷ 2147483647 ∷ 0 ∷ 0 ∷ 0 ∷ 12 ∷ []) ++ (2 ∷ 0 ∷ 0 ∷ 0 ∷ 0 ∷ 0 ∷ 12 ∷ 1 ∷ []) }
    ∷ record { letter = "\\b2147483648}"; room = 16; number = 5; place = 0; count = 0; holds = [] }
    ∷ record { letter = "\\b-2147483648}"; room = 16; number = 0; place = 0; count = 2; holds = (5 ∷ 13 ∷ 1 ∷ 2147483648 ∷ 0 ∷ 0 ∷ 0 ∷ 13 ∷ []) ++ (2 ∷ 0 ∷ 0 ∷ 0 ∷ 0 ∷ 0 ∷ 13 ∷ 1 ∷ []) }
    ∷ record { letter = "{}\\b-2147483649}"; room = 0; number = 5; place = 2; count = 0; holds = [] }
    ∷ []

-- 02, A2: a backslash and a carriage return, without a line feed and with one, which belongs to the slice; behind `\\` and behind a line feed the
-- carriage return is text; a white tail is none; what is trimmed makes no break, and is refused by 6
returns : List Case
returns =
    record { letter = "{\\\rb}"; room = 32; number = 0; place = 0; count = 4; holds = (1 ∷ 0 ∷ 0 ∷ 0 ∷ 0 ∷ 0 ∷ 0 ∷ 1 ∷ []) ++ (3 ∷ 0 ∷ 0 ∷ 0 ∷ 0 ∷ 0 ∷ 1 ∷ 3 ∷ []) ++ (0 ∷ 0 ∷ 0 ∷ 0 ∷ 3 ∷ 1 ∷ 1 ∷ 3 ∷ []) ++ (2 ∷ 0 ∷ 0 ∷ 0 ∷ 0 ∷ 0 ∷ 4 ∷ 1 ∷ []) }
    ∷ record { letter = "{\\\r\nb}"; room = 32; number = 0; place = 0; count = 4; holds = (1 ∷ 0 ∷ 0 ∷ 0 ∷ 0 ∷ 0 ∷ 0 ∷ 1 ∷ []) ++ (3 ∷ 0 ∷ 0 ∷ 0 ∷ 0 ∷ 0 ∷ 1 ∷ 4 ∷ []) ++ (0 ∷ 0 ∷ 0 ∷ 0 ∷ 4 ∷ 1 ∷ 1 ∷ 4 ∷ []) ++ (2 ∷ 0 ∷ 0 ∷ 0 ∷ 0 ∷ 0 ∷ 5 ∷ 1 ∷ []) }
    ∷ record { letter = "{\\\\\rb}"; room = 24; number = 0; place = 0; count = 3; holds = (1 ∷ 0 ∷ 0 ∷ 0 ∷ 0 ∷ 0 ∷ 0 ∷ 1 ∷ []) ++ (0 ∷ 0 ∷ 0 ∷ 0 ∷ 2 ∷ 3 ∷ 1 ∷ 4 ∷ []) ++ (2 ∷ 0 ∷ 0 ∷ 0 ∷ 0 ∷ 0 ∷ 5 ∷ 1 ∷ []) }
    ∷ record { letter = "{\\\n\rb}"; room = 32; number = 0; place = 0; count = 4; holds = (1 ∷ 0 ∷ 0 ∷ 0 ∷ 0 ∷ 0 ∷ 0 ∷ 1 ∷ []) ++ (3 ∷ 0 ∷ 0 ∷ 0 ∷ 0 ∷ 0 ∷ 1 ∷ 4 ∷ []) ++ (0 ∷ 0 ∷ 0 ∷ 0 ∷ 3 ∷ 2 ∷ 1 ∷ 4 ∷ []) ++ (2 ∷ 0 ∷ 0 ∷ 0 ∷ 0 ∷ 0 ∷ 5 ∷ 1 ∷ []) }
    ∷ record { letter = "{\\\r\n \n}"; room = 24; number = 0; place = 0; count = 3; holds = (1 ∷ 0 ∷ 0 ∷ 0 ∷ 0 ∷ 0 ∷ 0 ∷ 1 ∷ []) ++ (3 ∷ 0 ∷ 0 ∷ 0 ∷ 0 ∷ 0 ∷ 1 ∷ 4 ∷ []) ++ (2 ∷ 0 ∷ 0 ∷ 0 ∷ 0 ∷ 0 ∷ 6 ∷ 1 ∷ []) }
    ∷ record { letter = "{\\\r\n"; room = 24; number = 6; place = 1; count = 0; holds = [] }
    ∷ []

-- the same in plain reading: the carriage return is "any other byte", its tail is lost, and the line feed starts a slice
returns_plain : List Case
returns_plain =
    record { letter = "{\\\rb}"; room = 16; number = 0; place = 0; count = 2; holds = (1 ∷ 0 ∷ 0 ∷ 0 ∷ 0 ∷ 0 ∷ 0 ∷ 1 ∷ []) ++ (2 ∷ 0 ∷ 0 ∷ 0 ∷ 0 ∷ 0 ∷ 4 ∷ 1 ∷ []) }
    ∷ record { letter = "{\\\r\nb}"; room = 24; number = 0; place = 0; count = 3; holds = (1 ∷ 0 ∷ 0 ∷ 0 ∷ 0 ∷ 0 ∷ 0 ∷ 1 ∷ []) ++ (0 ∷ 0 ∷ 0 ∷ 0 ∷ 4 ∷ 1 ∷ 3 ∷ 2 ∷ []) ++ (2 ∷ 0 ∷ 0 ∷ 0 ∷ 0 ∷ 0 ∷ 5 ∷ 1 ∷ []) }
    ∷ []

-- the room's words are those that a case lists, and zeros behind them
same_room : List ℕ → List ℕ → Bool
same_room [] [] = true
same_room [] (y ∷ ys) = false
same_room (x ∷ xs) [] = eqb x 0 && same_room xs []
same_room (x ∷ xs) (y ∷ ys) = eqb x y && same_room xs ys

right : Reading → Case → Bool
right rd c =
    let src = bytes_of c.letter in
    let o = cut_answer rd src c.room in
    ((eqb (answer_number o) c.number && eqb (answer_place o) c.place) && eqb (outcome_count o) c.count) && same_room (cut_room rd src c.room) c.holds

every : Reading → List Case → Bool
every rd [] = true
every rd (c ∷ cs) = right rd c && every rd cs

cases-right : (every Plain cases && every Plain returns_plain) && every Paragraphs returns ≡ true
unfolding cases returns returns_plain right every same_room lead body any same_bytes place_in word_number hex_digit hex_pair digits_from digits decimal and_then each ended encode settled content split slices with_feeds record_of mark plain hex_value hex_escape line_break_and shown_word numbered named bare_length word_tail word other other_by escaped tokens located last all_slices trimmed token_stream cut_answer cut_room
cases-right = refl
