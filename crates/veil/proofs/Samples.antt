-- Letters that say what `{a{\*x}b}` says, whatever the reading and the rooms, by the theorem: their veils are equal, and they
-- are cut, by computation. And that the premise of the literal form can be met. Assumes nothing.
use mathlib.Core.Path.{◌≡◌, refl}
use mathlib.Core.List.{List, [], ◌∷◌}
use Prim.Native.Nat.{ℕ}
use Prim.Native.String.{String}
use Rattle.classes.specs.Bytes.{lead, body, any}
use Rattle.classes.specs.Texts.{bytes_of}
use Rattle.names.specs.Names.{same_bytes, place_in, word_number}
use Rattle.numbers.specs.Numbers.{hex_digit, hex_pair, digits_from, digits, decimal}
use Rattle.rooms.specs.Streams.{and_then, each, items, ended}
use Rattle.rooms.specs.Rooms.{settled}
use Rattle.slices.specs.Slices.{split, slices, with_feeds, split_standard, standard_slices}
use Rattle.tokenize.specs.Tokenize.{other_by, mark, plain, hex_value, hex_escape, line_break_and, named, bare_length}
use Rattle.controls.specs.Controls.{shown_word, numbered}
use Rattle.tokenize.specs.Tokenize.{word_tail, word, other as other_bytes, escaped, tokens}
use Rattle.standard.specs.Standard.{leads, tail, number_length, named as standard_named, word as standard_word, hex_value as standard_value, hex_escape as standard_hex}
use Rattle.standard.specs.Standard.{break_length, line_break_and as standard_break, escaped as standard_escaped, tokens as standard_tokens}
use Rattle.cutter.specs.Cutting.{located, last, all_slices, every, closed_behind, closing, trimmed, token_stream, cut_answer}
use Rattle.walk.specs.Walk.{aim_from}
use Rattle.readings.specs.declared.Reading.{Reading}
use Rattle.readings.specs.declared.Reading.TheVariants.{Plain, Paragraphs, Standard}
use Rattle.parser.specs.Parsing.{Sizes}
use Rattle.veil.specs.Veil.{part, parts, pieces, join, shown, mask, veil, behind, own, ends_bare, ends_free, Ignored, Alike, same}
use Rattle.veil.specs.Veil.{other}
use Rattle.veil.specs.Said.{said, SameRooms}
use Rattle.veil.proofs.HiddenStays.{hidden-stays-hidden}
use Rattle.std.specs.Prelude.{Ok}

-- a letter, and how many tokens it has
record Sample : Type 0 where
  letter : String
  count : ℕ

sample : String → ℕ → Sample
sample s n = record { letter = s; count = n }

base : List ℕ
base = bytes_of "{a{\\*x}b}"

-- other hidden content: nothing; text; nested groups; escaped brackets; a bracket by its number; a backslash by its number;
-- runs of `u`; words, stray controls and a table's word; a stylesheet; a line break or a line feed before the mark; white space
-- around
samples : List Sample
samples =
    sample "{a{\\*}b}" 7
    ∷ sample "{a{\\*\\generator Someone; 1.0;}b}" 9
    ∷ sample "{a{\\*{y}{z{w}}}b}" 16
    ∷ sample "{a{\\*\\}\\{}b}" 9
    ∷ sample "{a{\\*\\'7d}b}" 8
    ∷ sample "{a{\\*\\'5c}b}" 8
    ∷ sample "{a{\\*\\u8212 \\u65 ?\\uc0}b}" 11
    ∷ sample "{a{\\*\\~\\q7\\b\\par{\\fonttbl\\f}\\*}b}" 15
    ∷ sample "{a{\\stylesheet{\\s1 y;}}b}" 11
    ∷ sample "{a{\\\n\\*x}b}" 8
    ∷ sample "{a{\n \\*x}b}" 7
    ∷ sample " \n{a{\\*x}b} \n" 7
    ∷ []

-- in standard reading: there an escaped backslash may end what is hidden, raw line ends may stand before the mark, and a stray control and
-- text behind a mark are tokens
standard_samples : List Sample
standard_samples =
    sample "{a{\\*}b}" 7
    ∷ sample "{a{\\*\\generator Someone; 1.0;}b}" 9
    ∷ sample "{a{\\*{y}{z{w}}}b}" 16
    ∷ sample "{a{\\*\\}\\{}b}" 9
    ∷ sample "{a{\\*x\\\\}b}" 9
    ∷ sample "{a{\\*\\'7d}b}" 8
    ∷ sample "{a{\\*\\'5c}b}" 8
    ∷ sample "{a{\\*\\u8212 \\u65 ?\\uc0}b}" 11
    ∷ sample "{a{\\*\\~\\q7\\b\\par{\\fonttbl\\f}\\*}b}" 16
    ∷ sample "{a{\\stylesheet{\\s1 y;}}b}" 11
    ∷ sample "{a{\\\r\n\\*x}b}" 9
    ∷ sample "{a{\r\n\\*x}b}" 8
    ∷ sample " \n{a{\\*x}b} \n" 8
    ∷ []

abbrev samples_by : Reading → List Sample
samples_by Plain = samples
samples_by Paragraphs = samples
samples_by Standard = standard_samples

abbrev base_count : Reading → ℕ
base_count Plain = 7
base_count Paragraphs = 7
base_count Standard = 8

-- cut in a room of 600 words, and of one veil with the first letter
abbrev Cut : Reading → List Sample → Type 0
Cut rd [] = Unit {0}
Cut rd (s ∷ ss) = ((cut_answer rd (bytes_of s.letter) 600 ≡ Ok s.count) × (veil rd (bytes_of s.letter) ≡ veil rd base)) × Cut rd ss

samples-cut : (rd : Reading) → Cut rd (samples_by rd)
unfolding samples standard_samples sample base veil pieces join mask parts part shown aim_from cut_answer token_stream trimmed all_slices last located settled ended items each and_then split slices with_feeds lead body any tokens escaped other_bytes other_by word word_tail bare_length named numbered shown_word line_break_and hex_escape hex_value plain mark word_number place_in same_bytes hex_digit hex_pair digits_from digits decimal split_standard standard_slices standard_tokens standard_escaped standard_word standard_named standard_hex standard_value standard_break break_length number_length leads tail every closed_behind closing
samples-cut Plain =
    ((refl, refl), ((refl, refl), ((refl, refl), ((refl, refl), ((refl, refl), ((refl, refl), ((refl, refl), ((refl, refl), ((refl, refl), ((refl, refl), ((refl, refl), ((refl, refl), tt))))))))))))
samples-cut Paragraphs =
    ((refl, refl), ((refl, refl), ((refl, refl), ((refl, refl), ((refl, refl), ((refl, refl), ((refl, refl), ((refl, refl), ((refl, refl), ((refl, refl), ((refl, refl), ((refl, refl), tt))))))))))))
samples-cut Standard =
    ((refl, refl), ((refl, refl), ((refl, refl), ((refl, refl), ((refl, refl), ((refl, refl), ((refl, refl), ((refl, refl), ((refl, refl), ((refl, refl), ((refl, refl), ((refl, refl), ((refl, refl), tt)))))))))))))

base-cut : (rd : Reading) → cut_answer rd base 600 ≡ Ok (base_count rd)
unfolding base cut_answer token_stream trimmed all_slices last located settled ended items each and_then split slices with_feeds lead body any tokens escaped other_bytes other_by word word_tail bare_length named numbered shown_word line_break_and hex_escape hex_value plain mark word_number place_in same_bytes hex_digit hex_pair digits_from digits decimal split_standard standard_slices standard_tokens standard_escaped standard_word standard_named standard_hex standard_value standard_break break_length number_length leads tail every closed_behind closing
base-cut Plain = refl
base-cut Paragraphs = refl
base-cut Standard = refl

-- they say what it says, whatever the other rooms
abbrev Same : Reading → Sizes → List Sample → Type 0
Same rd z [] = Unit {0}
Same rd z (s ∷ ss) = (said rd (bytes_of s.letter) z ≡ said rd base z) × Same rd z ss

module _ (rd : Reading) (f c b t : ℕ) where
  abbrev rooms : Sizes
  rooms = record { tokens = 600; fonts = f; colours = c; blocks = b; text = t }

  all_same : (ss : List Sample) → Cut rd ss → Same rd rooms ss
  all_same [] h = tt
  all_same (s ∷ ss) h =
      (hidden-stays-hidden rd (bytes_of s.letter) base rooms rooms same-rooms h.0.0 (base-cut rd) h.0.1, all_same ss h.1)
    where
      same-rooms : SameRooms rooms rooms
      same-rooms = record { fonts = refl; colours = refl; blocks = refl; text = refl }

  samples-same : Same rd rooms (samples_by rd)
  samples-same = all_same (samples_by rd) (samples-cut rd)

-- ---- the literal form

-- `\*x` and `\*{y}`, each the inside of a group behind `{a`
first-inside : Ignored Plain (bytes_of "{a") (bytes_of "\\*x")
unfolding behind own ends_bare pieces parts part shown aim_from cut_answer token_stream trimmed all_slices last located settled ended items each and_then split slices lead body any tokens escaped other_bytes word word_tail bare_length named numbered shown_word line_break_and hex_escape hex_value plain mark word_number place_in same_bytes hex_digit hex_pair digits_from digits decimal
first-inside = record { opened = refl; closed = refl; balanced = refl; reached = refl; hidden = refl }

second-inside : Ignored Plain (bytes_of "{a") (bytes_of "\\*{y}")
unfolding behind own ends_bare pieces parts part shown aim_from cut_answer token_stream trimmed all_slices last located settled ended items each and_then split slices lead body any tokens escaped other_bytes word word_tail bare_length named numbered shown_word line_break_and hex_escape hex_value plain mark word_number place_in same_bytes hex_digit hex_pair digits_from digits decimal
second-inside = record { opened = refl; closed = refl; balanced = refl; reached = refl; hidden = refl }

-- behind white space, and behind a table and another ignored group
late-inside : Ignored Plain (bytes_of " \n{{\\fonttbl{\\f0 A;}}{\\*x}a") (bytes_of "\\stylesheet{\\s1 y;}")
unfolding behind own ends_bare pieces parts part shown aim_from cut_answer token_stream trimmed all_slices last located settled ended items each and_then split slices lead body any tokens escaped other_bytes word word_tail bare_length named numbered shown_word line_break_and hex_escape hex_value plain mark word_number place_in same_bytes hex_digit hex_pair digits_from digits decimal
late-inside = record { opened = refl; closed = refl; balanced = refl; reached = refl; hidden = refl }

two-letters : Alike Plain (bytes_of "{a{\\*x}b}") (bytes_of "{a{\\*{y}}b}")
two-letters =
    other (bytes_of "{a") (bytes_of "\\*x") (bytes_of "\\*{y}") (bytes_of "b}") first-inside second-inside (same (bytes_of "{a{\\*{y}}b}"))

-- in standard reading an escaped backslash may end either side: `{a\\` before the group, and `\*x\\` in it
escaped-inside : Ignored Standard (bytes_of "{a\\\\") (bytes_of "\\*x\\\\")
unfolding behind own ends_free pieces parts part shown aim_from items and_then lead body any split_standard standard_slices standard_tokens standard_escaped standard_word standard_named standard_hex standard_value standard_break break_length number_length leads tail numbered shown_word word_number place_in same_bytes
escaped-inside = record { opened = refl; closed = refl; balanced = refl; reached = refl; hidden = refl }

nested-inside : Ignored Standard (bytes_of "{a\\\\") (bytes_of "\\*{y}")
unfolding behind own ends_free pieces parts part shown aim_from items and_then lead body any split_standard standard_slices standard_tokens standard_escaped standard_word standard_named standard_hex standard_value standard_break break_length number_length leads tail numbered shown_word word_number place_in same_bytes
nested-inside = record { opened = refl; closed = refl; balanced = refl; reached = refl; hidden = refl }

standard-letters : Alike Standard (bytes_of "{a\\\\{\\*x\\\\}b}") (bytes_of "{a\\\\{\\*{y}}b}")
standard-letters =
    other (bytes_of "{a\\\\") (bytes_of "\\*x\\\\") (bytes_of "\\*{y}") (bytes_of "b}") escaped-inside nested-inside (same (bytes_of "{a\\\\{\\*{y}}b}"))
