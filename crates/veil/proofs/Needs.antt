-- Why each premise of `hidden-stays-hidden`, and each of `Ignored`, is asked, and why places are left out: letters without it whose readings differ from
-- that of `{a{\*x}b}`, or from one another's, by computation. A letter is heard as its answer number, its text and its fonts,
-- which are a part of what it says. Assumes nothing.
use mathlib.Core.Path.{◌≡◌, refl}
use mathlib.Core.List.{List, [], ◌∷◌}
use Prim.Native.Nat.{ℕ, ◌*◌}
use Prim.Native.String.{String}
use Rattle.answers.specs.Answers.{why_number, Found, found, refused}
use Rattle.classes.specs.Bytes.{lead, body, any}
use Rattle.classes.specs.Texts.{bytes_of}
use Rattle.names.specs.Names.{same_bytes, place_in, word_number}
use Rattle.numbers.specs.Numbers.{hex_digit, hex_pair, digits_from, digits, decimal}
use Rattle.rooms.specs.Streams.{and_then, each, items, ended}
use Rattle.rooms.specs.Rooms.{settled, table_limit}
use Rattle.slices.specs.Slices.{split, slices, split_standard, standard_slices}
use Rattle.tokenize.specs.Tokenize.{other_by, mark, plain, hex_value, hex_escape, line_break_and, named, bare_length}
use Rattle.controls.specs.Controls.{shown_word, numbered}
use Rattle.tokenize.specs.Tokenize.{word_tail, word, other, escaped, tokens}
use Rattle.standard.specs.Standard.{leads, tail, number_length, named as standard_named, word as standard_word, hex_value as standard_value, hex_escape as standard_hex}
use Rattle.standard.specs.Standard.{break_length, line_break_and as standard_break, escaped as standard_escaped, tokens as standard_tokens}
use Rattle.cutter.specs.Cutting.{located, last, all_slices, every, closed_behind, closing, trimmed, token_stream, cut_answer}
use Rattle.utf8.specs.Utf8.{utf8, written}
use Rattle.units.specs.Units.{unit_of, taken, met, met_any, step, taken_any, standard_step, values}
use Rattle.machine.specs.Stack.{moved}
use Rattle.machine.specs.Machine.{gave, left, owed_behind, written_all, ◌▸▸◌, settle, spoken, said as said_of, machine}
use Rattle.runs.specs.Runs.{step_by as run_step, owed_by}
use Rattle.deeds.specs.Deeds.{symbol_effect}
use Rattle.windows.specs.Windows.{windows1252}
use Rattle.tokens.specs.Items.{part as bytes_at}
use Rattle.walk.specs.Walk.{aim_from, extent, walk_from}
use Rattle.fonts.specs.Rows.{has_key, inserted, stored, font_words}
use Rattle.fonts.specs.Fonts.{named as font_named, font_word, font_token, fonts_from, fonts}
use Rattle.colours.specs.Colours.{colour_word_of, colour_token, colours_from, colours, colour_words}
use Rattle.header.specs.Header.{tables_from}
use Rattle.readings.specs.declared.Reading.{Reading}
use Rattle.readings.specs.declared.Reading.TheVariants.{Plain, Paragraphs, Standard}
use Rattle.settings.specs.Fields.{resets, flags_of, style_of}
use Rattle.settings.specs.Effects.{fitted, spacing, painter_word, paragraph_word, character_word, ending_word, indent_word, effect}
use Rattle.blocks.specs.Pages.{blocks_from, blocks, text_of, roomy, block_words}
use Rattle.body.specs.Body.{acts, body as body_of}
use Rattle.parser.specs.Parsing.{Letter, placed, bodied}
use Rattle.reader.specs.Reading.{letter_of}
use Rattle.veil.specs.Veil.{part, parts, pieces, join, shown, mask, veil}
use Rattle.veil.specs.Said.{Named, Said, refuses, says, names_in, said}
use Rattle.tokens.specs.Tokens.{shown_by, token_words}

record Heard : Type 0 where
  number : ℕ
  text : List ℕ
  fonts : List Named

abbrev heard : Said → Heard
heard (says c) = record { number = 0; text = c.text; fonts = c.fonts }
heard (refuses why) = record { number = why_number why; text = []; fonts = [] }

-- a letter; the tokens that its room holds, the bytes of its text room; and what is heard
record Case : Type 0 where
  letter : String
  tokens : ℕ
  text : ℕ
  hears : Heard

-- rooms that are large enough
case : String → Heard → Case
case s h = record { letter = s; tokens = 75; text = 16; hears = h }

in_rooms : ℕ → ℕ → String → Heard → Case
in_rooms n m s h = record { letter = s; tokens = n; text = m; hears = h }

bytes : List ℕ → Heard
bytes t = record { number = 0; text = t; fonts = [] }

text : String → Heard
text s = bytes (bytes_of s)

refusal : ℕ → Heard
refusal n = record { number = n; text = []; fonts = [] }

font : ℕ → String → Named
font k s = record { key = k; name = bytes_of s }

cases : List Case
cases =
    -- the letter that the others are beside
    case "{a{\\*x}b}" (text "ab")
    -- cut without refusal: there is a refusal inside
    ∷ case "{a{\\*{\\'zz}}b}" (refusal 4)
    -- token room enough for each: 7 tokens find room, 9 do not
    ∷ in_rooms 7 16 "{a{\\*x}b}" (text "ab")
    ∷ in_rooms 7 16 "{a{\\*{}}b}" (refusal 7)
    -- other rooms of the same sizes: a text room of 1
    ∷ in_rooms 75 1 "{a{\\*x}b}" (refusal 20)
    -- closed by its own bracket: one that closes an inner group; one that is text; one that is glued to a slice
    ∷ case "{a{\\*{x}b}" (text "a")
    ∷ case "{a{\\*x\\}b}" (text "a")
    ∷ case "{a{\\*{\\\\}b}" (text "a")
    ∷ case "{a{\\*x\\\\}b}" (text "a")
    -- opened by a bracket: one that is text
    ∷ case "{a\\{\\*x}b}" (refusal 13)
    -- reached by the walk: in a font table a `\*` group is read
    ∷ case "{{\\fonttbl{\\f0 A;}{\\*\\f1 B;}}t}" (record {
      number =
          0;
      text = bytes_of "t";
      fonts = font 0 "A" ∷ font 1 "B" ∷ [];
    })
    ∷ case "{{\\fonttbl{\\f0 A;}{\\*\\f1 C;}}t}" (record {
      number =
          0;
      text = bytes_of "t";
      fonts = font 0 "A" ∷ font 1 "C" ∷ [];
    })
    -- passed over, both: without a mark; with a mark that is not the first; a stylesheet with a number
    ∷ case "{a{\\b x}b}" (text "axb")
    ∷ case "{a{x\\*}b}" (refusal 13)
    ∷ case "{a{\\stylesheet1 x}b}" (text "axb")
    -- a line break may stand between the bracket and the mark, and is hidden; a word may not; before a table's word it is refused
    ∷ case "{a{\\\n\\*x}b}" (text "ab")
    ∷ case "{a{\\b\\*x}b}" (refusal 13)
    ∷ case "{a{\\\n\\fonttbl x}b}" (refusal 10)
    -- the group stays, as a mark: between two `u` tokens it parts the run, so that the second unit is kept
    ∷ case "{\\u8212 {\\*x}\\u65 }" (bytes (226 ∷ 128 ∷ 148 ∷ 65 ∷ []))
    ∷ case "{\\u8212 \\u65 }" (bytes (226 ∷ 128 ∷ 148 ∷ []))
    -- not asked: that the group is closed, if it is in neither
    ∷ case "{a{\\*{x}" (text "a")
    ∷ case "{a{\\*{{y}" (text "a")
    ∷ []

-- in standard reading
standard_cases : List Case
standard_cases =
    case "{a{\\*x}b}" (text "ab")
    -- cut without refusal
    ∷ case "{a{\\*{\\'zz}}b}" (refusal 4)
    -- closed by its own bracket: one that closes an inner group; one that is text. But behind an escaped backslash a bracket is one, which in
    -- plain reading is text
    ∷ case "{a{\\*{x}b}" (text "a")
    ∷ case "{a{\\*x\\}b}" (text "a")
    ∷ case "{a{\\*x\\\\}b}" (text "ab")
    -- opened by a bracket: one that is text; and behind an escaped backslash
    ∷ case "{a\\{\\*x}b}" (refusal 13)
    ∷ case "{a\\\\{\\*x}b}" (text "a\\b")
    -- passed over, both: here white space is text, so that behind it the mark is not the first. Raw line ends are nothing, and are passed
    ∷ case "{a{ \\*x}b}" (refusal 13)
    ∷ case "{a{\r\n\\*x}b}" (text "ab")
    -- the group stays, as a mark: it ends what is passed over behind a `u`
    ∷ case "{\\u8212 {\\*x}\\u65 }" (bytes (226 ∷ 128 ∷ 148 ∷ 65 ∷ []))
    ∷ case "{\\u8212 \\u65 }" (bytes (226 ∷ 128 ∷ 148 ∷ []))
    ∷ []

abbrev Heards : Reading → List Case → Type 0
Heards rd [] = Unit {0}
Heards rd (x ∷ xs) =
    (heard (said rd (bytes_of x.letter) (record {
      tokens =
          x.tokens * token_words;
      fonts = 3 * font_words;
      colours = 3 * colour_words;
      blocks = 3 * block_words;
      text = x.text;
    })) ≡ x.hears) × Heards rd xs

needs : Heards Plain cases
unfolding cases case in_rooms text bytes refusal font said letter_of shown_by bodied placed roomy body_of acts machine left owed_behind run_step owed_by moved said_of spoken gave settle written_all ◌▸▸◌ blocks blocks_from text_of walk_from extent aim_from tables_from fonts fonts_from font_token font_word stored inserted has_key font_named colours colours_from colour_token colour_word_of table_limit values step met_any met taken unit_of utf8 written effect painter_word paragraph_word character_word ending_word indent_word fitted spacing resets style_of flags_of cut_answer token_stream trimmed all_slices last located settled ended items each and_then split slices lead body any tokens escaped other word word_tail bare_length named numbered shown_word line_break_and hex_escape hex_value plain mark word_number place_in same_bytes hex_digit hex_pair digits_from digits decimal names_in bytes_at
needs =
    (refl, (refl, (refl, (refl, (refl, (refl, (refl, (refl, (refl, (refl, (refl, (refl, (refl, (refl, (refl, (refl, (refl, (refl, (refl, (refl, (refl, (refl, tt))))))))))))))))))))))

standard-needs : Heards Standard standard_cases
unfolding standard_cases case text bytes refusal said letter_of shown_by bodied placed roomy body_of acts machine left owed_behind run_step owed_by moved said_of spoken gave settle written_all ◌▸▸◌ blocks blocks_from text_of walk_from extent aim_from tables_from table_limit values standard_step taken_any taken unit_of utf8 written effect symbol_effect windows1252 painter_word paragraph_word character_word ending_word indent_word fitted spacing resets style_of flags_of cut_answer token_stream trimmed every closed_behind closing located settled ended items each and_then split_standard standard_slices lead body any standard_tokens standard_escaped standard_word standard_named standard_hex standard_value standard_break break_length number_length leads tail numbered shown_word word_number place_in same_bytes hex_digit hex_pair digits_from digits decimal names_in bytes_at
standard-needs = (refl, (refl, (refl, (refl, (refl, (refl, (refl, (refl, (refl, (refl, (refl, tt)))))))))))

-- the second letter above is of one veil with the first: only that it is not cut parts them
refused-inside : veil Plain (bytes_of "{a{\\*{\\'zz}}b}") ≡ veil Plain (bytes_of "{a{\\*x}b}")
unfolding veil pieces join mask parts part shown aim_from trimmed items and_then split slices lead body tokens escaped other word word_tail bare_length named numbered shown_word line_break_and hex_escape hex_value plain mark word_number place_in same_bytes hex_digit hex_pair digits_from digits decimal
refused-inside = refl

-- numbers and no places: what is hidden moves what comes behind it
abbrev place : Found Letter → ℕ
place (found l) = 0
place (refused r) = r.place

abbrev refused_at : String → ℕ
refused_at s = place (letter_of Plain (bytes_of s) (record { tokens = 75 * token_words; fonts = 3 * font_words; colours = 3 * colour_words; blocks = 3 * block_words; text = 16 }))

first-place : refused_at "{a{\\*x}\\fs-1}" ≡ 7
unfolding letter_of shown_by bodied placed roomy body_of acts machine left owed_behind run_step owed_by moved said_of spoken gave settle written_all ◌▸▸◌ blocks blocks_from text_of walk_from extent aim_from tables_from fonts fonts_from font_token font_word stored inserted has_key font_named colours colours_from colour_token colour_word_of table_limit values step met_any met taken unit_of utf8 written effect painter_word paragraph_word character_word ending_word indent_word fitted spacing resets style_of flags_of cut_answer token_stream trimmed all_slices last located settled ended items each and_then split slices lead body any tokens escaped other word word_tail bare_length named numbered shown_word line_break_and hex_escape hex_value plain mark word_number place_in same_bytes hex_digit hex_pair digits_from digits decimal
first-place = refl

second-place : refused_at "{a{\\*xyz}\\fs-1}" ≡ 9
unfolding letter_of shown_by bodied placed roomy body_of acts machine left owed_behind run_step owed_by moved said_of spoken gave settle written_all ◌▸▸◌ blocks blocks_from text_of walk_from extent aim_from tables_from fonts fonts_from font_token font_word stored inserted has_key font_named colours colours_from colour_token colour_word_of table_limit values step met_any met taken unit_of utf8 written effect painter_word paragraph_word character_word ending_word indent_word fitted spacing resets style_of flags_of cut_answer token_stream trimmed all_slices last located settled ended items each and_then split slices lead body any tokens escaped other word word_tail bare_length named numbered shown_word line_break_and hex_escape hex_value plain mark word_number place_in same_bytes hex_digit hex_pair digits_from digits decimal
second-place = refl

same-veil : veil Plain (bytes_of "{a{\\*x}\\fs-1}") ≡ veil Plain (bytes_of "{a{\\*xyz}\\fs-1}")
unfolding veil pieces join mask parts part shown aim_from trimmed items and_then split slices lead body tokens escaped other word word_tail bare_length named numbered shown_word line_break_and hex_escape hex_value plain mark word_number place_in same_bytes hex_digit hex_pair digits_from digits decimal
same-veil = refl

-- 02, A2: by paragraphs a backslash and a carriage return are a line break, and the walk looks past it; in plain reading they are nothing
return-before-mark : veil Paragraphs (bytes_of "{a{\\\r\\*x}b}") ≡ veil Paragraphs (bytes_of "{a{\\\r\\*yz}b}")
unfolding veil pieces join mask parts part shown aim_from trimmed items and_then split slices lead body tokens escaped other other_by word word_tail bare_length named numbered shown_word line_break_and hex_escape hex_value plain mark word_number place_in same_bytes hex_digit hex_pair digits_from digits decimal
return-before-mark = refl
