-- The letters of specs/Letters, each list under one statement: each letter is computed through the whole of the definitions. Assumes nothing.
use mathlib.Core.Path.{◌≡◌, refl}
use mathlib.Core.List.{List, [], ◌∷◌}
use mathlib.Core.Bool.{Bool, true, ◌&&◌}
use Prim.Native.Nat.{◌*◌}
use lib.ListN.{length}
use lib.Dec.{eqb}
use Rattle.answers.specs.Answers.{Found, found, refused, answer_number, answer_place}
use Rattle.classes.specs.Bytes.{lead, body, any}
use Rattle.classes.specs.Texts.{bytes_of}
use Rattle.names.specs.Names.{same_bytes, place_in, word_number}
use Rattle.numbers.specs.Numbers.{hex_digit, hex_pair, digits_from, digits, decimal}
use Rattle.rooms.specs.Streams.{and_then, each, items, ended}
use Rattle.rooms.specs.Rooms.{settled, table_limit}
use Rattle.slices.specs.Slices.{split, slices, with_feeds}
use Rattle.tokens.specs.Tokens.{record_of, shown_by, token_words}
use Rattle.controls.specs.Controls.{shown_word, numbered}
use Rattle.tokenize.specs.Tokenize.{other_by, mark, plain, hex_value, hex_escape, line_break_and, named, bare_length, word_tail, word, other, escaped, tokens}
use Rattle.cutter.specs.Cutting.{located, last, all_slices, trimmed, token_stream, cut_answer}
use Rattle.utf8.specs.Utf8.{utf8, written}
use Rattle.units.specs.Units.{unit_of, taken, met, met_any, step, values}
use Rattle.machine.specs.Stack.{moved}
use Rattle.machine.specs.Machine.{gave, left, owed_behind, written_all, ◌▸▸◌, settle, spoken, said, machine}
use Rattle.walk.specs.Walk.{aim_from, extent, table_word, walk_from}
use Rattle.fonts.specs.Rows.{font_record, table_words, has_key, inserted, stored, font_words}
use Rattle.fonts.specs.Fonts.{named as font_named, font_word, font_token, fonts_from, fonts}
use Rattle.colours.specs.Colours.{colour_word_of, colour_token, colours_from, colours, colour_words}
use Rattle.header.specs.Header.{tables_from}
use Rattle.readings.specs.declared.Reading.{Reading}
use Rattle.readings.specs.declared.Reading.TheVariants.{Plain, Paragraphs}
use Rattle.settings.specs.Fields.{resets, flags_of, style_of}
use Rattle.settings.specs.Effects.{fitted, spacing, painter_word, paragraph_word, character_word, ending_word, indent_word, effect}
use Rattle.blocks.specs.Pages.{block_record, blocks_from, blocks, text_of, records, roomy, block_words}
use Rattle.runs.specs.Runs.{step_by, owed_by}
use Rattle.body.specs.Body.{acts, body as body_of}
use Rattle.parser.specs.Parsing.{Sizes, Letter, placed, bodied}
use Rattle.reader.specs.Reading.{letter_of, answered, read_answer, block_room, text_room}
use Rattle.samples.specs.Letters.{Sample, samples, telling, crowded, cramped, refusing, placing, placeless, unread, unwritten, listed, listed_counts, listed_blocks, listed_text, indents, indented_blocks, flush_blocks}
use Rattle.std.specs.Prelude.{Ok}

-- rooms enough for each
unfoldable pub room : Sizes
room = record { tokens = 72 * token_words; fonts = 3 * font_words; colours = 3 * colour_words; blocks = 3 * block_words; text = 16 }

-- what a letter gives is what the sample says
unfoldable pub says : Sample → Found Letter → Bool
says s (found l) =
    eqb 0 s.number && (eqb 0 s.place && (same_bytes (text_of l.pieces) s.text && (same_bytes (table_words l.tables.fonts) s.fonts && eqb (length (blocks l.pieces)) s.blocks)))
says s (refused r) = eqb (answer_number (answered Plain [] (refused r))) s.number && eqb (answer_place (answered Plain [] (refused r))) s.place

unfoldable pub holds : Reading → Sizes → List Sample → Bool
holds rd z [] = true
holds rd z (s ∷ ss) = says s (letter_of rd (bytes_of s.letter) z) && holds rd z ss

sample-letters : holds Plain room samples ≡ true
unfolding holds says samples room letter_of shown_by bodied placed roomy body_of acts machine left owed_behind moved said spoken gave settle written_all ◌▸▸◌ blocks blocks_from text_of records table_words font_record walk_from extent table_word aim_from tables_from fonts fonts_from font_token font_word stored inserted has_key font_named colours colours_from colour_token colour_word_of table_limit values step_by owed_by step met_any met taken unit_of utf8 written effect painter_word paragraph_word character_word ending_word indent_word fitted spacing resets style_of flags_of cut_answer token_stream trimmed all_slices last located settled ended items each and_then split slices with_feeds lead body any tokens escaped other other_by word word_tail bare_length named numbered shown_word line_break_and hex_escape hex_value plain mark word_number place_in same_bytes hex_digit hex_pair digits_from digits decimal record_of
sample-letters = refl

telling-letters : holds Plain room telling ≡ true
unfolding holds says telling room letter_of shown_by bodied placed roomy body_of acts machine left owed_behind moved said spoken gave settle written_all ◌▸▸◌ blocks blocks_from text_of records table_words font_record walk_from extent table_word aim_from tables_from fonts fonts_from font_token font_word stored inserted has_key font_named colours colours_from colour_token colour_word_of table_limit values step_by owed_by step met_any met taken unit_of utf8 written effect painter_word paragraph_word character_word ending_word indent_word fitted spacing resets style_of flags_of cut_answer token_stream trimmed all_slices last located settled ended items each and_then split slices with_feeds lead body any tokens escaped other other_by word word_tail bare_length named numbered shown_word line_break_and hex_escape hex_value plain mark word_number place_in same_bytes hex_digit hex_pair digits_from digits decimal record_of
telling-letters = refl

-- no room, and room for tokens alone
nowhere : Sizes
nowhere = record { tokens = 0; fonts = 0; colours = 0; blocks = 0; text = 0 }

tokens-alone : Sizes
tokens-alone = record { tokens = 16 * token_words; fonts = 0; colours = 0; blocks = 0; text = 0 }

crowded-letters : holds Plain nowhere crowded ≡ true
unfolding holds says crowded nowhere letter_of shown_by bodied placed roomy body_of acts machine left owed_behind moved said spoken gave settle written_all ◌▸▸◌ blocks blocks_from text_of records table_words font_record walk_from extent table_word aim_from tables_from fonts fonts_from font_token font_word stored inserted has_key font_named colours colours_from colour_token colour_word_of table_limit values step_by owed_by step met_any met taken unit_of utf8 written effect painter_word paragraph_word character_word ending_word indent_word fitted spacing resets style_of flags_of cut_answer token_stream trimmed all_slices last located settled ended items each and_then split slices with_feeds lead body any tokens escaped other other_by word word_tail bare_length named numbered shown_word line_break_and hex_escape hex_value plain mark word_number place_in same_bytes hex_digit hex_pair digits_from digits decimal record_of
crowded-letters = refl

cramped-letters : holds Plain tokens-alone cramped ≡ true
unfolding holds says cramped tokens-alone letter_of shown_by bodied placed roomy body_of acts machine left owed_behind moved said spoken gave settle written_all ◌▸▸◌ blocks blocks_from text_of records table_words font_record walk_from extent table_word aim_from tables_from fonts fonts_from font_token font_word stored inserted has_key font_named colours colours_from colour_token colour_word_of table_limit values step_by owed_by step met_any met taken unit_of utf8 written effect painter_word paragraph_word character_word ending_word indent_word fitted spacing resets style_of flags_of cut_answer token_stream trimmed all_slices last located settled ended items each and_then split slices with_feeds lead body any tokens escaped other other_by word word_tail bare_length named numbered shown_word line_break_and hex_escape hex_value plain mark word_number place_in same_bytes hex_digit hex_pair digits_from digits decimal record_of
cramped-letters = refl

-- refusals with a place, and without
placing-letters : holds Plain room placing ≡ true
unfolding holds says placing refusing room letter_of shown_by bodied placed roomy body_of acts machine left owed_behind moved said spoken gave settle written_all ◌▸▸◌ blocks blocks_from text_of records table_words font_record walk_from extent table_word aim_from tables_from fonts fonts_from font_token font_word stored inserted has_key font_named colours colours_from colour_token colour_word_of table_limit values step_by owed_by step met_any met taken unit_of utf8 written effect painter_word paragraph_word character_word ending_word indent_word fitted spacing resets style_of flags_of cut_answer token_stream trimmed all_slices last located settled ended items each and_then split slices with_feeds lead body any tokens escaped other other_by word word_tail bare_length named numbered shown_word line_break_and hex_escape hex_value plain mark word_number place_in same_bytes hex_digit hex_pair digits_from digits decimal record_of
placing-letters = refl

placeless-letters : holds Plain nowhere placeless ≡ true
unfolding holds says placeless refusing nowhere letter_of shown_by bodied placed roomy body_of acts machine left owed_behind moved said spoken gave settle written_all ◌▸▸◌ blocks blocks_from text_of records table_words font_record walk_from extent table_word aim_from tables_from fonts fonts_from font_token font_word stored inserted has_key font_named colours colours_from colour_token colour_word_of table_limit values step_by owed_by step met_any met taken unit_of utf8 written effect painter_word paragraph_word character_word ending_word indent_word fitted spacing resets style_of flags_of cut_answer token_stream trimmed all_slices last located settled ended items each and_then split slices with_feeds lead body any tokens escaped other other_by word word_tail bare_length named numbered shown_word line_break_and hex_escape hex_value plain mark word_number place_in same_bytes hex_digit hex_pair digits_from digits decimal record_of
placeless-letters = refl

unread-letters : holds Plain tokens-alone unread ≡ true
unfolding holds says unread refusing tokens-alone letter_of shown_by bodied placed roomy body_of acts machine left owed_behind moved said spoken gave settle written_all ◌▸▸◌ blocks blocks_from text_of records table_words font_record walk_from extent table_word aim_from tables_from fonts fonts_from font_token font_word stored inserted has_key font_named colours colours_from colour_token colour_word_of table_limit values step_by owed_by step met_any met taken unit_of utf8 written effect painter_word paragraph_word character_word ending_word indent_word fitted spacing resets style_of flags_of cut_answer token_stream trimmed all_slices last located settled ended items each and_then split slices with_feeds lead body any tokens escaped other other_by word word_tail bare_length named numbered shown_word line_break_and hex_escape hex_value plain mark word_number place_in same_bytes hex_digit hex_pair digits_from digits decimal record_of
unread-letters = refl

-- room for all but text
textless : Sizes
textless = record { tokens = 16 * token_words; fonts = 0; colours = 0; blocks = 3 * block_words; text = 0 }

unwritten-letters : holds Plain textless unwritten ≡ true
unfolding holds says unwritten refusing textless letter_of shown_by bodied placed roomy body_of acts machine left owed_behind moved said spoken gave settle written_all ◌▸▸◌ blocks blocks_from text_of records table_words font_record walk_from extent table_word aim_from tables_from fonts fonts_from font_token font_word stored inserted has_key font_named colours colours_from colour_token colour_word_of table_limit values step_by owed_by step met_any met taken unit_of utf8 written effect painter_word paragraph_word character_word ending_word indent_word fitted spacing resets style_of flags_of cut_answer token_stream trimmed all_slices last located settled ended items each and_then split slices with_feeds lead body any tokens escaped other other_by word word_tail bare_length named numbered shown_word line_break_and hex_escape hex_value plain mark word_number place_in same_bytes hex_digit hex_pair digits_from digits decimal record_of
unwritten-letters = refl

-- the sample listing, in rooms that its records fill
just : Sizes
just = record { tokens = 6 * token_words; fonts = 0; colours = 0; blocks = 2 * block_words; text = 2 }

listing-answer : read_answer Plain (bytes_of listed) just ≡ Ok listed_counts
unfolding read_answer listed listed_counts just letter_of shown_by bodied placed roomy body_of acts machine left owed_behind moved said spoken gave settle written_all ◌▸▸◌ blocks blocks_from text_of records table_words font_record walk_from extent table_word aim_from tables_from fonts fonts_from font_token font_word stored inserted has_key font_named colours colours_from colour_token colour_word_of table_limit values step_by owed_by step met_any met taken unit_of utf8 written effect painter_word paragraph_word character_word ending_word indent_word fitted spacing resets style_of flags_of cut_answer token_stream trimmed all_slices last located settled ended items each and_then split slices with_feeds lead body any tokens escaped other other_by word word_tail bare_length named numbered shown_word line_break_and hex_escape hex_value plain mark word_number place_in same_bytes hex_digit hex_pair digits_from digits decimal record_of
listing-answer = refl

listing-blocks : block_room Plain (bytes_of listed) just ≡ listed_blocks
unfolding block_room block_record listed listed_blocks just letter_of shown_by bodied placed roomy body_of acts machine left owed_behind moved said spoken gave settle written_all ◌▸▸◌ blocks blocks_from text_of records table_words font_record walk_from extent table_word aim_from tables_from fonts fonts_from font_token font_word stored inserted has_key font_named colours colours_from colour_token colour_word_of table_limit values step_by owed_by step met_any met taken unit_of utf8 written effect painter_word paragraph_word character_word ending_word indent_word fitted spacing resets style_of flags_of cut_answer token_stream trimmed all_slices last located settled ended items each and_then split slices with_feeds lead body any tokens escaped other other_by word word_tail bare_length named numbered shown_word line_break_and hex_escape hex_value plain mark word_number place_in same_bytes hex_digit hex_pair digits_from digits decimal record_of
listing-blocks = refl

listing-text : text_room Plain (bytes_of listed) just ≡ listed_text
unfolding text_room listed listed_text just letter_of shown_by bodied placed roomy body_of acts machine left owed_behind moved said spoken gave settle written_all ◌▸▸◌ blocks blocks_from text_of records table_words font_record walk_from extent table_word aim_from tables_from fonts fonts_from font_token font_word stored inserted has_key font_named colours colours_from colour_token colour_word_of table_limit values step_by owed_by step met_any met taken unit_of utf8 written effect painter_word paragraph_word character_word ending_word indent_word fitted spacing resets style_of flags_of cut_answer token_stream trimmed all_slices last located settled ended items each and_then split slices with_feeds lead body any tokens escaped other other_by word word_tail bare_length named numbered shown_word line_break_and hex_escape hex_value plain mark word_number place_in same_bytes hex_digit hex_pair digits_from digits decimal record_of
listing-text = refl

-- 02's indents, in rooms that the blocks fill
quoted : Sizes
quoted = record { tokens = 12 * token_words; fonts = 0; colours = 0; blocks = 3 * block_words; text = 3 }

unquoted : Sizes
unquoted = record { tokens = 12 * token_words; fonts = 0; colours = 0; blocks = block_words; text = 3 }

by-paragraphs : block_room Paragraphs (bytes_of indents) quoted ≡ indented_blocks
unfolding block_room block_record indents indented_blocks quoted letter_of shown_by bodied placed roomy body_of acts machine left owed_behind moved said spoken gave settle written_all ◌▸▸◌ blocks blocks_from text_of records table_words font_record walk_from extent table_word aim_from tables_from fonts fonts_from font_token font_word stored inserted has_key font_named colours colours_from colour_token colour_word_of table_limit values step_by owed_by step met_any met taken unit_of utf8 written effect painter_word paragraph_word character_word ending_word indent_word fitted spacing resets style_of flags_of cut_answer token_stream trimmed all_slices last located settled ended items each and_then split slices with_feeds lead body any tokens escaped other other_by word word_tail bare_length named numbered shown_word line_break_and hex_escape hex_value plain mark word_number place_in same_bytes hex_digit hex_pair digits_from digits decimal record_of
by-paragraphs = refl

by-plain : block_room Plain (bytes_of indents) unquoted ≡ flush_blocks
unfolding block_room block_record indents flush_blocks unquoted letter_of shown_by bodied placed roomy body_of acts machine left owed_behind moved said spoken gave settle written_all ◌▸▸◌ blocks blocks_from text_of records table_words font_record walk_from extent table_word aim_from tables_from fonts fonts_from font_token font_word stored inserted has_key font_named colours colours_from colour_token colour_word_of table_limit values step_by owed_by step met_any met taken unit_of utf8 written effect painter_word paragraph_word character_word ending_word indent_word fitted spacing resets style_of flags_of cut_answer token_stream trimmed all_slices last located settled ended items each and_then split slices with_feeds lead body any tokens escaped other other_by word word_tail bare_length named numbered shown_word line_break_and hex_escape hex_value plain mark word_number place_in same_bytes hex_digit hex_pair digits_from digits decimal record_of
by-plain = refl
