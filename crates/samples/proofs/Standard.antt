-- The letters of specs/Standard, each list under one statement: each letter is computed through the whole of the definitions. Assumes nothing.
use mathlib.Core.Path.{◌≡◌, refl}
use mathlib.Core.List.{List, [], ◌∷◌}
use mathlib.Core.Bool.{Bool, true, false, ◌&&◌}
use Prim.Native.Nat.{ℕ}
use Rattle.answers.specs.Answers.{Found, found, refused}
use Rattle.classes.specs.Bytes.{lead, body, any}
use Rattle.classes.specs.Texts.{bytes_of}
use Rattle.names.specs.Names.{same_bytes, place_in, word_number}
use Rattle.numbers.specs.Numbers.{hex_digit, hex_pair, digits_from, digits, decimal}
use Rattle.rooms.specs.Streams.{and_then, each, items, ended}
use Rattle.rooms.specs.Rooms.{settled, table_limit}
use Rattle.slices.specs.Slices.{split_standard, standard_slices}
use Rattle.tokens.specs.Tokens.{record_of, shown_by}
use Rattle.controls.specs.Controls.{shown_word, numbered}
use Rattle.standard.specs.Standard.{leads, tail, number_length, named, word, hex_value, hex_escape, break_length, line_break_and, escaped, tokens}
use Rattle.cutter.specs.Cutting.{located, every, closed_behind, closing, trimmed, token_stream, cut_answer}
use Rattle.utf8.specs.Utf8.{utf8, written}
use Rattle.windows.specs.Windows.{own, windows1252}
use Rattle.units.specs.Units.{unit_of, taken, taken_any, standard_step, values}
use Rattle.machine.specs.Stack.{moved}
use Rattle.machine.specs.Machine.{gave, left, owed_behind, written_all, ◌▸▸◌, settle, spoken, said, machine}
use Rattle.walk.specs.Walk.{aim_from, extent, walk_from}
use Rattle.fonts.specs.Rows.{table_words}
use Rattle.header.specs.Header.{tables_from}
use Rattle.readings.specs.declared.Reading.TheVariants.{Standard}
use Rattle.settings.specs.Fields.{flags_of, style_of}
use Rattle.settings.specs.Effects.{fitted, painter_word, paragraph_word, character_word, ending_word, indent_word, effect}
use Rattle.blocks.specs.Pages.{block_record, blocks_from, blocks, text_of, records, roomy}
use Rattle.runs.specs.Runs.{step_by, owed_by}
use Rattle.deeds.specs.Deeds.{symbol_effect}
use Rattle.body.specs.Body.{acts, body as body_of}
use Rattle.parser.specs.Parsing.{Letter, placed, bodied}
use Rattle.reader.specs.Reading.{letter_of}
use Rattle.samples.specs.Letters.{refusing}
use Rattle.samples.specs.Standard.{giving, words, symbols, skipping, refusals, Styled, styled}
use Rattle.samples.proofs.Letters.{room, says, holds}

word-letters : holds Standard room words ≡ true
unfolding holds says words giving room letter_of shown_by bodied placed roomy body_of acts machine left owed_behind moved said spoken gave settle written_all ◌▸▸◌ blocks blocks_from text_of records table_words walk_from extent aim_from tables_from table_limit values step_by owed_by standard_step taken_any taken unit_of utf8 written windows1252 own symbol_effect effect painter_word paragraph_word character_word ending_word indent_word fitted style_of flags_of cut_answer token_stream trimmed every closing closed_behind located settled ended items each and_then split_standard standard_slices lead body any tokens escaped word named number_length leads tail break_length line_break_and hex_escape hex_value numbered shown_word word_number place_in same_bytes hex_digit hex_pair digits_from digits decimal record_of
word-letters = refl

symbol-letters : holds Standard room symbols ≡ true
unfolding holds says symbols giving room letter_of shown_by bodied placed roomy body_of acts machine left owed_behind moved said spoken gave settle written_all ◌▸▸◌ blocks blocks_from text_of records table_words walk_from extent aim_from tables_from table_limit values step_by owed_by standard_step taken_any taken unit_of utf8 written windows1252 own symbol_effect effect painter_word paragraph_word character_word ending_word indent_word fitted style_of flags_of cut_answer token_stream trimmed every closing closed_behind located settled ended items each and_then split_standard standard_slices lead body any tokens escaped word named number_length leads tail break_length line_break_and hex_escape hex_value numbered shown_word word_number place_in same_bytes hex_digit hex_pair digits_from digits decimal record_of
symbol-letters = refl

skipping-letters : holds Standard room skipping ≡ true
unfolding holds says skipping giving room letter_of shown_by bodied placed roomy body_of acts machine left owed_behind moved said spoken gave settle written_all ◌▸▸◌ blocks blocks_from text_of records table_words walk_from extent aim_from tables_from table_limit values step_by owed_by standard_step taken_any taken unit_of utf8 written windows1252 own symbol_effect effect painter_word paragraph_word character_word ending_word indent_word fitted style_of flags_of cut_answer token_stream trimmed every closing closed_behind located settled ended items each and_then split_standard standard_slices lead body any tokens escaped word named number_length leads tail break_length line_break_and hex_escape hex_value numbered shown_word word_number place_in same_bytes hex_digit hex_pair digits_from digits decimal record_of
skipping-letters = refl

refused-letters : holds Standard room refusals ≡ true
unfolding holds says refusals refusing room letter_of shown_by bodied placed roomy body_of acts machine left owed_behind moved said spoken gave settle written_all ◌▸▸◌ blocks blocks_from text_of records table_words walk_from extent aim_from tables_from table_limit values step_by owed_by standard_step taken_any taken unit_of utf8 written windows1252 own symbol_effect effect painter_word paragraph_word character_word ending_word indent_word fitted style_of flags_of cut_answer token_stream trimmed every closing closed_behind located settled ended items each and_then split_standard standard_slices lead body any tokens escaped word named number_length leads tail break_length line_break_and hex_escape hex_value numbered shown_word word_number place_in same_bytes hex_digit hex_pair digits_from digits decimal record_of
refused-letters = refl

-- the words of blocks
written_as : List ℕ → Found Letter → Bool
written_as ws (found l) = same_bytes (records 0 (blocks l.pieces)) ws
written_as ws (refused r) = false

shows : List Styled → Bool
shows [] = true
shows (s ∷ ss) = written_as s.words (letter_of Standard (bytes_of s.letter) room) && shows ss

styled-letters : shows styled ≡ true
unfolding shows written_as styled block_record room letter_of shown_by bodied placed roomy body_of acts machine left owed_behind moved said spoken gave settle written_all ◌▸▸◌ blocks blocks_from text_of records table_words walk_from extent aim_from tables_from table_limit values step_by owed_by standard_step taken_any taken unit_of utf8 written windows1252 own symbol_effect effect painter_word paragraph_word character_word ending_word indent_word fitted style_of flags_of cut_answer token_stream trimmed every closing closed_behind located settled ended items each and_then split_standard standard_slices lead body any tokens escaped word named number_length leads tail break_length line_break_and hex_escape hex_value numbered shown_word word_number place_in same_bytes hex_digit hex_pair digits_from digits decimal record_of
styled-letters = refl
