-- The numbers that specs/Promise names, computed on the letter `{a}`: its block and its text, the list that they are stored as, and
-- each room with one place too few. Assumes nothing.
use mathlib.Core.Path.{◌≡◌, refl}
use mathlib.Core.List.{List, [], ◌∷◌}
use Prim.Native.Nat.{ℕ, ◌*◌}
use Rattle.answers.specs.declared.Why.TheVariants.{NotAscii, BlockRoom, TextRoom, OutputRoom}
use Rattle.answers.specs.Answers.{refusal}
use Rattle.classes.specs.Bytes.{lead, body, any}
use Rattle.classes.specs.Texts.{bytes_of}
use Rattle.rooms.specs.Streams.{and_then, each, items, ended}
use Rattle.rooms.specs.Rooms.{table_limit, encode, settled, content}
use Rattle.slices.specs.Slices.{split, slices}
use Rattle.tokens.specs.Tokens.{token_words, shown_by}
use Rattle.tokenize.specs.Tokenize.{mark, plain, tokens}
use Rattle.cutter.specs.Cutting.{located, last, all_slices, trimmed, token_stream, cut_answer}
use Rattle.walk.specs.Walk.{aim_from, walk_from}
use Rattle.header.specs.Header.{tables_from}
use Rattle.readings.specs.declared.Reading.TheVariants.{Plain}
use Rattle.units.specs.Units.{values}
use Rattle.settings.specs.Fields.{flags_of, style_of}
use Rattle.machine.specs.Stack.{moved}
use Rattle.machine.specs.Machine.{gave, left, owed_behind, written_all, ◌▸▸◌, spoken, said, machine}
use Rattle.blocks.specs.Pages.{blocks_from, blocks, text_of, block_words, block_record, records, roomy}
use Rattle.body.specs.Body.{acts, body as body_of}
use Rattle.parser.specs.declared.Counts.{Counts}
use Rattle.parser.specs.Parsing.{Sizes, placed, bodied}
use Rattle.reader.specs.Reading.{letter_of, read_answer, block_room, text_room}
use Rattle.sevens.specs.Sevens.{groups, streamed, high, sum_from, value_of, is_long, number_of}
use Rattle.wellformed.specs.WellFormed.{behind, goes_on}
use Rattle.styles.specs.Styles.{style_at}
use Rattle.fields.specs.Fields.{folded, unfolded, by_place, in_range}
use Rattle.stored.specs.Entries.{numbers_from, ruled, entry}
use Rattle.stored.specs.Stored.{stored, stored_answer, blocks_from as list_from, placed as list_placed}
use Rattle.storing.specs.Fitting.{fits}
use Rattle.storing.specs.Bytes.{numbers_bytes, block_bytes}
use Rattle.storing.specs.Lists.{pieces_from, list_stream, bytes_of as list_bytes_of}
use Rattle.storing.specs.Storing.{indented, list_answer, write_answer, write_room}
use Rattle.previews.specs.Promise.{blocks_read, text_read}
use Rattle.std.specs.Prelude.{Ok, Err}

-- rooms for three tokens, a block and a byte
rooms : Sizes
rooms = record { tokens = 3 * token_words; fonts = 0; colours = 0; blocks = block_words; text = 1 }

counts : Counts
counts = record { tokens = 3; fonts = 0; colours = 0; blocks = 1; text = 1 }

block : List ℕ
block = 0 ∷ 0 ∷ 12 ∷ 0 ∷ 0 ∷ 0 ∷ 0 ∷ 0 ∷ 0 ∷ 0 ∷ 0 ∷ 0 ∷ 0 ∷ 0 ∷ 0 ∷ 1 ∷ []

text : List ℕ
text = 97 ∷ []

-- fourteen bytes
list : List ℕ
list = 1 ∷ 0 ∷ 0 ∷ 12 ∷ 0 ∷ 0 ∷ 0 ∷ 0 ∷ 0 ∷ 0 ∷ 0 ∷ 0 ∷ 1 ∷ 97 ∷ []

-- the letter is read; with 300 for `a`, which is no byte, it is refused by 2
reading : (read_answer Plain (bytes_of "{a}") rooms ≡ Ok counts)
    × (blocks_read Plain (bytes_of "{a}") rooms counts ≡ block)
    × (text_read Plain (bytes_of "{a}") rooms counts ≡ text)
    × (read_answer Plain (123 ∷ 300 ∷ 125 ∷ []) rooms ≡ Err (refusal NotAscii))
unfolding rooms counts block text read_answer block_room text_room letter_of shown_by bodied placed roomy body_of acts machine left owed_behind said spoken written_all gave values moved ◌▸▸◌ blocks blocks_from text_of block_record records walk_from aim_from tables_from table_limit style_of flags_of cut_answer token_stream trimmed all_slices last located settled ended items each and_then split slices lead body any tokens plain mark
reading = (refl, refl, refl, refl)

-- 25 in a room of a byte less
storing : (write_answer 14 block text ≡ Ok 14) × (write_room 14 block text ≡ list)
    × (write_answer 13 block text ≡ Err (refusal OutputRoom))
unfolding block text list write_answer list_answer indented write_room list_stream pieces_from list_bytes_of fits block_bytes numbers_bytes by_place style_at in_range folded groups streamed behind goes_on settled content encode ended and_then
storing = (refl, refl, refl)

-- 19 in a room of a word less, 20 in one of a byte less
reading-back : (stored_answer block_words 1 list ≡ Ok (record { blocks = 1; text = 1 }))
    × (stored_answer 15 1 list ≡ Err (refusal BlockRoom))
    × (stored_answer block_words 0 list ≡ Err (refusal TextRoom))
unfolding list stored_answer list_placed stored list_from entry ruled numbers_from number_of is_long value_of sum_from high in_range by_place style_at unfolded behind goes_on roomy blocks blocks_from text_of items ended
reading-back = (refl, refl, refl)
