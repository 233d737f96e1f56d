-- What the exported functions answer: 01's answers as numbers and counts, and what each function promises of them and of the rooms.
-- Assumes nothing: these are definitions.
use Rattle.std.specs.Prelude.{ℕ, ◌≡◌, List, length}
use Rattle.answers.specs.Answers.{answer_number, outcome_count, answer_place}
use Rattle.readings.specs.declared.Reading.{Reading}
use Rattle.cutter.specs.Cutting.{cut_answer, cut_room}
use Rattle.parser.specs.Parsing.{Sizes, answer_counts}
use Rattle.reader.specs.Reading.{read_answer, token_room, font_room, colour_room, block_room, text_room}
use Rattle.stored.specs.Stored.{stored_answer, stored_blocks, stored_text}
use Rattle.stored.specs.Stored.{answer_counts as restored_counts}
use Rattle.stored.specs.Checks.{checked}
use Rattle.storing.specs.Storing.{write_answer, write_room}
use Rattle.host.specs.declared.answer.CutAnswer.{CutAnswer}
use Rattle.host.specs.declared.answer.ReadAnswer.{ReadAnswer}
use Rattle.host.specs.declared.answer.StoredAnswer.{StoredAnswer}
use Rattle.host.specs.declared.answer.WriteAnswer.{WriteAnswer}
use Rattle.std.specs.Prelude.{Result}
use Rattle.parser.specs.declared.Counts.{Counts}
use Rattle.stored.specs.declared.Counts.{Counts as StoredCounts}
use Rattle.answers.specs.declared.Refusal.{Refusal}

-- "0 is success."; "Success returns counts of tokens, fonts, colours, blocks and text bytes (a writer's, the bytes written)"; "Any refusal
-- returns zero counts"; 02, A4: "Each refusal from 3 to 6 and 9 to 16 now carries the source byte place of the slice"
abbrev pub cut_of : Result ℕ Refusal → CutAnswer
cut_of o = record { refusal = answer_number o; place = answer_place o; tokens = outcome_count o }

abbrev pub read_of : Result Counts Refusal → ReadAnswer
read_of a = record {
  refusal = answer_number a;
  place = answer_place a;
  tokens = (answer_counts a).tokens;
  fonts = (answer_counts a).fonts;
  colours = (answer_counts a).colours;
  blocks = (answer_counts a).blocks;
  text = (answer_counts a).text;
}

abbrev pub stored_of : Result StoredCounts Refusal → StoredAnswer
stored_of a = record { refusal = answer_number a; blocks = (restored_counts a).blocks; text = (restored_counts a).text }

abbrev pub write_of : Result ℕ Refusal → WriteAnswer
write_of o = record { refusal = answer_number o; bytes = outcome_count o }

-- What each function promises: the one answer, and the one content of each room.
pub record CutFor (rd : Reading) (src room : List ℕ) (r : CutAnswer) (room' : List ℕ) : Type 0 where
  pub answer : r ≡ cut_of (cut_answer rd src (length room))
  pub tokens : room' ≡ cut_room rd src (length room)

pub record ReadFor (rd : Reading) (src : List ℕ) (z : Sizes) (r : ReadAnswer) (tk fs cs bs tx : List ℕ) : Type 0 where
  pub answer : r ≡ read_of (read_answer rd src z)
  pub tokens : tk ≡ token_room rd src z
  pub fonts : fs ≡ font_room rd src z
  pub colours : cs ≡ colour_room rd src z
  pub blocks : bs ≡ block_room rd src z
  pub text : tx ≡ text_room rd src z

-- "The node host, written in C, hands over a stored list and gets its refusal number"
abbrev pub CheckFor : List ℕ → ℕ → Type 0
CheckFor list r = r ≡ answer_number (checked list)

pub record StoredFor (list bs ts : List ℕ) (r : StoredAnswer) (bs' ts' : List ℕ) : Type 0 where
  pub answer : r ≡ stored_of (stored_answer (length bs) (length ts) list)
  pub blocks : bs' ≡ stored_blocks (length bs) (length ts) list
  pub text : ts' ≡ stored_text (length bs) (length ts) list

pub record WriteFor (blocks text room : List ℕ) (r : WriteAnswer) (room' : List ℕ) : Type 0 where
  pub answer : r ≡ write_of (write_answer (length room) blocks text)
  pub list : room' ≡ write_room (length room) blocks text
