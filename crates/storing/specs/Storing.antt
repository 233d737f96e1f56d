-- 01, Stored form, and 02, A5: the writer. "The writer refuses by 24 .., then 25." Assumes nothing: these are definitions.
use Rattle.std.specs.Prelude.{ℕ, zero, suc, ◌/◌, ◌≡◌, List, Bool, true, false, cond, length, drop}
use Rattle.answers.specs.declared.Why.TheVariants.{OutputRoom, IndentNotZero}
use Rattle.answers.specs.Answers.{refusal}
use Rattle.rooms.specs.Streams.{answer}
use Rattle.rooms.specs.Rooms.{settled, content}
use Rattle.sevens.specs.Sevens.{byte_layout}
use Rattle.styles.specs.Styles.{style_at, flush}
use Rattle.blocks.specs.Pages.{block_words}
use Rattle.storing.specs.Lists.{list_stream}
use Rattle.std.specs.Prelude.{Result, Ok, Err}
use Rattle.answers.specs.declared.Refusal.{Refusal}

-- 02, A5: "26 an indent that is not zero": whether one of k records has one
unfoldable pub indented : ℕ → List ℕ → Bool
indented zero ws = false
indented (suc k) ws =
    let later = indented k (drop block_words ws) in
    cond (flush (style_at ws)) later true

-- "in the old writer after 24 and before 25"
abbrev pub unless_indented : Bool → Result ℕ Refusal → Result ℕ Refusal
unless_indented true (Ok n) = Err (refusal IndentNotZero)
unless_indented false (Ok n) = Ok n
unless_indented true (Err r) = Err r
unless_indented false (Err r) = Err r

-- 24, then 26
unfoldable pub list_answer : List ℕ → List ℕ → Result ℕ Refusal
list_answer ws tx = unless_indented (indented (length ws / block_words) ws) (answer 0 (list_stream ws tx))

-- the one answer: 24, 26, then 25
unfoldable pub write_answer : ℕ → List ℕ → List ℕ → Result ℕ Refusal
write_answer total ws tx = settled byte_layout (refusal OutputRoom) total (list_answer ws tx)

-- the one content of the room
unfoldable pub write_room : ℕ → List ℕ → List ℕ → List ℕ
write_room total ws tx = content byte_layout total (write_answer total ws tx) (list_stream ws tx)

-- What `write_list` promises of blocks, a text and a room: the one answer, and the one content of the room.
pub record WritesList (blocks text room : List ℕ) (r : Result ℕ Refusal) (room' : List ℕ) : Type 0 where
  pub answer : r ≡ write_answer (length room) blocks text
  pub content : room' ≡ write_room (length room) blocks text
