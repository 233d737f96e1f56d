-- What a listed answer is, as bytes, and when an answer of ours is the same. Assumes nothing: these are definitions.
use Rattle.std.specs.Prelude.{ℕ, ◌+◌, ◌*◌, ◌<◌, ◌≤◌, ◌≡◌, List, length, get_or, Option, None, Result, IfOk}
use Rattle.answers.specs.Answers.{answer_number, answer_place, outcome_count}
use Rattle.replay.specs.declared.list.Answer.{Answer}
use Rattle.replay.specs.declared.list.End.{End}
use Rattle.replay.specs.declared.judge.Difference.{Difference}
use Rattle.std.specs.Prelude.{Result}
use Rattle.answers.specs.declared.Refusal.{Refusal}

-- four bytes, little endian, with zeros behind the end
unfoldable pub word_at : List ℕ → ℕ → ℕ
word_at s at = (get_or s at 0 + 256 * get_or s (at + 1) 0) + 65536 * (get_or s (at + 2) 0 + 256 * get_or s (at + 3) 0)

-- the words before the letter: its length, the room's, the refusal, its place, the count of tokens
abbrev pub head_bytes : ℕ
head_bytes = 20

-- an answer whose parts stand one behind the other within a list of so many bytes
pub record Whole (bytes : ℕ) (a : Answer) : Type 0 where
  pub room : a.room ≤ 600
  pub letter : head_bytes ≤ a.records
  pub records : a.records ≤ a.end
  pub end : a.end ≤ bytes

-- what was found at the front, if no end of the list
abbrev pub FrontWhole : ℕ → Result Answer End → Type 0
FrontWhole bytes found = IfOk found (λ a. Whole bytes a)

-- an outcome and a room as they are listed: behind the records the room is zero
pub record Agrees (o : Result ℕ Refusal) (room : List ℕ) (a : Answer) (records : List ℕ) : Type 0 where
  pub number : answer_number o ≡ a.refusal
  pub place : answer_place o ≡ a.place
  pub count : outcome_count o ≡ a.tokens
  pub words : (k : ℕ) → k < length room → get_or room k 0 ≡ word_at records (4 * k)

-- the first word of a room that is not as it is listed
pub record FirstUnlike (room records : List ℕ) (at : ℕ) : Type 0 where
  pub within : at < length room
  pub before : (k : ℕ) → k < at → get_or room k 0 ≡ word_at records (4 * k)
  pub unlike : get_or room at 0 ≡ word_at records (4 * at) → ⊥

-- no difference is said if and only if there is none
pub record Judged (o : Result ℕ Refusal) (room : List ℕ) (a : Answer) (records : List ℕ) (said : Option Difference) : Type 0 where
  pub sound : said ≡ None → Agrees o room a records
  pub complete : Agrees o room a records → said ≡ None
