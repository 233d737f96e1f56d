-- Small lists, as theorems on the definitions: each is computed through the whole of writing. Assumes nothing.
use mathlib.Core.Path.{◌≡◌, refl}
use mathlib.Core.List.{List, [], ◌∷◌, ◌++◌}
use mathlib.Core.Bool.{Bool, true, false, ◌&&◌}
use Prim.Native.Nat.{ℕ}
use lib.Dec.{eqb}
use lib.ListN.{length}
use Rattle.answers.specs.Answers.{answer_number, outcome_count}
use Rattle.rooms.specs.Streams.{and_then, ended}
use Rattle.rooms.specs.Rooms.{filled, encode, settled, content}
use Rattle.sevens.specs.Sevens.{groups, streamed}
use Rattle.wellformed.specs.WellFormed.{behind, goes_on}
use Rattle.fields.specs.Fields.{folded, by_place, in_range}
use Rattle.styles.specs.Styles.{style_at}
use Rattle.storing.specs.Fitting.{fits}
use Rattle.storing.specs.Bytes.{numbers_bytes, block_bytes}
use Rattle.storing.specs.Lists.{pieces_from, bytes_of, list_stream}
use Rattle.storing.specs.Storing.{indented, list_answer, write_answer, write_room}

-- words and a text, a room's bytes, the answer's number, and the list; the count is its length, and the room's rest is zero
record Case : Type 0 where
  words : List ℕ
  text : List ℕ
  room : ℕ
  number : ℕ
  list : List ℕ

written : List ℕ → List ℕ → ℕ → List ℕ → Case
written ws tx n bs = record { words = ws; text = tx; room = n; number = 0; list = bs }

refused : List ℕ → List ℕ → ℕ → ℕ → Case
refused ws tx n k = record { words = ws; text = tx; room = n; number = k; list = [] }

-- a record of a size, a tab, a first line's indent, a place and a length; all else zero
indent : ℕ → ℕ → ℕ → ℕ → ℕ → List ℕ
indent size tab first place count = 0 ∷ 0 ∷ size ∷ 0 ∷ 0 ∷ 0 ∷ 0 ∷ 0 ∷ 0 ∷ 0 ∷ tab ∷ 0 ∷ 0 ∷ first ∷ place ∷ count ∷ []

row : ℕ → ℕ → ℕ → ℕ → List ℕ
row size tab place count = indent size tab 0 place count

cases : List Case
cases =
    -- no blocks; one of text `a`; two, with zeros behind
    written [] [] 1 (0 ∷ [])
    ∷ written (row 12 0 0 1) (97 ∷ []) 14 (1 ∷ 0 ∷ 0 ∷ 12 ∷ 0 ∷ 0 ∷ 0 ∷ 0 ∷ 0 ∷ 0 ∷ 0 ∷ 0 ∷ 1 ∷ 97 ∷ [])
    ∷ written (row 12 0 0 1 ++ row 24 0 1 2) (97 ∷ 195 ∷ 169 ∷ []) 30
    (2 ∷ 0 ∷ 0 ∷ 12 ∷ 0 ∷ 0 ∷ 0 ∷ 0 ∷ 0 ∷ 0 ∷ 0 ∷ 0 ∷ 1 ∷ 97
    ∷ 0 ∷ 0 ∷ 24 ∷ 0 ∷ 0 ∷ 0 ∷ 0 ∷ 0 ∷ 0 ∷ 0 ∷ 0 ∷ 2 ∷ 195 ∷ 169 ∷ [])
    -- a tab of -1 is folded to 1, and one of 64 to 128, which has two bytes
    ∷ written (row 12 4294967295 0 1) (97 ∷ []) 14 (1 ∷ 0 ∷ 0 ∷ 12 ∷ 0 ∷ 0 ∷ 0 ∷ 0 ∷ 0 ∷ 0 ∷ 0 ∷ 1 ∷ 1 ∷ 97 ∷ [])
    ∷ written (row 12 64 0 1) (97 ∷ []) 15 (1 ∷ 0 ∷ 0 ∷ 12 ∷ 0 ∷ 0 ∷ 0 ∷ 0 ∷ 0 ∷ 0 ∷ 0 ∷ 128 ∷ 1 ∷ 1 ∷ 97 ∷ [])
    -- 24: fifteen words; an empty text; a text that goes on, with a block and without; two blocks of one style
    ∷ refused (0 ∷ 0 ∷ 12 ∷ 0 ∷ 0 ∷ 0 ∷ 0 ∷ 0 ∷ 0 ∷ 0 ∷ 0 ∷ 0 ∷ 0 ∷ 0 ∷ 0 ∷ []) [] 2 24
    ∷ refused (row 12 0 0 0) [] 2 24
    ∷ refused (row 12 0 0 1) (97 ∷ 98 ∷ []) 30 24
    ∷ refused [] (97 ∷ []) 2 24
    ∷ refused (row 12 0 0 1 ++ row 12 0 1 1) (97 ∷ 98 ∷ []) 30 24
    -- a text that does not start at 0, or ends early; half a character; a size too large
    ∷ refused (row 12 0 1 1) (97 ∷ 98 ∷ []) 30 24
    ∷ refused (row 12 0 0 2) (97 ∷ []) 30 24
    ∷ refused (row 12 0 0 1 ++ row 24 0 1 1) (195 ∷ 169 ∷ []) 30 24
    ∷ refused (row 65536 0 0 1) (97 ∷ []) 30 24
    -- 25: a room of one byte less; 24 comes before it
    ∷ refused [] [] 0 25
    ∷ refused (row 12 0 0 1) (97 ∷ []) 13 25
    ∷ refused (row 12 0 0 1) (97 ∷ 98 ∷ []) 13 24
    ∷ refused (row 12 0 0 1) (97 ∷ 98 ∷ []) 0 24
    -- 26: an indent, of blocks that differ in it alone too; 24 of a later block comes before it, and it before 25
    ∷ refused (indent 12 0 1 0 1) (97 ∷ []) 30 26
    ∷ refused (row 12 0 0 1 ++ indent 12 0 4294967295 1 1) (97 ∷ 98 ∷ []) 30 26
    ∷ refused (indent 12 0 1 0 1 ++ row 65536 0 1 1) (97 ∷ 98 ∷ []) 30 24
    ∷ refused (indent 12 0 1 0 1) (97 ∷ []) 0 26 ∷ []

same_bytes : List ℕ → List ℕ → Bool
same_bytes [] [] = true
same_bytes [] (y ∷ ys) = false
same_bytes (x ∷ xs) [] = false
same_bytes (x ∷ xs) (y ∷ ys) = eqb x y && same_bytes xs ys

right : Case → Bool
right c =
    let o = write_answer c.room c.words c.text in
    (eqb (answer_number o) c.number && eqb (outcome_count o) (length c.list))
    && same_bytes (write_room c.room c.words c.text) (filled c.room c.list)

every : List Case → Bool
every [] = true
every (c ∷ cs) = right c && every cs

cases-right : every cases ≡ true
unfolding cases written refused indent row right every same_bytes and_then ended encode settled content groups streamed behind goes_on folded in_range by_place style_at numbers_bytes block_bytes fits pieces_from bytes_of list_stream indented list_answer write_answer write_room
cases-right = refl
