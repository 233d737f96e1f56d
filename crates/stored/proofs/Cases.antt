-- Telling lists, as theorems on the definitions: each is computed through the whole of reading and of the check.
-- Assumes nothing.
use mathlib.Core.Path.{◌≡◌, refl}
use mathlib.Core.List.{List, [], ◌∷◌}
use mathlib.Core.Bool.{Bool, true, false, cond, ◌&&◌}
use Prim.Native.Nat.{ℕ}
use lib.Dec.{eqb}
use Rattle.answers.specs.Answers.{answer_number}
use Rattle.rooms.specs.Streams.{items, ended}
use Rattle.sevens.specs.Sevens.{high, sum_from, value_of, is_long, number_of}
use Rattle.wellformed.specs.WellFormed.{behind, goes_on}
use Rattle.fields.specs.Fields.{unfolded, by_place, in_range}
use Rattle.styles.specs.Styles.{style_at}
use Rattle.blocks.specs.Pages.{blocks, text_of, block_record, records, roomy, blocks_from as joined_from}
use Rattle.stored.specs.Entries.{numbers_from, ruled, entry}
use Rattle.stored.specs.Stored.{blocks_from, stored, placed, stored_answer, stored_blocks, stored_text}
use Rattle.stored.specs.Checks.{checked}

-- a list, the words of a block room and the bytes of a text room, the answer's number, what the rooms hold, the check's number
record Case : Type 0 where
  list : List ℕ
  blocks : ℕ
  text : ℕ
  number : ℕ
  holds : List ℕ
  says : List ℕ
  checks : ℕ

refuses : List ℕ → ℕ → ℕ → ℕ → ℕ → Case
refuses s b t n c = record { list = s; blocks = b; text = t; number = n; holds = []; says = []; checks = c }

cases : List Case
cases =
    -- no blocks; the smallest list of each refusal
    record { list = 0 ∷ []; blocks = 1; text = 1; number = 0; holds = 0 ∷ []; says = 0 ∷ []; checks = 0 }
    ∷ refuses [] 16 1 22 22
    ∷ refuses (128 ∷ 0 ∷ []) 16 1 21 21
    ∷ refuses (0 ∷ 0 ∷ []) 16 1 23 23
    ∷ refuses (1 ∷ 0 ∷ 0 ∷ 0 ∷ 0 ∷ 0 ∷ 0 ∷ 0 ∷ 0 ∷ 0 ∷ 0 ∷ 0 ∷ 0 ∷ []) 16 1 24 24
    -- a block of one byte, in rooms of its size and of one less
    ∷ record {
      list = 1 ∷ 0 ∷ 0 ∷ 12 ∷ 0 ∷ 0 ∷ 0 ∷ 0 ∷ 0 ∷ 0 ∷ 0 ∷ 0 ∷ 1 ∷ 97 ∷ [];
      blocks = 17;
      text = 2;
      number = 0;
      holds = 0 ∷ 0 ∷ 12 ∷ 0 ∷ 0 ∷ 0 ∷ 0 ∷ 0 ∷ 0 ∷ 0 ∷ 0 ∷ 0 ∷ 0 ∷ 0 ∷ 0 ∷ 1 ∷ 0 ∷ [];
      says = 97 ∷ 0 ∷ [];
      checks = 0;
    }
    ∷ refuses (1 ∷ 0 ∷ 0 ∷ 12 ∷ 0 ∷ 0 ∷ 0 ∷ 0 ∷ 0 ∷ 0 ∷ 0 ∷ 0 ∷ 1 ∷ 97 ∷ []) 15 1 19 0
    ∷ refuses (1 ∷ 0 ∷ 0 ∷ 12 ∷ 0 ∷ 0 ∷ 0 ∷ 0 ∷ 0 ∷ 0 ∷ 0 ∷ 0 ∷ 1 ∷ 97 ∷ []) 16 0 20 0
    -- folded numbers: before is -2,147,483,648, after -1, multiplier 2,147,483,647, tab 1
    ∷ record {
      list = 1 ∷ 0 ∷ 0 ∷ 12 ∷ 0 ∷ 0 ∷ 255 ∷ 255 ∷ 255 ∷ 255 ∷ 15 ∷ 1 ∷ 0 ∷ 0 ∷ 254 ∷ 255 ∷ 255 ∷ 255 ∷ 15 ∷ 2 ∷ 1 ∷ 97 ∷ [];
      blocks = 16;
      text = 1;
      number = 0;
      holds = 0 ∷ 0 ∷ 12 ∷ 0 ∷ 0 ∷ 2147483648 ∷ 4294967295 ∷ 0 ∷ 0 ∷ 2147483647 ∷ 1 ∷ 0 ∷ 0 ∷ 0 ∷ 0 ∷ 1 ∷ [];
      says = 97 ∷ [];
      checks = 0;
    }
    -- a text that is cut, no UTF-8, a surrogate; a style as before; a colour of 65,536; an automatic line with a value
    ∷ refuses (1 ∷ 0 ∷ 0 ∷ 12 ∷ 0 ∷ 0 ∷ 0 ∷ 0 ∷ 0 ∷ 0 ∷ 0 ∷ 0 ∷ 2 ∷ 97 ∷ []) 16 2 22 22
    ∷ refuses (1 ∷ 0 ∷ 0 ∷ 12 ∷ 0 ∷ 0 ∷ 0 ∷ 0 ∷ 0 ∷ 0 ∷ 0 ∷ 0 ∷ 1 ∷ 128 ∷ []) 16 1 24 24
    ∷ refuses (1 ∷ 0 ∷ 0 ∷ 12 ∷ 0 ∷ 0 ∷ 0 ∷ 0 ∷ 0 ∷ 0 ∷ 0 ∷ 0 ∷ 3 ∷ 237 ∷ 160 ∷ 128 ∷ []) 16 3 24 24
    ∷ refuses (2 ∷ 0 ∷ 0 ∷ 12 ∷ 0 ∷ 0 ∷ 0 ∷ 0 ∷ 0 ∷ 0 ∷ 0 ∷ 0 ∷ 1 ∷ 97 ∷ 0 ∷ 0 ∷ 12 ∷ 0 ∷ 0 ∷ 0 ∷ 0 ∷ 0 ∷ 0 ∷ 0 ∷ 0 ∷ 1 ∷ 98 ∷ []) 32 2 24 24
    ∷ refuses (1 ∷ 128 ∷ 128 ∷ 4 ∷ 0 ∷ 12 ∷ 0 ∷ 0 ∷ 0 ∷ 0 ∷ 0 ∷ 0 ∷ 0 ∷ 0 ∷ 1 ∷ 97 ∷ []) 16 1 24 24
    ∷ refuses (1 ∷ 0 ∷ 0 ∷ 12 ∷ 0 ∷ 0 ∷ 0 ∷ 0 ∷ 0 ∷ 1 ∷ 0 ∷ 0 ∷ 1 ∷ 97 ∷ []) 16 1 24 24
    -- a number behind a field out of range is read first; 23 comes behind 19
    ∷ refuses (1 ∷ 128 ∷ 128 ∷ 4 ∷ 128 ∷ 0 ∷ []) 16 1 21 21
    ∷ refuses (1 ∷ 0 ∷ 0 ∷ 12 ∷ 0 ∷ 0 ∷ 0 ∷ 0 ∷ 0 ∷ 0 ∷ 0 ∷ 0 ∷ 1 ∷ 97 ∷ 0 ∷ []) 15 1 19 23 ∷ []

zeros : List ℕ → Bool
zeros [] = true
zeros (n ∷ ns) = eqb n 0 && zeros ns

same : List ℕ → List ℕ → Bool
same [] [] = true
same [] (n ∷ ns) = false
same (m ∷ ms) [] = false
same (m ∷ ms) (n ∷ ns) = eqb m n && same ms ns

-- on success what the case lists, on refusal zeros
held : ℕ → List ℕ → List ℕ → Bool
held n ws room = cond (eqb n 0) (same ws room) (zeros room)

agrees : Case → Bool
agrees c =
    eqb (answer_number (stored_answer c.blocks c.text c.list)) c.number
    && (eqb (answer_number (checked c.list)) c.checks
    && (held c.number c.holds (stored_blocks c.blocks c.text c.list)
    && held c.number c.says (stored_text c.blocks c.text c.list)))

every : List Case → Bool
every [] = true
every (c ∷ cs) = agrees c && every cs

as-listed : every cases ≡ true
unfolding same items ended high sum_from value_of is_long number_of behind goes_on unfolded in_range by_place style_at blocks joined_from text_of block_record records roomy numbers_from ruled entry blocks_from stored placed stored_answer stored_blocks stored_text checked cases refuses zeros held agrees every
as-listed = refl
