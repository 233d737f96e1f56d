-- 02, A4: "Each refusal from 3 to 6 and 9 to 16 now carries the source byte place of the slice that caused it or that its token was cut
-- from (for 10, the table word); the other numbers carry 0." This file says what a host may rely on: a place that is carried lies in
-- the source, and a slice starts there; any other number has place 0. `carries` and `Told` are defined in answers/specs/Answers, `SliceAt`
-- in cutter/specs/Cutting; proofs/Kept proves both promises; samples/specs/Letters has letters for each number, computed. Assumes nothing:
-- these are definitions.
use Rattle.std.specs.Prelude.{ℕ, ◌≡◌, List}
use Rattle.answers.specs.declared.Refusal.{Refusal}
use Rattle.answers.specs.Answers.{Told}
use Rattle.cutter.specs.Cutting.{cut_answer, SliceAt}
use Rattle.readings.specs.declared.Reading.{Reading}
use Rattle.parser.specs.Parsing.{Sizes}
use Rattle.reader.specs.Reading.{read_answer}
use Rattle.std.specs.Prelude.{Err}

-- Cutting: any source, any room. ` {}\'zz}` is refused by 4 at byte 3; in a room of one token ` {}` is refused by 7, at 0
abbrev pub CutPromise : Type 0
CutPromise = (rd : Reading) (src : List ℕ) (total : ℕ) (r : Refusal) → cut_answer rd src total ≡ Err r → Told (SliceAt rd src) r

-- Reading: any reading, source and rooms. `{}}b}` is refused by 14 at byte 2: the text b is of the slice of its bracket
abbrev pub ReadPromise : Type 0
ReadPromise = (rd : Reading) (src : List ℕ) (z : Sizes) (r : Refusal) → read_answer rd src z ≡ Err r → Told (SliceAt rd src) r
