-- Demand 3, "Hidden stays hidden: two letters that are the same except inside ignored groups (`\*`, stylesheet) that the header walk
-- reaches, each closed, give the same refusal or the same text, blocks, colours, font keys and names." This file says it whole: what
-- is asked of two letters, and what is promised. `veil` and `Alike` are defined in Veil, `said` in Said; proofs/HiddenStays proves both
-- promises, proofs/Needs computes the letters named here, in plain reading where none is said. Assumes nothing: these are definitions.
use Rattle.std.specs.Prelude.{◌≡◌, List, ℕ}
use Rattle.cutter.specs.Cutting.{cut_answer}
use Rattle.readings.specs.declared.Reading.{Reading}
use Rattle.parser.specs.Parsing.{Sizes}
use Rattle.veil.specs.Veil.{veil, Alike}
use Rattle.veil.specs.Said.{said, SameRooms}
use Rattle.std.specs.Prelude.{Ok}

-- Two letters a and b, read into rooms of the sizes z and y. The cutter sees what is hidden too, so its answer is asked for:
pub record Cut (rd : Reading) (a b : List ℕ) (z y : Sizes) : Type 0 where
  -- "both are cut without refusal and the token room is enough for both". `{a{\*x}b}` is read, `{a{\*{\'zz}}b}` is refused by 4; in
  -- a room of 7 tokens the first is read, `{a{\*{}}b}` refused by 7
  pub first : (n : ℕ) × (cut_answer rd a z.tokens ≡ Ok n)
  pub second : (n : ℕ) × (cut_answer rd b y.tokens ≡ Ok n)
  -- "any sizes of the other rooms", the same for both: in a text room of one byte `{a{\*x}b}` is refused by 20
  pub rooms : SameRooms z y

-- "the two are the same except inside ignored groups, that is groups that the header walk reaches and passes over in both, each
-- closed by its own brace in both": what is left of both is one letter. The veil of `{a{\*x}b}` is `{a{\*}b}`. Groups that are
-- - not closed by their own brace are no part of it: `{a{\*{x}b}` and `{a{\*x\}b}` have the text a;
-- - not reached: in `{{\fonttbl{\f0 A;}{\*\f1 B;}}t}` the `\*` group is a part of the table, and names a font;
-- - not passed over: `{a{\b x}b}` has the text axb, `{a{x\*}b}` is refused by 13. A line break may stand before the mark.
-- And the group itself stays: `{\u8212 {\*x}\u65 }` has two units, of `{\u8212 \u65 }` the second is skipped
--
-- Brackets, groups and marks are those of the reading. Standard reading cuts by rules of its own (02, A1): `{a{\*x\\}b}` is closed there, and has
-- the text ab, while by 01 its bracket belongs to the text behind the backslash, and the text is a; and `{a{ \*x}b}` is refused there by 13, as
-- white space is text, while by 01 it may stand before the mark
--
-- Of a refusal its number is the same, "and no longer places" (02, A4): what is hidden moves what comes behind it. `{a{\*x}\fs-1}` is
-- refused by 12 at byte 7, `{a{\*xyz}\fs-1}` by 12 at byte 9
abbrev pub Promise : Type 0
Promise = (rd : Reading) (a b : List ℕ) (z y : Sizes) → Cut rd a b z y → veil rd a ≡ veil rd b → said rd a z ≡ said rd b y

-- the same, where the inside of one ignored group after another is changed
abbrev pub LiteralPromise : Type 0
LiteralPromise = (rd : Reading) (a b : List ℕ) (z y : Sizes) → Cut rd a b z y → Alike rd a b → said rd a z ≡ said rd b y
