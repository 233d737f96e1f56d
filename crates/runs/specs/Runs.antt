-- 01, Body, and 02, A1: what the code carries from token to token: a state as a row of words, the run of units under way, what is laid. Assumes
-- nothing: these are definitions.
use Rattle.std.specs.Prelude.{ℕ, List, [], ◌∷◌, Bool, cond, get_or, eqb}
use Rattle.settings.specs.Fields.{fresh_row, Setting, put_word, style_of}
use Rattle.settings.specs.Fields as field
use Rattle.readings.specs.declared.Reading.{Reading}
use Rattle.readings.specs.Readings.{is_standard}
use Rattle.units.specs.declared.Run.{Run}
use Rattle.units.specs.declared.Gave.{Gave}
use Rattle.units.specs.Units.{step, standard_step, skip_count}
use Rattle.machine.specs.Machine.{States, Steps}
use Rattle.blocks.specs.Pages.{Piece, piece}
use Rattle.blocks.specs.Laying.{Laying, laid_on}
use Rattle.std.specs.Prelude.{Option}

-- a state is the row of its fields' values; text in it is a piece of its style
abbrev pub rows : States (List ℕ) Setting Piece
rows = record {
  fresh = fresh_row;
  put = put_word;
  say = λ r bs. piece (style_of r) bs;
}

-- a `u` word by the reading: as 01 has it; or by the specification, where characters are passed over behind it, and not units: "Negative counts
-- skip nothing"
unfoldable pub step_by : Reading → ℕ → Run → Option ℕ → Gave
step_by rd skip run num = cond (is_standard rd) (standard_step run num) (step skip run num)

unfoldable pub owed_by : Reading → ℕ → ℕ
owed_by rd skip = cond (is_standard rd) (skip_count skip) 0

abbrev pub steps_by : Reading → Steps (List ℕ)
steps_by rd = record {
  step = λ r. step_by rd (get_or r field.skip 0);
  owes = λ r. owed_by rd (get_or r field.skip 0);
}

-- pieces laid one after the other
unfoldable pub laid_all : Laying → List Piece → Laying
laid_all l [] = l
laid_all l (x ∷ xs) = laid_all (laid_on l x) xs
