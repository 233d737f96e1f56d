-- A reading by its number, as hosts say it, and which one has rules of its own. Assumes nothing: these are definitions.
use Rattle.std.specs.Prelude.{ℕ, Bool, true, false, cond, eqb}
use Rattle.readings.specs.declared.Reading.{Reading}
use Rattle.readings.specs.declared.Reading.TheVariants.{Plain, Paragraphs, Standard}

-- 1 is by paragraphs, 2 by the specification, any other number plain
abbrev pub reading_of : ℕ → Reading
reading_of n = cond (eqb n 1) Paragraphs (cond (eqb n 2) Standard Plain)

-- 02, A1: the reading by the specification
abbrev pub is_standard : Reading → Bool
is_standard Plain = false
is_standard Paragraphs = false
is_standard Standard = true
