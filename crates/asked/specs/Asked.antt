-- The reading that a program is asked for, by a digit. Assumes nothing: this is a definition.
use Rattle.std.specs.Prelude.{ℕ, cond, eqb}
use Rattle.readings.specs.declared.Reading.{Reading}
use Rattle.readings.specs.declared.Reading.TheVariants.{Plain, Paragraphs, Standard}

-- the digit of the reading's number, as hosts say it; any other byte is plain
unfoldable pub asked_by : ℕ → Reading
asked_by b = cond (eqb b 49) Paragraphs (cond (eqb b 50) Standard Plain)
