-- `ending` meets its contract: reading by reading.
use native.Mathlib.Omega.{arith}
use Rattle.settings.specs.Effects.{meaning}
use Rattle.settings.proofs.ending.Goals as goal

pub returns-in-Plain : goal.returns-in-Plain
unfolding meaning
returns-in-Plain c = (rw c.in-Plain.is, omega arith)

pub returns-in-Paragraphs : goal.returns-in-Paragraphs
unfolding meaning
returns-in-Paragraphs c = (rw c.in-Paragraphs.is, omega arith)

pub returns-in-Standard : goal.returns-in-Standard
unfolding meaning
returns-in-Standard c = (rw c.in-Standard.is, omega arith)
