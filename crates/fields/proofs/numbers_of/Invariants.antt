-- The words before the i-th are numbers, the others stand as they were.
use mathlib.Core.Path.{◌≡◌}
use mathlib.Core.List.{◌++◌}
use lib.ListN.{take, drop}
use Rattle.styles.specs.Styles.{style_words}
use Rattle.fields.specs.Fields.{number_at, by_place}
use Rattle.fields.proofs.numbers_of.Given as goal

abbrev pub invariant-loop-i : goal.invariant-loop-i
invariant-loop-i l = l.w-items ≡ by_place number_at 0 (take l.i (style_words l.fn.s)) ++ drop l.i (style_words l.fn.s)
