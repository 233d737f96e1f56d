-- The words of the numbers before the i-th are there, and zeros behind them.
use mathlib.Core.Path.{◌≡◌}
use mathlib.Core.List.{◌++◌}
use Prim.Native.Nat.{◌-◌}
use lib.ListN.{take, replicate}
use Rattle.styles.specs.Styles.{style_width}
use Rattle.fields.specs.Fields.{word_at, by_place}
use Rattle.fields.proofs.style_from.Given as goal

abbrev pub invariant-loop-i : goal.invariant-loop-i
invariant-loop-i l = l.words ≡ by_place word_at 0 (take l.i l.numbers) ++ replicate (style_width - l.i) 0
