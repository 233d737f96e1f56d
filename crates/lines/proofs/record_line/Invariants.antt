-- `record_line` meets its contract. The invariant: whoever puts the line from word `i` on has put all of it.
use Prim.Native.Nat.{◌≤◌}
use mathlib.Core.Path.{◌≡◌}
use lib.ListN.{length, drop}
use Rattle.lines.specs.Lines.{line}
use Rattle.lines.proofs.Pages.{Left}
use Rattle.lines.proofs.record_line.Given as goal

abbrev pub invariant-loop-i : goal.invariant-loop-i
invariant-loop-i l = (l.end ≤ length l.page) × (length l.initial.page ≡ length l.page) × Left l.initial.page l.at (line l.words) l.page l.end (line (drop l.i l.words))
