-- `record_line` meets its contract. The invariant: whoever puts the line from word `i` on has put all of it.
use native.Mathlib.Omega.{arith}
use Rattle.lines.proofs.Pages.{left-more, left_end}
use Rattle.lines.proofs.Lines.{line-more, line-end}
use Rattle.lines.proofs.record_line.Goals as goal

pub loop-i-preserved : goal.loop-i-preserved
loop-i-preserved c = (
  omega (arith, c.signed-end.ensures, c.signed-end.auto.page),
  omega (arith, c.signed-end.auto.page, c.loop-i.invariant.1),
  left-more c.loop-i.invariant.2 (line-more _ _ _ c.loop-i-test.true c.behind-mark.ensures) c.signed-end.auto.page c.signed-end.ensures,
)

pub returns : goal.returns
returns c = left_end c.loop-i.invariant.2 (line-end _ _ c.loop-i-test.false) c.loop-i.invariant.0
