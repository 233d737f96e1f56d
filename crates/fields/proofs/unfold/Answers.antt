-- `unfold` meets its contract.
use native.Mathlib.Omega.{arith}
use Rattle.fields.proofs.Folds.{unfold-even, unfold-odd}
use Rattle.fields.proofs.unfold.Goals as goal

pub returns-then-n-eq0 : goal.returns-then-n-eq0
returns-then-n-eq0 c = rw (unfold-even c.args.n c.if-n-eq0.true) (omega arith)

pub returns : goal.returns
returns c = rw (unfold-odd c.args.n c.if-n-eq0.false) (omega arith)
