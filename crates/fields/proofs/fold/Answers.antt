-- `fold` meets its contract.
use native.Mathlib.Omega.{arith}
use Rattle.fields.proofs.Folds.{fold-low, fold-high}
use Rattle.fields.proofs.fold.Goals as goal

pub returns-then-w-lt2147483648 : goal.returns-then-w-lt2147483648
returns-then-w-lt2147483648 c = rw (fold-low c.args.w c.if-w-lt2147483648.true) (omega arith)

pub returns : goal.returns
returns c = rw (fold-high c.args.w c.if-w-lt2147483648.false) (omega arith)
