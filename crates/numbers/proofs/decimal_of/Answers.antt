-- `decimal_of` meets its contract: each way to leave has its law.
use Rattle.numbers.proofs.Numbers.{decimal-none, decimal-plain, decimal-minus-bad, decimal-minus-is}
use Rattle.std.proofs.Common.{◌∙◌, rules}
use Rattle.numbers.proofs.decimal_of.Goals as goal

pub returns-then-s-eq0 : goal.returns-then-s-eq0
returns-then-s-eq0 c = search (decimal-none)

pub returns-then-first-ne45 : goal.returns-then-first-ne45
returns-then-first-ne45 c = search (decimal-plain)

pub returns-in_err-n : goal.returns-in_err-n
returns-in_err-n c = c.from_residual.ensures ∙ decimal-minus-bad _ _ c.if-s-eq0.false c.if-first-ne45.false c.digits_of-2.ensures c.in_err-n.was

pub returns : goal.returns
returns c = search (decimal-minus-is, rules)
