-- `digits_of` meets its contract: each way to leave, and each digit more, has its law.
use Rattle.std.proofs.Common.{rules}
use Rattle.numbers.proofs.Numbers.{digits-none, digits-start, digits-other, digits_more, digits-over, digits-end}
use Rattle.numbers.proofs.digits_of.Goals as goal

pub returns-then-s-eq0 : goal.returns-then-s-eq0
returns-then-s-eq0 c = search (digits-none)

pub loop-b-init : goal.loop-b-init
loop-b-init c = search (digits-start, rules)

pub returns-then-d-gt9 : goal.returns-then-d-gt9
returns-then-d-gt9 c = search (digits-other)

pub returns-then-limit-v : goal.returns-then-limit-v
returns-then-limit-v c = search (digits-over)

pub loop-b-preserved : goal.loop-b-preserved
loop-b-preserved c = search (digits_more, rules)

pub returns : goal.returns
returns c = search (digits-end)
