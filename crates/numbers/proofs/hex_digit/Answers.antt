-- `hex_digit` meets its contract: each range of bytes has its law.
use Rattle.numbers.proofs.Numbers.{between-low, hex-digit-figure, hex-digit-upper, hex-digit-lower, hex-digit-none}
use Rattle.numbers.proofs.hex_digit.Goals as goal

pub overflow_sub-result : goal.overflow_sub-result
overflow_sub-result c = search (between-low)

pub returns-then-b : goal.returns-then-b
returns-then-b c = search (hex-digit-figure)

pub overflow_sub-result-then-b-2 : goal.overflow_sub-result-then-b-2
overflow_sub-result-then-b-2 c = search (between-low)

pub returns-then-b-2 : goal.returns-then-b-2
returns-then-b-2 c = search (hex-digit-upper)

pub overflow_sub-result-then-b-3 : goal.overflow_sub-result-then-b-3
overflow_sub-result-then-b-3 c = search (between-low)

pub returns-then-b-3 : goal.returns-then-b-3
returns-then-b-3 c = search (hex-digit-lower)

pub returns : goal.returns
returns c = search (hex-digit-none)
