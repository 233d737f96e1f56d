-- `hex_pair` meets its contract: each way to leave has its law.
use Rattle.numbers.proofs.Numbers.{hex-pair-bad, hex-pair-plus, hex-pair-worse, hex-pair-both}
use Rattle.numbers.proofs.hex_pair.Goals as goal

pub returns-then-low-gt15 : goal.returns-then-low-gt15
returns-then-low-gt15 c = search (hex-pair-bad)

pub returns-then-a-eq43 : goal.returns-then-a-eq43
returns-then-a-eq43 c = search (hex-pair-plus)

pub returns-then-high-gt15 : goal.returns-then-high-gt15
returns-then-high-gt15 c = search (hex-pair-worse)

pub returns : goal.returns
returns c = search (hex-pair-both)
