-- `capacity` meets its contract: below the cap, and not below it.
use Rattle.blocks.proofs.Writing.{cap-in, cap-out}
use Rattle.blocks.proofs.capacity.Goals as goal

pub returns-then-n-lt2147483647 : goal.returns-then-n-lt2147483647
returns-then-n-lt2147483647 c = cap-in _ c.if-n-lt2147483647.true

pub returns : goal.returns
returns c = cap-out _ c.if-n-lt2147483647.false
