-- `is_start` meets its contract: its callee tells whether the byte is special.
use Rattle.slices.proofs.is_start.Goals as goal

pub returns : goal.returns
returns c = cc
