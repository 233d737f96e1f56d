-- `starts_slice` meets its contract: its callee tells whether the byte is special.
use Rattle.slices.proofs.starts_slice.Goals as goal

pub returns : goal.returns
returns c = cc
