-- `encode` meets its contract, by the two answers of `is_scalar`. Assumes nothing.
use Rattle.utf8.proofs.Utf8.{low_scalar, encoded-scalar, encoded-other}
use Rattle.utf8.proofs.encode.Goals as goal

pub sequence_of-requires : goal.sequence_of-requires
sequence_of-requires c = low_scalar c.args.c (cc)

pub returns-then-is_scalar : goal.returns-then-is_scalar
returns-then-is_scalar c = search (encoded-scalar)

pub returns : goal.returns
returns c = search (encoded-other)
