-- The measure of `tokenize` is the slice's length.
use lib.ListN.{length}
use Rattle.tokenize.proofs.+tokenize.Given as goal

abbrev pub decreases-tokenize : goal.decreases-tokenize
decreases-tokenize l = length l.s.now
