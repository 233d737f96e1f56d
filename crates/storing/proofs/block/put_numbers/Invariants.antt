-- So many numbers are written.
use Rattle.storing.proofs.Putting.{Numbers}
use Rattle.storing.proofs.block.put_numbers.Given as goal

abbrev pub invariant-loop-v : goal.invariant-loop-v
invariant-loop-v l = Numbers l.words l.n l.initial.room l.room l.at l.v-index
