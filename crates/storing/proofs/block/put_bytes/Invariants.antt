-- So many bytes are written.
use Rattle.storing.proofs.Putting.{Bytes}
use Rattle.storing.proofs.block.put_bytes.Given as goal

abbrev pub invariant-loop-b : goal.invariant-loop-b
invariant-loop-b l = Bytes l.bytes l.n l.initial.room l.room l.at l.b-index
