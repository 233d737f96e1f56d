-- `put_bytes` meets its contract: byte by byte.
use Rattle.storing.proofs.Putting.{bytes-more, bytes-done}
use Rattle.storing.proofs.block.put_bytes.Goals as goal

pub loop-b-preserved : goal.loop-b-preserved
loop-b-preserved c = bytes-more c.loop-b.invariant c.loop-b-test.true c.put_byte.ensures

pub returns : goal.returns
returns c = bytes-done c.loop-b.invariant c.loop-b-test.false
