-- `put_numbers` meets its contract: number by number.
use Rattle.storing.proofs.Putting.{numbers_more, numbers-done}
use Rattle.storing.proofs.block.put_numbers.Goals as goal

pub loop-v-preserved : goal.loop-v-preserved
loop-v-preserved c = numbers_more c.loop-v.invariant c.loop-v-test.true c.put_number-at.ensures

pub returns : goal.returns
returns c = numbers-done c.loop-v.invariant c.loop-v-test.false
