-- `walk_tables` meets its contract. The invariant: what is left, from the tables in the rooms, gives the whole result. The
-- measure is how many tokens are left.
use Rattle.header.proofs.Walking.{walking_start, walking-stay, walking_on, walking-bad, walking-end}
use Rattle.header.proofs.walk_tables.Goals as goal

pub loop-n-init : goal.loop-n-init
loop-n-init c = walking_start _ _ _ _ _ c.requires

pub loop-n-preserved-in-Ok : goal.loop-n-preserved-in-Ok
loop-n-preserved-in-Ok c = walking_on c.loop-n.invariant c.loop-n-test.true c.is_opening-opening.ensures c.if-opening.true _ _ _ c.enter.ensures c.enter.auto.fonts c.enter.auto.colours c.in-Ok.is

pub returns-in-Err : goal.returns-in-Err
returns-in-Err c = walking-bad c.loop-n.invariant c.loop-n-test.true c.is_opening-opening.ensures c.if-opening.true _ _ _ c.enter.ensures c.in-Err.is

pub loop-n-preserved : goal.loop-n-preserved
loop-n-preserved c = walking-stay c.loop-n.invariant c.loop-n-test.true c.is_opening-opening.ensures c.if-opening.false

pub returns : goal.returns
returns c = walking-end c.loop-n.invariant c.loop-n-test.false
