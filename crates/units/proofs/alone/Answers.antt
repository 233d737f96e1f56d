-- `alone` meets its contract, by its test. Assumes nothing.
use Rattle.units.proofs.Branches.{alone-surrogate, alone-value}
use Rattle.units.proofs.alone.Goals as goal

pub returns-then-u : goal.returns-then-u
returns-then-u c = alone-surrogate c.args.u c.if-u.true

pub returns : goal.returns
returns c = alone-value c.args.u c.if-u.false
