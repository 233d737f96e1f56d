-- `end_from` meets its contract. The invariant: i bytes of the slice are passed.
use native.Mathlib.Omega.{arith}
use Rattle.slices.proofs.Ends.{at_more, ends-here, ends_last}
use Rattle.slices.proofs.end_from.Goals as goal

pub returns-then-starts_slice : goal.returns-then-starts_slice
returns-then-starts_slice c = ends-here _ _ _ _ _ c.starts_slice.ensures (omega arith) c.loop-i.invariant.ends c.if-starts_slice.true

pub loop-i-preserved : goal.loop-i-preserved
loop-i-preserved c = at_more _ _ _ c.starts_slice.ensures c.loop-i.invariant (omega arith) c.if-starts_slice.false

pub returns : goal.returns
returns c = let e = ends_last _ _ _ _ c.loop-i-test.false c.loop-i.invariant.ends in omega (arith, e, c.loop-i.auto)
