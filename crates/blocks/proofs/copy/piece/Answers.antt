-- `piece` meets its contract: what is held on the way is the piece. Assumes nothing.
use mathlib.Core.Path.{sym}
use native.Mathlib.Omega.{arith}
use Rattle.blocks.proofs.Copying.{held-length, piece-held}
use Rattle.blocks.proofs.copy.piece.Goals as goal

pub slice_bounds-each-end-3 : goal.slice_bounds-each-end-3
slice_bounds-each-end-3 c = let start = c in let a = start.args in sym (held-length a.bytes.now _ _ a.i a.k c.each.ensures (omega (arith, start.requires)) (omega (arith, start.requires)))

pub each-requires-2 : goal.each-requires-2
each-requires-2 c = let start = c in let a = start.args in let n = held-length a.bytes.now _ _ a.i a.k c.each.ensures (omega (arith, start.requires)) (omega (arith, start.requires)) in omega (arith, n, start.requires)

pub returns : goal.returns
returns c = let start = c in let a = start.args in piece-held a.bytes.now _ _ a.i a.k c.each.ensures (omega (arith, start.requires)) (omega (arith, start.requires)) _ _ c.each-2.ensures
