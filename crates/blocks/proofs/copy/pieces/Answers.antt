-- `pieces` meets its contract. The invariant: the bytes before i are copied. The measure: what is left before the last piece.
use borrow.Author.Rules.{rules}
use Prim.Native.Nat.{◌+◌, ◌-◌}
use native.Mathlib.Omega.{arith}
use lib.ListN.{length}
use lib.Seq.{paste-zero}
use Rattle.blocks.proofs.Copying.{piece-more, copy-end}
use Rattle.blocks.proofs.copy.pieces.Goals as goal

pub loop-i-init : goal.loop-i-init
loop-i-init c = (omega arith, search rules, let a = c.args in paste-zero a.text.now a.at a.bytes.now)

pub loop-i-preserved : goal.loop-i-preserved
loop-i-preserved c = let start = c in let a = start.args in let at-loop = c.loop-i in let fits = start.requires in (
  omega arith,
  omega arith,
  piece-more a.text.now a.at a.bytes.now (omega arith) at-loop.i at-loop.i a.k (omega arith) (omega arith) (omega arith) at-loop.invariant.2 c.piece.ensures,
)

pub returns : goal.returns
returns c = let start = c in let a = start.args in let at-loop = c.loop-i in let fits = start.requires in let last = length a.bytes.now - a.k in
    copy-end a.text.now a.at a.bytes.now (omega arith) (last + a.k) (omega arith)
    (piece-more a.text.now a.at a.bytes.now (omega arith) at-loop.i last a.k (omega arith) (omega arith) (omega arith) at-loop.invariant.2 c.piece-2.ensures)
