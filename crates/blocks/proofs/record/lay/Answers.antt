-- `lay` meets its contract: word by word.
use borrow.Author.Rules.{rules}
use native.Mathlib.Omega.{arith}
use lib.ListN.{length-set}
use lib.Seq.{paste-zero}
use Rattle.blocks.proofs.Copying.{byte_more, copy-end}
use Rattle.blocks.proofs.record.lay.Goals as goal

pub loop-i-init : goal.loop-i-init
loop-i-init c = (omega arith, search rules, paste-zero c.args.room.now c.args.at c.args.words.now)

pub bounds-room-at : goal.bounds-room-at
bounds-room-at c = omega arith

pub loop-i-smaller : goal.loop-i-smaller
loop-i-smaller c = omega arith

pub loop-i-preserved : goal.loop-i-preserved
loop-i-preserved c = (omega arith, simp length-set c.loop-i.invariant.1, byte_more _ _ _ c.requires _ (omega arith) c.loop-i.invariant.2)

pub returns : goal.returns
returns c = copy-end _ _ _ c.requires c.loop-i.i (omega arith) c.loop-i.invariant.2
