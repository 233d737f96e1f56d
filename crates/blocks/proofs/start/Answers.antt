-- `start` meets its contract: the same block, a new one, no room.
use mathlib.Core.Path.{refl}
use lib.ListN.{length}
use Rattle.blocks.proofs.Writing.{joined, start-same, start-new, start-full, still-new}
use native.Mathlib.Omega.{arith}
use Rattle.blocks.proofs.start.Goals as goal

pub returns-then-joins : goal.returns-then-joins
returns-then-joins c = record {
  laid = λ t. start-same c.args.page.now c.args.s c.args.blocks.now t c.joins.ensures c.if-joins.true;
  ready = λ v h. record { page = c.requires; text = h };
  some = λ e. joined c.args.blocks.now c.args.s _ c.joins.ensures c.if-joins.true;
}

pub returns-then-n-blocks : goal.returns-then-n-blocks
returns-then-n-blocks c = record {
  laid = λ t. start-new c.args.page.now c.args.s c.args.blocks.now t c.joins.ensures c.if-joins.false c.if-n-blocks.true c.put.ensures;
  ready = λ v h. still-new c.args.page.now (length c.args.blocks.now) v c.requires c.if-n-blocks.true h;
  some = λ e. omega arith;
}

pub returns : goal.returns
returns c = record {
  laid = λ t. start-full c.args.page.now c.args.s c.args.blocks.now t c.joins.ensures c.if-joins.false c.if-n-blocks.false refl;
  ready = λ v h. record { page = c.requires; text = h };
  some = λ e. absurd (cc);
}
