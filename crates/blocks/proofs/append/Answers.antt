-- `append` meets its contract: no room, or the text behind the text.
use mathlib.Core.Path.{refl}
use lib.ListN.{length}
use native.Mathlib.Omega.{arith}
use Rattle.blocks.proofs.Writing.{cap-le, append-full, append-more, still-more}
use Rattle.blocks.proofs.append.Goals as goal

pub returns-then-capacity-at : goal.returns-then-capacity-at
returns-then-capacity-at c = record {
  laid = append-full c.args.page.now c.args.bytes.now c.args.blocks.now c.args.text.now c.capacity.ensures c.if-capacity-at.true refl;
  ready = c.requires.0;
}

pub copy-requires : goal.copy-requires
copy-requires c = let k = cap-le (length c.args.text.now) in let h = c.requires.0.text in omega arith

pub overflow_cast-grown : goal.overflow_cast-grown
overflow_cast-grown c = let k = cap-le (length c.args.text.now) in let h = c.requires.0.text in omega arith

pub returns : goal.returns
returns c =
    let p = c.args.page.now in
    let n = c.capacity.ensures in
    record {
      laid = append-more p c.args.bytes.now c.args.blocks.now c.args.text.now n c.if-capacity-at.false c.copy.ensures;
      ready = still-more p (length c.args.blocks.now) (length c.args.text.now) c.capacity.result (length c.args.bytes.now) c.requires.0.page n (rw n c.requires.0.text) c.if-capacity-at.false;
    }
