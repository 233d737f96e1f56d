-- `standard_from` meets its contract: by the bytes in front.
use native.Mathlib.Omega.{arith}
use Rattle.slices.proofs.Feeds.{from_some}
use Rattle.slices.proofs.Standard.{standard-short, standard-other, standard-feed, standard-escape}
use Rattle.slices.proofs.standard_from.Goals as goal

pub returns-then-s-lt2 : goal.returns-then-s-lt2
returns-then-s-lt2 c = record { from = standard-short _ c.if-s-lt2.true; within = omega arith }

pub returns-then-s-ne92 : goal.returns-then-s-ne92
returns-then-s-ne92 c = record { from = standard-other _ (omega arith) c.if-s-ne92.true; within = omega arith }

pub returns-then-takes_feed : goal.returns-then-takes_feed
returns-then-takes_feed c =
    let l = from_some c.args.s.now c.takes_feed.ensures c.if-takes_feed.true in
    record { from = standard-feed _ c.takes_feed.ensures c.if-takes_feed.true l; within = omega (arith, l) }

pub returns : goal.returns
returns c = record { from = standard-escape _ (omega arith) c.if-s-ne92.false c.takes_feed.ensures c.if-takes_feed.false; within = omega arith }
