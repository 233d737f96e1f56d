-- `feed_from` meets its contract: by whether a line feed is taken in.
use native.Mathlib.Omega.{arith}
use Rattle.slices.proofs.Feeds.{from-alone, from-feed, from_some}
use Rattle.slices.proofs.feed_from.Goals as goal

pub returns-then-takes_feed : goal.returns-then-takes_feed
returns-then-takes_feed c =
    let l = from_some c.args.s.now c.takes_feed.ensures c.if-takes_feed.true in
    record { from = from-feed _ c.takes_feed.ensures c.if-takes_feed.true; within = omega (arith, l); some = λ h. l }

pub returns : goal.returns
returns c = record { from = from-alone _ c.takes_feed.ensures c.if-takes_feed.false; within = omega arith; some = λ h. h }
