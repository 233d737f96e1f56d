-- `takes_feed` meets its contract: by the bytes that there are.
use Rattle.slices.proofs.Feeds.{feed-end, feed-three}
use Rattle.slices.proofs.takes_feed.Goals as goal

pub returns-then-s-lt3 : goal.returns-then-s-lt3
returns-then-s-lt3 c = feed-end c.args.s.now c.if-s-lt3.true

pub returns : goal.returns
returns c = feed-three c.args.s.now c.if-s-lt3.false
