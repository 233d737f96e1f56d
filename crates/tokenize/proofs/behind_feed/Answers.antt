-- `behind_feed` meets its contract: by the first byte, if there is one.
use Rattle.rooms.proofs.Rooms.{wrote_as}
use Rattle.tokens.specs.Tokens.{shown_layout}
use Rattle.tokenize.proofs.Rules.{feed-none, feed-some, feed-other}
use Rattle.tokenize.proofs.behind_feed.Goals as goal

pub returns-then-s-eq0 : goal.returns-then-s-eq0
returns-then-s-eq0 c = wrote_as shown_layout (feed-none _ c.args.s.now c.if-s-eq0.true) c.plain.ensures

pub returns-then-s-eq10 : goal.returns-then-s-eq10
returns-then-s-eq10 c = wrote_as shown_layout (feed-some _ c.args.s.now c.if-s-eq0.false c.if-s-eq10.true) c.plain-then-s-eq10.ensures

pub returns : goal.returns
returns c = wrote_as shown_layout (feed-other _ c.args.s.now c.if-s-eq0.false c.if-s-eq10.false) c.plain-2.ensures
