-- `whole` meets its contract: too long, a byte above 127, or the slices of the trimmed source.
use Rattle.rooms.proofs.Rooms.{wrote-stop, wrote_as}
use Rattle.tokens.specs.Tokens.{token_layout}
use Rattle.cutter.proofs.Source.{stream-long, stream-high, stream-slices}
use Rattle.cutter.proofs.whole.Goals as goal

pub returns-then-source-gt65536 : goal.returns-then-source-gt65536
returns-then-source-gt65536 c = wrote-stop token_layout (stream-long _ _ c.if-source-gt65536.true) c.of.ensures

pub returns-then-has_high : goal.returns-then-has_high
returns-then-has_high c = wrote-stop token_layout (stream-high _ _ c.if-source-gt65536.false _ c.has_high.ensures c.if-has_high.true) c.of-then-has_high.ensures

pub returns : goal.returns
returns c = wrote_as token_layout (stream-slices _ _ c.if-source-gt65536.false _ c.has_high.ensures c.if-has_high.false _ _ c.lead_of-start.ensures.count c.body_of-end.ensures.count) c.all_slices.ensures
