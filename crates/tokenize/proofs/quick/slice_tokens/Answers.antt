-- `slice_tokens` meets its contract. Assumes nothing.
use Rattle.rooms.proofs.Rooms.{wrote_none, wrote_as}
use Rattle.tokens.specs.Tokens.{shown_layout}
use Rattle.tokenize.proofs.Rules.{tokens_none, tokens-plain}
use Rattle.tokenize.proofs.quick.slice_tokens.Goals as goal

pub returns-then-s-eq0 : goal.returns-then-s-eq0
returns-then-s-eq0 c = wrote_none shown_layout (tokens_none _ _ _ c.if-s-eq0.true)

pub returns : goal.returns
returns c = wrote_as shown_layout (tokens-plain _ _ _ c.if-s-eq0.false _ c.is_mark.ensures c.if-is_mark.false c.if-b-eq92.false) c.plain.ensures
