-- `slice_tokens` meets its contract: each branch is the rule of the first byte.
use Rattle.rooms.proofs.Rooms.{wrote_none, wrote_as}
use Rattle.tokens.specs.Tokens.{shown_layout}
use Rattle.tokens.proofs.Records.{wrote-token-and}
use Rattle.standard.proofs.Rules.{tokens_none, tokens-escaped, tokens-bracket, tokens-raw, tokens-text}
use Rattle.standard.proofs.slice_tokens.Goals as goal

pub returns-then-s-eq0 : goal.returns-then-s-eq0
returns-then-s-eq0 c = wrote_none shown_layout (tokens_none _ _ c.if-s-eq0.true)

pub returns-then-b-eq92 : goal.returns-then-b-eq92
returns-then-b-eq92 c = wrote_as shown_layout (tokens-escaped _ _ c.if-s-eq0.false c.if-b-eq92.true) c.escaped.ensures

pub returns-then-b : goal.returns-then-b
returns-then-b c = wrote-token-and (tokens-bracket _ _ c.if-s-eq0.false c.if-b-eq92.false c.if-b.true) c.bracket.ensures c.put.ensures c.tail.ensures

pub returns-then-b-2 : goal.returns-then-b-2
returns-then-b-2 c = wrote_as shown_layout (tokens-raw _ _ c.if-s-eq0.false c.if-b-eq92.false c.if-b.false c.if-b-2.true) c.tail-then-b-2.ensures

pub returns : goal.returns
returns c = wrote_as shown_layout (tokens-text _ _ c.if-s-eq0.false c.if-b-eq92.false c.if-b.false c.if-b-2.false) c.tail-2.ensures
