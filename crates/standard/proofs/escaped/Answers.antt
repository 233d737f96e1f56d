-- `escaped` meets its contract: each branch is the rule of the byte behind the backslash.
use Rattle.rooms.proofs.Rooms.{wrote_as}
use Rattle.tokens.specs.Tokens.{shown_layout}
use Rattle.tokens.proofs.Records.{wrote-token, wrote-token-and, symbol-record}
use Rattle.standard.proofs.Rules.{escaped-none, escaped-word, escaped-text, escaped-hex, escaped-break, escaped-symbol}
use Rattle.standard.proofs.escaped.Goals as goal

pub returns-then-s-eq0 : goal.returns-then-s-eq0
returns-then-s-eq0 c = wrote-token (escaped-none _ _ c.if-s-eq0.true) (symbol-record _ _ c.symbol.ensures) c.put.ensures

pub returns-then-is_alpha : goal.returns-then-is_alpha
returns-then-is_alpha c = wrote_as shown_layout (escaped-word _ _ c.if-s-eq0.false _ c.is_alpha.ensures c.if-is_alpha.true) c.word.ensures

pub returns-then-is_escape : goal.returns-then-is_escape
returns-then-is_escape c = wrote_as shown_layout (escaped-text _ _ c.if-s-eq0.false _ c.is_alpha.ensures c.if-is_alpha.false _ c.is_escape.ensures c.if-is_escape.true) c.tail.ensures

pub returns-then-b-eq39 : goal.returns-then-b-eq39
returns-then-b-eq39 c = wrote_as shown_layout (escaped-hex _ _ c.if-s-eq0.false _ c.is_alpha.ensures c.if-is_alpha.false _ c.is_escape.ensures c.if-is_escape.false c.if-b-eq39.true) c.hex_escape.ensures

pub returns-then-b : goal.returns-then-b
returns-then-b c = wrote_as shown_layout (escaped-break _ _ c.if-s-eq0.false _ c.is_alpha.ensures c.if-is_alpha.false _ c.is_escape.ensures c.if-is_escape.false c.if-b-eq39.false c.if-b.true) c.line_break.ensures

pub returns : goal.returns
returns c = wrote-token-and (escaped-symbol _ _ c.if-s-eq0.false _ c.is_alpha.ensures c.if-is_alpha.false _ c.is_escape.ensures c.if-is_escape.false c.if-b-eq39.false c.if-b.false) c.symbol-2.ensures c.put-2.ensures c.tail-2.ensures
