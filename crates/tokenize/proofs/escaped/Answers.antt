-- `escaped` meets its contract: each branch is the rule of the byte behind the backslash.
use mathlib.Core.Path.{refl}
use Rattle.rooms.proofs.Rooms.{wrote_as}
use Rattle.tokens.specs.Tokens.{shown_layout}
use Rattle.tokens.proofs.Records.{wrote-token, text-record, ignorable-record}
use Rattle.tokenize.proofs.Rules.{escaped-none, escaped-word, escaped-text, escaped-hex, escaped-break, escaped-mark, escaped-other}
use Rattle.tokenize.proofs.escaped.Goals as goal

pub returns-then-s-eq0 : goal.returns-then-s-eq0
returns-then-s-eq0 c = wrote_as shown_layout (escaped-none _ _ _ c.if-s-eq0.true) c.other.ensures

pub returns-then-is_letter : goal.returns-then-is_letter
returns-then-is_letter c = wrote_as shown_layout (escaped-word _ _ _ c.if-s-eq0.false _ c.is_letter.ensures c.if-is_letter.true) c.word.ensures

pub returns-then-is_escape : goal.returns-then-is_escape
returns-then-is_escape c = wrote-token (escaped-text _ _ _ c.if-s-eq0.false _ c.is_letter.ensures c.if-is_letter.false _ c.is_escape.ensures c.if-is_escape.true) (text-record _ _ _ refl c.text.ensures) c.put.ensures

pub returns-then-b-eq39 : goal.returns-then-b-eq39
returns-then-b-eq39 c = wrote_as shown_layout (escaped-hex _ _ _ c.if-s-eq0.false _ c.is_letter.ensures c.if-is_letter.false _ c.is_escape.ensures c.if-is_escape.false c.if-b-eq39.true) c.hex_escape.ensures

pub returns-then-b-eq10 : goal.returns-then-b-eq10
returns-then-b-eq10 c = wrote_as shown_layout (escaped-break _ _ _ c.if-s-eq0.false _ c.is_letter.ensures c.if-is_letter.false _ c.is_escape.ensures c.if-is_escape.false c.if-b-eq39.false c.if-b-eq10.true) c.line_break.ensures

pub returns-then-b-eq42 : goal.returns-then-b-eq42
returns-then-b-eq42 c = wrote-token (escaped-mark _ _ _ c.if-s-eq0.false _ c.is_letter.ensures c.if-is_letter.false _ c.is_escape.ensures c.if-is_escape.false c.if-b-eq39.false c.if-b-eq10.false c.if-b-eq42.true) (ignorable-record c.bare.ensures) c.put-then-b-eq42.ensures

pub returns : goal.returns
returns c = wrote_as shown_layout (escaped-other _ _ _ c.if-s-eq0.false _ c.is_letter.ensures c.if-is_letter.false _ c.is_escape.ensures c.if-is_escape.false c.if-b-eq39.false c.if-b-eq10.false c.if-b-eq42.false) c.other_by.ensures
