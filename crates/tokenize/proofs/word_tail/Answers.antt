-- `word_tail` meets its contract: empty, a plain tail, or text of nothing but white space that ends a word.
use mathlib.Core.Path.{refl}
use Rattle.rooms.proofs.Rooms.{wrote_none, wrote_as}
use Rattle.tokens.specs.Tokens.{shown_layout}
use Rattle.tokens.proofs.Records.{wrote-token, text-record}
use Rattle.tokenize.proofs.Rules.{tail_none, tail-plain, tail-text}
use Rattle.tokenize.proofs.word_tail.Goals as goal

pub returns-then-s-eq0 : goal.returns-then-s-eq0
returns-then-s-eq0 c = wrote_none shown_layout (tail_none _ _ c.if-s-eq0.true)

pub returns-then-white-s : goal.returns-then-white-s
returns-then-white-s c = wrote_as shown_layout (tail-plain _ _ _ c.if-s-eq0.false c.lead_of-white.ensures.count c.if-white-s.true) c.plain.ensures

pub returns : goal.returns
returns c = wrote-token (tail-text _ _ _ c.if-s-eq0.false c.lead_of-white.ensures.count c.if-white-s.false) (text-record _ _ _ refl c.text.ensures) c.put.ensures
