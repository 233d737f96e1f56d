-- `tail` meets its contract: nothing, or text.
use mathlib.Core.Path.{refl}
use Rattle.rooms.proofs.Rooms.{wrote_none}
use Rattle.tokens.specs.Tokens.{shown_layout}
use Rattle.tokens.proofs.Records.{wrote-token, text-record}
use Rattle.standard.proofs.Rules.{tail_none, tail-text}
use Rattle.standard.proofs.tail.Goals as goal

pub returns-then-s-eq0 : goal.returns-then-s-eq0
returns-then-s-eq0 c = wrote_none shown_layout (tail_none _ _ c.if-s-eq0.true)

pub returns : goal.returns
returns c = wrote-token (tail-text _ _ c.if-s-eq0.false) (text-record _ _ _ refl c.text.ensures) c.put.ensures
