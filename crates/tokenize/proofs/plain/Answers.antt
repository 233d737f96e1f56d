-- `plain` meets its contract: white to its end, or one text token.
use mathlib.Core.Path.{refl}
use Rattle.rooms.proofs.Rooms.{wrote_none}
use Rattle.tokens.proofs.Records.{wrote-token, text-record}
use Rattle.tokenize.proofs.Rules.{plain-white, plain-text}
use Rattle.tokenize.proofs.plain.Goals as goal

pub returns-then-k-s : goal.returns-then-k-s
returns-then-k-s c = search (wrote_none, plain-white)

pub returns : goal.returns
returns c = wrote-token (plain-text _ _ _ c.lead_of-k.ensures.count c.if-k-s.false) (text-record _ _ _ refl c.text.ensures) c.put.ensures
