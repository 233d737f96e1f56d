-- `other` meets its contract: a byte that is no space, or one text token, the backslash with it.
use native.Mathlib.Omega.{arith}
use Rattle.rooms.proofs.Rooms.{wrote_none}
use Rattle.tokens.proofs.Records.{wrote-token, text-record}
use Rattle.tokenize.proofs.Rules.{other_none, other_text}
use Rattle.tokenize.proofs.other.Goals as goal

pub returns-then-k-s : goal.returns-then-k-s
returns-then-k-s c = search (wrote_none, other_none)

pub returns : goal.returns
returns c = wrote-token (other_text _ _ _ c.lead_of-k.ensures.count c.if-k-s.false) (text-record _ _ _ (omega arith) c.text.ensures) c.put.ensures
