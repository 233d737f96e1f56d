-- `named` meets its contract: without a number, or with the number that its bytes write.
use Rattle.rooms.proofs.Rooms.{wrote_as}
use Rattle.tokens.specs.Tokens.{shown_layout}
use Rattle.tokens.proofs.Records.{wrote-token}
use Rattle.standard.proofs.Rules.{named-bare, named-numbered}
use Rattle.standard.proofs.named.Goals as goal

pub returns-then-digits-eq0 : goal.returns-then-digits-eq0
returns-then-digits-eq0 c = wrote-token (named-bare _ _ _ c.if-digits-eq0.true) c.word_record.ensures c.put.ensures

pub returns : goal.returns
returns c = wrote_as shown_layout (named-numbered _ _ _ c.if-digits-eq0.false) c.numbered_word.ensures
