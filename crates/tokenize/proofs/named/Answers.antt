-- `named` meets its contract: no number, or the word with the number that its bytes write.
use Rattle.rooms.proofs.Rooms.{wrote_as}
use Rattle.tokens.specs.Tokens.{shown_layout}
use Rattle.tokens.proofs.Records.{wrote-token}
use Rattle.tokenize.proofs.Rules.{named-bare, named-numbered}
use Rattle.tokenize.proofs.named.Goals as goal

pub returns-then-k-w : goal.returns-then-k-w
returns-then-k-w c = wrote-token (named-bare _ _ _ c.body_of-k.ensures.count c.if-k-w.true) c.word_record.ensures c.put.ensures

pub returns : goal.returns
returns c = wrote_as shown_layout (named-numbered _ _ _ c.body_of-k.ensures.count c.if-k-w.false) c.numbered_word.ensures
