-- `escaped` meets its contract. Assumes nothing.
use Rattle.rooms.proofs.Rooms.{wrote_as}
use Rattle.tokens.specs.Tokens.{shown_layout}
use Rattle.tokenize.proofs.Shapes.{word_slice}
use Rattle.tokenize.proofs.quick.escaped.Goals as goal

pub returns-then-is_letter : goal.returns-then-is_letter
returns-then-is_letter c = wrote_as shown_layout (word_slice _ _ c.args.s.now c.if-s-gt1.true c.requires.starts.1 _ c.is_letter.ensures c.if-is_letter.true) c.quick_word.ensures
