-- `read` meets its contract: what was refused leaves zeros, what was read stands.
use Rattle.parser.specs.Parsing.{sizes}
use Rattle.reader.proofs.Whole.{letter-refuses, read-refused, read_done}
use Rattle.reader.proofs.read.Goals as goal

pub returns-in-Err : goal.returns-in-Err
returns-in-Err c = let a = c.args in let z = sizes a.tokens.now a.fonts.now a.colours.now a.blocks.now a.text.now in let k = c.attempt.auto in read-refused a.reading a.source.now z (letter-refuses a.reading a.source.now z _ _ _ _ _ c.attempt.ensures.letter c.in-Err.is) c.refuse.ensures.answer c.refuse.ensures.token_room k.tokens c.refuse.ensures.font_room k.fonts c.refuse.ensures.colour_room k.colours c.refuse.ensures.block_room k.blocks c.refuse.ensures.text_room k.text

pub returns-in-Ok : goal.returns-in-Ok
returns-in-Ok c = let a = c.args in let z = sizes a.tokens.now a.fonts.now a.colours.now a.blocks.now a.text.now in rw c.in-Ok.is at (read_done a.reading a.source.now z _ _ _ _ _ c.attempt.ensures.letter c.in-Ok.is (c.attempt.ensures.few _ c.in-Ok.is) c.attempt.ensures.token_room)
