-- `read` meets its contract: a letter that is too long, or the reader's answer in the extractor's rooms.
use Rattle.extraction.proofs.Extractor.{read-longer, read_taken}
use Rattle.extraction.proofs.read.Goals as goal

pub returns-then-letter-gt-LETTER_MOST : goal.returns-then-letter-gt-LETTER_MOST
returns-then-letter-gt-LETTER_MOST c =
    let start = c in
    let lent = c.clear_from-arg-1.given in
    read-longer _ _ c.if-letter-gt-LETTER_MOST.true c.of.ensures _ _ _ start.args.text.now lent.0.1 c.clear_from.ensures

pub returns : goal.returns
returns c =
    let rooms = c.args in
    let e = c.read.ensures in
    read_taken _ _ c.if-letter-gt-LETTER_MOST.false
    rooms.tokens.now rooms.fonts.now rooms.colours.now rooms.blocks.now rooms.text.now
    c.read-arg-1.given.0.1
    c.read-arg-2-1.given.0.1
    c.read-arg-3-1.given.0.1
    c.read-arg-4-1.given.0.1
    c.read-arg-5-1.given.0.1
    e.answer e.fonts e.colours e.blocks e.text
    c.read.auto.text
