-- `letter` meets its contract: the header refuses, or the body's answer is the letter's.
use lib.ListN.{length}
use Rattle.rooms.specs.Rooms.{table_limit}
use Rattle.tokens.specs.Items.{tokens_all}
use Rattle.walk.specs.Walk.{walk}
use Rattle.header.specs.Header.{tables}
use Rattle.parser.proofs.Parts.{letter-refused, letter-read}
use Rattle.fonts.specs.Rows.{font_words}
use Rattle.colours.specs.Colours.{colour_words}
use Rattle.std.proofs.lemmas.Result.{err_from_is_err_and}
use Rattle.parser.proofs.letter.Goals as goal

pub returns-in_err-held : goal.returns-in_err-held
returns-in_err-held c = let p = err_from_is_err_and c.from_residual.result c.from_residual.ensures.1 in let a = c.args in let ts = tokens_all a.source.now a.n a.tokens.now in let x = tables (table_limit font_words (length a.fonts.now)) (table_limit colour_words (length a.colours.now)) (walk ts) in rw (p.1, p.2) (letter-refused a.reading (length a.fonts.now) (length a.colours.now) (length a.blocks.now) (length a.text.now) ts a.n x _ _ _ c.read_header.ensures c.in_err-held.was _ _)

pub returns : goal.returns
returns c = let a = c.args in let ts = tokens_all a.source.now a.n a.tokens.now in let x = tables (table_limit font_words (length a.fonts.now)) (table_limit colour_words (length a.colours.now)) (walk ts) in letter-read a.reading (length a.fonts.now) (length a.colours.now) (length a.blocks.now) (length a.text.now) ts a.n x _ _ _ c.read_header.ensures c.in_ok-held.was _ _ _ c.read_body.ensures
