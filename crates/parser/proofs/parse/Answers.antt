-- `parse` meets its contract: the first token refuses, or the letter's answer stands.
use Rattle.tokens.specs.Items.{tokens_all}
use Rattle.parser.specs.Parsing.{sizes}
use Rattle.parser.proofs.Parts.{parse-refused, parse-read}
use Rattle.std.proofs.lemmas.Result.{err_from_is_err_and}
use Rattle.parser.proofs.parse.Goals as goal

pub returns-in_err-start : goal.returns-in_err-start
returns-in_err-start c = let p = err_from_is_err_and c.from_residual.result c.from_residual.ensures.1 in let a = c.args in rw (p.1, p.2) (parse-refused a.reading (sizes a.tokens.now a.fonts.now a.colours.now a.blocks.now a.text.now) (tokens_all a.source.now a.n a.tokens.now) a.n (c.start.ensures a.source.now) c.in_err-start.was _ _ _ _)

pub returns : goal.returns
returns c = let a = c.args in parse-read a.reading (sizes a.tokens.now a.fonts.now a.colours.now a.blocks.now a.text.now) (tokens_all a.source.now a.n a.tokens.now) a.n (c.start.ensures a.source.now) c.in_ok-start.was _ _ _ _ _ c.letter.ensures
