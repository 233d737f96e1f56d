-- `read_header` meets its contract: what the walk refuses is refused; what it read stands, with zeros behind it.
use native.Mathlib.Omega.{arith}
use lib.ListN.{length}
use Rattle.rooms.specs.Rooms.{table_limit}
use Rattle.tokens.specs.Items.{tokens_all}
use Rattle.walk.specs.Walk.{walk}
use Rattle.fonts.specs.Rows.{font_words}
use Rattle.colours.specs.Colours.{colour_words}
use Rattle.header.specs.Header.{tables}
use Rattle.header.proofs.Clearing.{header-fits, header_read}
use Rattle.header.proofs.read_header.Goals as goal

pub overflow_mul-held : goal.overflow_mul-held
overflow_mul-held c =
    let a = c.args in let x = tables (table_limit font_words (length a.fonts.now)) (table_limit colour_words (length a.colours.now)) (walk (tokens_all a.source.now a.count a.tokens.now)) in
    let u = c.ranges in
    let v = c.well_formed in
    let h = header-fits x _ _ _ c.walk_tables.ensures c.in_ok-held.was in
    let k = c.walk_tables.auto.fonts in
    omega arith

pub returns : goal.returns
returns c =
    let a = c.args in let x = tables (table_limit font_words (length a.fonts.now)) (table_limit colour_words (length a.colours.now)) (walk (tokens_all a.source.now a.count a.tokens.now)) in
    header_read _ _ x _ _ _ c.walk_tables.ensures c.in_ok-held.was _ _ c.clear_from.ensures c.clear_from-2.ensures c.walk_tables.auto.fonts c.walk_tables.auto.colours
