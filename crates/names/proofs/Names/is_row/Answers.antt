-- `is_row` meets its contract: what stands between a name's bounds is the name.
use Rattle.std.proofs.Common.{◌-◌, take, drop, eqb, rules, tests, arith, ◌∙◌, ne_eqb}
use Rattle.std.proofs.lemmas.Iterator.{YieldsList-from_slice, YieldsList-from_zip}
use Rattle.std.proofs.lemmas.Iterator.Search.{all_from_yields_List}
use Rattle.names.proofs.Rows.{row-rises, row_fits, row-same, row-other}
use Rattle.names.proofs.Names.is_row.Goals as goal

pub slice_bounds-name-count : goal.slice_bounds-name-count
slice_bounds-name-count c = search (row-rises)

pub slice_bounds-name-start : goal.slice_bounds-name-start
slice_bounds-name-start c =
    omega (arith, row-rises _ _ _ _ c.args.self.now.is_table c.requires c.from-begin.ensures c.from-end.ensures, row_fits _ _ _ _ c.args.self.now.is_table c.requires c.from-begin.ensures c.from-end.ensures)

pub returns-then-w-name : goal.returns-then-w-name
returns-then-w-name c =
    let w = c.args.w.now in
    let n = take (c.from-end.result - c.from-begin.result) (drop c.from-begin.result c.args.self.now.table) in
    all_from_yields_List (λ p. eqb p.0 p.1) c.all.new.self _ c.all.result c.all.ensures.ran (YieldsList-from_zip (YieldsList-from_slice w cc) (YieldsList-from_slice n cc)) (λ x b q k. search (rules, tests))
    ∙ row-same _ _ _ _ c.args.self.now.is_table c.requires c.from-begin.ensures c.from-end.ensures w c.if-w-name.true

pub returns-else-w-name : goal.returns-else-w-name
returns-else-w-name c =
    rw (ne_eqb _ _ c.if-w-name.false)
    (row-other _ _ _ _ c.args.self.now.is_table c.requires c.from-begin.ensures c.from-end.ensures c.args.w.now c.if-w-name.false)
