-- `start_from` meets its contract: the chain counts the bytes that start no slice.
use Rattle.std.proofs.Common.{drop, ◌∙◌, ap, ◌+◌, rules, tests}
use Rattle.std.proofs.lemmas.Iterator.{YieldsList-from_slice}
use Rattle.std.proofs.lemmas.Iterator.Consumers.{count_from_yields_List}
use Rattle.std.proofs.lemmas.Iterator.Search.{YieldsList-from_take_while}
use Rattle.std.proofs.lemmas.List.{take_rest}
use Rattle.std.proofs.lemmas.List.Folds.{length-prefix_len}
use Rattle.classes.specs.Eights.{outside}
use Rattle.classes.proofs.Runs.{lead-prefix}
use Rattle.slices.specs.Slices.{is_start}
use Rattle.slices.proofs.start_from.Goals as goal

pub returns : goal.returns
returns c =
    let f = outside is_start in
    let s = drop c.args.from c.args.s.now in
    let rest = take_rest c.args.s.now c.args.from in
    let passed = count_from_yields_List c.take_while.result _ c.count-passed.ensures.ran
    (YieldsList-from_take_while _ f (YieldsList-from_slice s cc) c.take_while.ensures.closure c.take_while.ensures.done (λ x b q k. search (rules, tests)))
    ∙ length-prefix_len f s ∙ lead-prefix f s in
    ap (λ n. c.args.from + n) passed
