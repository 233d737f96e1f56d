-- `lead_of` meets its contract: the chain counts what `lead` counts.
use Rattle.std.proofs.Common.{◌∙◌, rules, tests}
use Rattle.std.proofs.lemmas.Iterator.{YieldsList-from_slice}
use Rattle.std.proofs.lemmas.Iterator.Consumers.{count_from_yields_List}
use Rattle.std.proofs.lemmas.Iterator.Search.{YieldsList-from_take_while}
use Rattle.std.proofs.lemmas.List.Folds.{length-prefix_len}
use Rattle.classes.specs.Bytes.{in_class}
use Rattle.classes.proofs.Runs.{lead-prefix}
use Rattle.classes.proofs.lead_of.Goals as goal

pub returns-clause-count : goal.returns-clause-count
returns-clause-count c =
    let f = in_class c.args.class in
    let s = c.args.s.now in
    count_from_yields_List c.take_while.result _ c.count.ensures.ran
    (YieldsList-from_take_while _ f (YieldsList-from_slice s cc) c.take_while.ensures.closure c.take_while.ensures.done (λ x b q k. search (rules, tests)))
    ∙ length-prefix_len f s ∙ lead-prefix f s
