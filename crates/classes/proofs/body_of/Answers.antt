-- `body_of` meets its contract: the chain counts the bytes that `body` leaves off.
use Rattle.std.proofs.Common.{length, ◌-◌, ◌∙◌, ap, rules, tests}
use Rattle.std.specs.Prelude.{reverse}
use Rattle.std.proofs.lemmas.Iterator.Adapters.{YieldsList-from_rev_slice}
use Rattle.std.proofs.lemmas.Iterator.Consumers.{count_from_yields_List}
use Rattle.std.proofs.lemmas.Iterator.Search.{YieldsList-from_take_while}
use Rattle.std.proofs.lemmas.List.Folds.{length-prefix_len}
use Rattle.classes.specs.Bytes.{in_class}
use Rattle.classes.proofs.Runs.{body-suffix}
use Rattle.classes.proofs.body_of.Goals as goal

pub returns-clause-count : goal.returns-clause-count
returns-clause-count c =
    let f = in_class c.args.class in
    let s = c.args.s.now in
    let trimmed = count_from_yields_List c.take_while.result _ c.count-trimmed.ensures.ran
    (YieldsList-from_take_while _ f (YieldsList-from_rev_slice s cc) c.take_while.ensures.closure c.take_while.ensures.done (λ x b q k. search (rules, tests)))
    ∙ length-prefix_len f (reverse s) in
    ap (λ n. length s - n) trimmed ∙ body-suffix f s
