-- `letters_of` meets its contract: the chain counts what `lead` counts. Assumes nothing.
use Rattle.std.proofs.Common.{◌≡◌, ◌∙◌, rules, tests, arith}
use Rattle.std.proofs.lemmas.Iterator.{YieldsList-from_slice}
use Rattle.std.proofs.lemmas.Iterator.Consumers.{count_from_yields_List}
use Rattle.std.proofs.lemmas.Iterator.Search.{YieldsList-from_take_while}
use Rattle.std.proofs.lemmas.List.Folds.{length-prefix_len}
use Rattle.classes.specs.Bytes.{is_letter, lead}
use Rattle.classes.proofs.Runs.{lead-prefix, lead-length}
use Rattle.tokenize.proofs.quick.letters_of.Goals as goal

pub returns : goal.returns
returns c =
    let s = c.args.s.now in
    let e : c.count.result ≡ lead is_letter s =
    count_from_yields_List c.take_while.result _ c.count.ensures.ran
    (YieldsList-from_take_while _ is_letter (YieldsList-from_slice s cc) c.take_while.ensures.closure c.take_while.ensures.done (λ x b q k. search (rules, tests)))
    ∙ length-prefix_len is_letter s ∙ lead-prefix is_letter s in
    (e, omega (arith, e, lead-length is_letter s))
