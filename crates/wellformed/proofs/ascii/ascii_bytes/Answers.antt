-- `ascii_bytes` meets its contract: each byte that the chain counts is ASCII.
use Rattle.std.proofs.lemmas.Bool.Decides.{nat_tests}
use Rattle.std.proofs.Common.{arith, ℕ, nat_lt, ◌≡◌, drop, ◌∙◌, rules, tests}
use Rattle.std.proofs.lemmas.Iterator.{YieldsList-from_slice}
use Rattle.std.proofs.lemmas.Iterator.Consumers.{count_from_yields_List}
use Rattle.std.proofs.lemmas.Iterator.Search.{YieldsList-from_take_while}
use Rattle.std.proofs.lemmas.List.{take_rest}
use Rattle.std.proofs.lemmas.List.Folds.{length-prefix_len}
use Rattle.classes.specs.Bytes.{is_high, lead}
use Rattle.classes.specs.Eights.{outside}
use Rattle.classes.proofs.Runs.{lead-prefix}
use Rattle.wellformed.proofs.Passing.{passed-lead}
use Rattle.wellformed.proofs.ascii.ascii_bytes.Goals as goal

-- ASCII is what is not above 127
below-128 : (b : ℕ) → nat_lt b 128 ≡ outside is_high b
below-128 b = grind (arith, nat_tests)

pub returns : goal.returns
returns c =
    let f = outside is_high in
    let s = drop c.args.from c.args.s.now in
    let rest = take_rest c.args.s.now c.args.from in
    let passed : c.count-passed.result ≡ lead f s = count_from_yields_List c.take_while.result c.count-passed.result c.count-passed.ensures.ran
    (YieldsList-from_take_while _ f (YieldsList-from_slice s cc) c.take_while.ensures.closure c.take_while.ensures.done (λ x b q k. let l = below-128 x.now in search (rules, tests)))
    ∙ length-prefix_len f s ∙ lead-prefix f s in
    rw passed (passed-lead c.args.s.now c.args.from c.requires)
