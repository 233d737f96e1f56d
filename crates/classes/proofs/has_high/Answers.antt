-- `has_high` meets its contract: the fold joins what `any` joins.
use Rattle.std.proofs.Common.{◌∙◌, ◌||◌, rules, tests}
use Rattle.std.proofs.lemmas.Iterator.{YieldsList-from_slice}
use Rattle.std.proofs.lemmas.Iterator.Consumers.{fold_from_yields_List}
use Rattle.classes.specs.Bytes.{is_high}
use Rattle.classes.proofs.Runs.{any-fold}
use Rattle.classes.proofs.has_high.Goals as goal

pub returns : goal.returns
returns c =
    let s = c.args.s.now in
    fold_from_yields_List _ (λ t b. t || is_high b) _ _ c.fold.ensures.ran (YieldsList-from_slice s cc) (λ a x b q k. search (rules, tests))
    ∙ any-fold is_high s
