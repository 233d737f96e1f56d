-- `passed` meets its contract: another token than an opening bracket, or the group behind it.
use native.Mathlib.Omega.{arith}
use mathlib.Core.Path.{refl, sym, ◌∙◌}
use Rattle.tokens.proofs.Items.{kind-number}
use Rattle.std.specs.Prelude.{◌-◌}
use Rattle.tokens.specs.Items.{shown_all}
use Rattle.tokens.specs.Tokens.{token_words}
use Rattle.tokens.specs.declared.Kind.TheVariants as kinds
use Rattle.tokens.proofs.Items.{rest}
use Rattle.body.proofs.Groups.{passed_none, passed-group}
use Rattle.body.proofs.group.passed.Goals as goal

pub returns-in-Opening : goal.returns-in-Opening
returns-in-Opening c = ((λ src. passed-group src c.args.t.now (shown_all src (c.args.n - 1) (rest c.args.t.now token_words)) c.group_length.result (kind-number c.args.t.now {k = kinds.Opening} (sym c.kind_at.ensures ∙ c.in-Opening.is) tt) (c.group_length.ensures.0 src)), c.group_length.ensures.1)

pub returns-in_default : goal.returns-in_default
returns-in_default c = ((λ src. passed_none src c.args.t.now _ (λ e. c.in_default.not-Opening (c.kind_at.ensures ∙ rw e refl))), omega arith)
