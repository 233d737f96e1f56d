-- `leads` meets its contract: whether the first byte is that byte.
use mathlib.Core.Path.{◌≡◌, refl, ap, ◌∙◌}
use native.Mathlib.Omega.{arith}
use mir.Val.{bool_byte}
use Rattle.standard.specs.Standard.{leads}
use Rattle.standard.proofs.Rules.{leads-first, leads-within}
use Rattle.standard.proofs.leads.Goals as goal

pub returns : goal.returns
returns c =
    let e : c.from.result ≡ leads c.args.b c.args.s.now = c.from.ensures ∙ ap bool_byte c.eq.ensures ∙ leads-first c.args.b c.args.s.now _ _ c.first.ensures.value refl in
    (e, omega (arith, e, leads-within c.args.b c.args.s.now))
