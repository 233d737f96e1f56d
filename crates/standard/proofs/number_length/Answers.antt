-- `number_length` meets its contract: no digit, or a sign or none and digits.
use native.Mathlib.Omega.{arith}
use lib.ListN.{length-take, length-drop}
use Rattle.standard.proofs.Rules.{number-none, number-some}
use Rattle.standard.proofs.number_length.Goals as goal

pub returns-then-d-eq0 : goal.returns-then-d-eq0
returns-then-d-eq0 c = (number-none _ _ _ c.leads-m.ensures.0 c.lead_of-d.ensures.count c.if-d-eq0.true, omega arith)

pub returns : goal.returns
returns c = (
  number-some _ _ _ c.leads-m.ensures.0 c.lead_of-d.ensures.count c.if-d-eq0.false,
  omega (arith, simp (length-take, length-drop) at c.lead_of-d.ensures.within, c.leads-m.ensures.1),
)
