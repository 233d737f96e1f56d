-- `is_paid` meets its contract: a law for each count of bytes that are owed.
use mathlib.Core.Path.{◌∙◌}
use native.Mathlib.Omega.{arith}
use Rattle.wellformed.proofs.Lengths.{pays-short, pays-0, pays-1, pays-2, pays-3}
use Rattle.wellformed.proofs.is_paid.Goals as goal

pub returns-in-0-default : goal.returns-in-0-default
returns-in-0-default c = pays-0 _ _ _ _ c.in-0-default.is-0

pub returns-in-1-len1-up : goal.returns-in-1-len1-up
returns-in-1-len1-up c = c.takes.ensures ∙ pays-1 _ _ _ c.args.s.now c.in-1-len1-up.is-0 (omega arith)

pub returns-in-2-len2-up : goal.returns-in-2-len2-up
returns-in-2-len2-up c = rw c.takes-in-2-len2-up.ensures (pays-2 _ _ _ c.args.s.now c.in-2-len2-up.is-0 (omega arith) _ c.is_tail.ensures)

pub returns-in-3-len3-up : goal.returns-in-3-len3-up
returns-in-3-len3-up c =
    rw c.takes-in-3-len3-up.ensures
    (pays-3 _ _ _ c.args.s.now c.in-3-len3-up.is-0 (omega arith) _ _ c.is_tail-in-3-len3-up.ensures c.is_tail-in-3-len3-up-2.ensures)

pub returns-in_default : goal.returns-in_default
returns-in_default c = pays-short _ _ _ _ (omega arith)

pub returns-in_default-2 : goal.returns-in_default-2
returns-in_default-2 c = pays-short _ _ _ _ (omega arith)

pub returns-in_default-3 : goal.returns-in_default-3
returns-in_default-3 c = pays-short _ _ _ _ (omega arith)
