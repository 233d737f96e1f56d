-- `starts` meets its contract: the steps are the laws' steps, those of its callee among them. Assumes nothing.
use mathlib.Core.Path.{sym, ◌∙◌}
use native.Mathlib.Omega.{arith}
use lib.Bits.{bit_and, and_le_r, xor_lt}
use Rattle.slices.proofs.Bitwise.{done, marks-right, starts-right}
use Rattle.slices.proofs.eights.starts.Goals as goal

pub overflow_add-returns : goal.overflow_add-returns
overflow_add-returns c =
    let h = and_le_r c.args.y 9187201950435737471 in
    let l = xor_lt 63 (bit_and c.args.y 9187201950435737471) 8246779703540740722 (omega (arith, h)) (omega arith) in
    omega (arith, l)

pub returns : goal.returns
unfolding done
returns c = λ s n y q. let e = c.marks.ensures s n y q ∙ sym (marks-right s n y) in rw (e, q) (starts-right s n y)
