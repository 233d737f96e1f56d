-- `marks` meets its contract: the steps are the laws' steps, and no sum outgrows the number, whatever y is. Assumes nothing.
use Prim.Native.Nat.{ℕ, ◌+◌, ◌<◌}
use native.Mathlib.Omega.{arith}
use lib.Bits.{bit_and, bit_xor, and_le_r, xor_lt, xor_add_and}
use Rattle.slices.proofs.Bitwise.{done, marks-right}
use Rattle.slices.proofs.eights.marks.Goals as goal

pub overflow_add-braces : goal.overflow_add-braces
overflow_add-braces c = let h = and_le_r c.args.y 9187201950435737471 in omega (arith, h)

pub overflow_add-braces-2 : goal.overflow_add-braces-2
overflow_add-braces-2 c = let h = and_le_r (bit_and c.args.y 9187201950435737471 + 144680345676153346) 9042521604759584125 in omega (arith, h)

first-xor : (y : ℕ) → bit_xor (bit_and y 9187201950435737471) 2531906049332683555 < 9223372036854775808
first-xor y = let h = and_le_r y 9187201950435737471 in xor_lt 63 (bit_and y 9187201950435737471) 2531906049332683555 (omega (arith, h)) (omega arith)

pub overflow_add-others : goal.overflow_add-others
overflow_add-others c = let h = first-xor c.args.y in omega (arith, h)

pub overflow_add-others-2 : goal.overflow_add-others-2
overflow_add-others-2 c = let h = first-xor c.args.y in let g = xor_add_and (bit_xor (bit_and c.args.y 9187201950435737471) 2531906049332683555 + 72340172838076673) 6148914691236517205 in omega (arith, h, g)

pub returns : goal.returns
unfolding done
returns c = λ s n y q. rw q (marks-right s n y)
