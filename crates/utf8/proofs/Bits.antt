-- The code's mask and mark as a remainder and a sum: the bits of a mark and those below it have no place in common.
-- Assumes nothing.
use mathlib.Core.Path.{◌≡◌, ap, ◌∙◌}
use Prim.Native.Nat.{ℕ, ◌%◌, ◌<◌}
use native.Mathlib.Omega.{arith}
use lib.Bits.{bit_and, bit_or, and_le_r, and_mask, or_lt, or_shifted_r}
use Rattle.utf8.specs.Utf8.{tail}

-- two bytes' bits together are a byte
pub byte_or : (a b : ℕ) → a < 256 → b < 256 → bit_or a b < 256
byte_or = or_lt 8

-- so is what a mask leaves
pub byte-and : (a b : ℕ) → b < 256 → bit_and a b < 256
byte-and a b h = omega (arith, and_le_r a b)

-- a byte behind the first: the six low bits, marked
pub tail-bits : (x : ℕ) → bit_or (bit_and x 63) 128 ≡ tail x
tail-bits x = ap (λ (n : ℕ). bit_or n 128) (and_mask x 6) ∙ or_shifted_r 2 6 (x % 64) (omega arith)
