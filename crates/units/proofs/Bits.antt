-- The code's shift and masks as a remainder and a sum: the ten bits of either half of a pair have no place in common.
-- Assumes nothing.
use mathlib.Core.Path.{◌≡◌}
use Prim.Native.Nat.{ℕ, ◌+◌, ◌*◌, ◌%◌, ◌<◌}
use native.Mathlib.Omega.{arith}
use lib.Bits.{bit_and, bit_or, and_mask, or_shifted}

-- ten low bits of each half
pub pair-bits : (u v : ℕ) → bit_or (bit_and u 1023 * 1024 % 4294967296) (bit_and v 1023) ≡ (u % 1024) * 1024 + v % 1024
pair-bits u v =
    rw (and_mask u 10, and_mask v 10, go)
    (or_shifted (u % 1024) 10 (v % 1024) (omega arith))
  where
    go : (u % 1024) * 1024 % 4294967296 ≡ (u % 1024) * 1024
    go = omega arith

-- so they fit with 0x10000 added
pub pair_fits : (u v : ℕ) → bit_or (bit_and u 1023 * 1024 % 4294967296) (bit_and v 1023) + 65536 < 4294967296
pair_fits u v = omega (arith, pair-bits u v)
