-- The code's shifts and masks as sums of powers of 128, once over the count of groups: the bits of a group and those of the
-- groups below it have no place in common.
--     seven-bits    a power of 128 is a shift by seven bits for each group
--     group-bits    a group, put behind i others
--     mark-bits     a group with the high bit
--     byte_or, byte-and    two bytes' bits together, and what a mask leaves, are a byte
-- Assumes nothing.
use mathlib.Core.Path.{◌≡◌, refl, sym, ap, ◌∙◌}
use Prim.Native.Nat.{ℕ, zero, suc, ◌+◌, ◌*◌, ◌%◌, ◌^◌, ◌≤◌, ◌<◌}
use native.Mathlib.Nat.{pow-suc}
use native.Mathlib.Omega.{arith}
use lib.Bits.{bit_and, bit_or, and_le_r, and_mask, or_lt, or_shifted_r}
use lib.Pow.{pow-add, shl_exact}

pub seven-bits : (i : ℕ) → 2 ^ (7 * i) ≡ 128 ^ i
seven-bits zero = refl
seven-bits (suc i) =
    let e : 7 * suc i ≡ 7 * i + 7 = omega arith in
    rw (e, pow-add 2 (7 * i) 7, seven-bits i) (sym (pow-suc 128 i))

pub group-bits : (value b shift i : ℕ) → shift ≡ 7 * i → i < 5 → value < 128 ^ i
    → bit_or value (bit_and b 127 * 2 ^ shift % 18446744073709551616) ≡ (b % 128) * 128 ^ i + value
group-bits value b shift i e h small =
    let g : b % 128 < 2 ^ 7 = omega arith in
    let k : 7 + shift ≤ 64 = omega arith in
    let p : 2 ^ shift ≡ 128 ^ i = ap (λ (x : ℕ). 2 ^ x) e ∙ seven-bits i in
    let l : value < 2 ^ shift = rw p small in
    let x : (b % 128) * 2 ^ shift % 2 ^ 64 ≡ (b % 128) * 2 ^ shift = shl_exact 7 shift 64 g k in
    rw (and_mask b 7) (ap (bit_or value) x ∙ or_shifted_r (b % 128) shift value l ∙ rw p)

pub mark-bits : (v : ℕ) → bit_or (bit_and v 127) 128 ≡ 128 + v % 128
mark-bits v = rw (and_mask v 7) (or_shifted_r 1 7 (v % 128) (omega arith))

pub byte_or : (a b : ℕ) → a < 256 → b < 256 → bit_or a b < 256
byte_or = or_lt 8

pub byte-and : (a b : ℕ) → b < 256 → bit_and a b < 256
byte-and a b h = omega (arith, and_le_r a b)
