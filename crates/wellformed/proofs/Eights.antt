-- The high bits of eight bytes, by a mask. Assumes nothing.
use mathlib.Core.Path.{◌≡◌, refl, ap₂, ◌∙◌}
use mathlib.Core.List.{List, [], ◌∷◌}
use mathlib.Core.Bool.{Bool, true, false, cond}
use Prim.Native.Nat.{ℕ, zero, suc, ◌+◌, ◌*◌, ◌/◌, ◌%◌, ◌≤◌, ◌<◌}
use native.Mathlib.Omega.{arith}
use lib.Bits.{bit_and, and_block, and_high}
use lib.ListN.{length, get_or}
use borrow.Author.Tests.{ltb-true, ltb-false}
use Rattle.std.specs.Int.{w64, from_le_bytes}
use Rattle.classes.specs.Bytes.{is_high}
use Rattle.classes.specs.Eights.{packed, marked}
use Rattle.classes.proofs.Marks.{at-eight, packed-le}
use Rattle.wellformed.specs.Ascii.{highs}

-- 128 for each byte
unfoldable mask : List ℕ → ℕ
mask [] = zero
mask (b ∷ s) = mask s * 256 + 128

-- a byte's high bit
high_bit : (b : ℕ) → b < 256 → bit_and b 128 ≡ cond (is_high b) 128 zero
high_bit b h = and_high b 1 7 ∙ go (is_high b) refl
  where
    go : (t : Bool) → is_high b ≡ t → b / 128 % 2 * 128 ≡ cond t 128 zero
    go true e = let l : 127 < b = ltb-true 127 b e in omega arith
    go false e = let l : b ≤ 127 = ltb-false 127 b e in omega arith

masked : (s : List ℕ) → ((i : ℕ) → get_or s i 0 < 256) → bit_and (packed s) (mask s) ≡ highs s
unfolding packed marked mask
masked [] y = refl
masked (b ∷ s) y =
    and_block 8 (packed s) (mask s) b 128 (y zero) (omega arith)
    ∙ ap₂ (λ (m n : ℕ). m * 256 + n) (masked s (λ i. y (suc i))) (high_bit b (y zero))

pub highs-right : (s : List ℕ) → length s ≡ 8 → ((i : ℕ) → get_or s i 0 < 256) → (w : ℕ) → w ≡ from_le_bytes w64 s → bit_and w 9259542123273814144 ≡ highs s
unfolding mask
highs-right s n y w q =
    ap₂ bit_and (q ∙ packed-le s n) (at-eight (λ (l : List ℕ). 9259542123273814144 ≡ mask l) (λ a b c d e f g h. refl) s n)
    ∙ masked s y
