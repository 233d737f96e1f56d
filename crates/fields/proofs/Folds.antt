-- Folded numbers: each way undoes the other, over all of 32 bits; and the code's shifts.
-- Assumes nothing.
use mathlib.Core.Path.{◌≡◌, refl}
use mathlib.Core.Bool.{Bool, true, false}
use Prim.Native.Nat.{ℕ, ◌+◌, ◌-◌, ◌*◌, ◌/◌, ◌%◌, ◌<◌, ◌≤◌}
use native.Mathlib.Omega.{arith}
use borrow.Author.Tests.{ltb-true, ltb-false, lt-ltb, le-ltb, eq-eqb, ne_eqb, eqb-true, eqb-false}
use lib.Dec.{ltb, eqb}
use Rattle.fields.specs.Fields.{folded, unfolded}

module _ (w : ℕ) where
  pub fold-low : w < 2147483648 → folded w ≡ 2 * w
  unfolding folded
  fold-low h = rw (lt-ltb w 2147483648 h)

  pub fold-high : 2147483648 ≤ w → folded w ≡ 2 * (4294967296 - w) - 1
  unfolding folded
  fold-high h = rw (le-ltb w 2147483648 h)

  pub unfold-even : w % 2 ≡ 0 → unfolded w ≡ w / 2
  unfolding unfolded
  unfold-even h = rw (eq-eqb (w % 2) 0 h)

  pub unfold-odd : (w % 2 ≡ 0 → ⊥) → unfolded w ≡ 4294967296 - (w + 1) / 2
  unfolding unfolded
  unfold-odd h = rw (ne_eqb (w % 2) 0 h)

  pub folded-small : w < 4294967296 → folded w < 4294967296
  folded-small h = go (ltb w 2147483648) refl
    where
      go : (t : Bool) → ltb w 2147483648 ≡ t → folded w < 4294967296
      go true e = let l = ltb-true w 2147483648 e in rw (fold-low l) (omega (arith, l))
      go false e = let l = ltb-false w 2147483648 e in rw (fold-high l) (omega (arith, l, h))

  pub unfolded-small : w < 4294967296 → unfolded w < 4294967296
  unfolded-small h = go (eqb (w % 2) 0) refl
    where
      go : (t : Bool) → eqb (w % 2) 0 ≡ t → unfolded w < 4294967296
      go true e = rw (unfold-even (eqb-true (w % 2) 0 e)) (omega (arith, h))
      go false e = let z = eqb-false (w % 2) 0 e in rw (unfold-odd z) (omega (arith, h, z))

pub unfold-fold : (w : ℕ) → w < 4294967296 → unfolded (folded w) ≡ w
unfold-fold w h = go (ltb w 2147483648) refl
  where
    go : (t : Bool) → ltb w 2147483648 ≡ t → unfolded (folded w) ≡ w
    go true e =
        let l = ltb-true w 2147483648 e in
        let z : (2 * w) % 2 ≡ 0 = omega arith in
        rw (fold-low w l, unfold-even (2 * w) z) (omega arith)
    go false e =
        let l = ltb-false w 2147483648 e in
        let z : ((2 * (4294967296 - w) - 1) % 2 ≡ 0 → ⊥) = λ q. omega (arith, q, l, h) in
        rw (fold-high w l, unfold-odd (2 * (4294967296 - w) - 1) z) (omega (arith, l, h))

pub fold-unfold : (n : ℕ) → n < 4294967296 → folded (unfolded n) ≡ n
fold-unfold n h = go (eqb (n % 2) 0) refl
  where
    go : (t : Bool) → eqb (n % 2) 0 ≡ t → folded (unfolded n) ≡ n
    go true e =
        let z = eqb-true (n % 2) 0 e in
        rw (unfold-even n z, fold-low (n / 2) (omega (arith, h))) (omega (arith, z))
    go false e =
        let z = eqb-false (n % 2) 0 e in
        rw (unfold-odd n z, fold-high (4294967296 - (n + 1) / 2) (omega (arith, h, z))) (omega (arith, h, z))
