-- The digits of a number: the fewest that hold it are as many as `places` says.
--     decimal-is   what `io::decimal` answers spells the number
-- Assumes nothing.
use Prim.Native.Nat.{ℕ, zero, suc, ◌-◌, ◌/◌, ◌^◌, ◌≤◌, ◌<◌}
use mathlib.Core.Path.{◌≡◌, refl, ap, ◌∙◌}
use mathlib.Core.List.{List}
use mathlib.Core.Bool.{Bool, true, false, cond}
use native.Mathlib.Nat.{pow-zero, pow-suc, pow-le-pow_right}
use native.Mathlib.Omega.{arith}
use borrow.Author.Tests.{ltb-true, ltb-false, leb-true, leb-false}
use lib.Dec.{ltb, leb}
use Rattle.io.specs.Digits.{last_digits, IsDigitCount}
use Rattle.lines.specs.Lines.{places, decimal}

pow_pos : (k : ℕ) → 0 < 10 ^ k
pow_pos zero = rw (pow-zero 10) (omega arith)
pow_pos (suc k) = let h = pow_pos k in let e = pow-suc 10 k in omega arith

fewest-less : (n k : ℕ) → 10 ≤ n → IsDigitCount 10 1 n (suc (suc k)) → IsDigitCount 10 1 (n / 10) (suc k)
fewest-less n k h f =
    let e = pow-suc 10 (suc k) in
    let g = pow-suc 10 k in
    let b : n < 10 ^ suc (suc k) = f.1 in
    let o : suc (suc k) - 1 ≡ suc k = omega arith in
    let c : 10 ^ suc k ≤ n = rw o at (f.2 (omega arith)) in
    let o' : suc k - 1 ≡ k = omega arith in
    (omega arith, omega arith, λ _. rw o' (omega arith))

pub places_is : (f n k : ℕ) → k ≤ suc f → IsDigitCount 10 1 n k → k ≡ places f n
unfolding places
places_is zero n k h w = let a = w.0 in omega arith
places_is (suc f) n zero h w = absurd (let a = w.0 in omega arith)
places_is (suc f) n (suc zero) h w = go (ltb n 10) refl
  where
    go : (t : Bool) → ltb n 10 ≡ t → 1 ≡ cond t 1 (suc (places f (n / 10)))
    go true e = refl
    go false e = absurd (let a = ltb-false n 10 e in let b : n < 10 ^ 1 = w.1 in let c : 10 ^ 1 ≡ 10 = refl in omega arith)
places_is (suc f) n (suc (suc k)) h w = go (ltb n 10) refl (λ g. places_is f (n / 10) (suc k) (omega arith) (fewest-less n k g w))
  where
    go : (t : Bool) → ltb n 10 ≡ t → (10 ≤ n → suc k ≡ places f (n / 10)) → suc (suc k) ≡ cond t 1 (suc (places f (n / 10)))
    go true e _ = absurd (let a = ltb-true n 10 e in let p = pow_pos k in let o : suc (suc k) - 1 ≡ suc k = omega arith in let b : 10 ^ suc k ≤ n = rw o at (w.2 (omega arith)) in let c = pow-suc 10 k in omega arith)
    go false e less = ap suc (less (ltb-false n 10 e))

-- a number of 64 bits has at most twenty digits
few : (n k : ℕ) → n < 18446744073709551616 → IsDigitCount 10 1 n k → k ≤ 20
few n k h w = go (leb k 20) refl
  where
    go : (t : Bool) → leb k 20 ≡ t → k ≤ 20
    go true e = leb-true k 20 e
    go false e =
        absurd
        (let l = leb-false k 20 e in
        let b : 10 ^ (k - 1) ≤ n = w.2 (omega arith) in
        let p : 10 ^ 20 ≤ 10 ^ (k - 1) = pow-le-pow_right {n = 10} (omega arith) {i = 20} {j = k - 1} (omega arith) in
        let q : 10 ^ 20 ≡ 100000000000000000000 = refl in
        omega arith)

pub decimal-is : (n k : ℕ) (s : List ℕ) → n < 18446744073709551616 → IsDigitCount 10 1 n k → s ≡ last_digits 10 k n → s ≡ decimal n
unfolding decimal
decimal-is n k s h w e = e ∙ ap (λ (j : ℕ). last_digits 10 j n) (places_is 19 n k (few n k h w) w)
