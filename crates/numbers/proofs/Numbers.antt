-- What the numbers' definitions say, branch by branch of the code, and how large their values are.
--     hex-digit-..                                       the four kinds of byte
--     hex-pair-.., hex-pair-small                        the four kinds of pair; a pair's value is a byte
--     digits-none, -start, -other, -more, -over, -end    digits by an index, with the value so far; digits-small
--     decimal-none, -plain, -minus-bad, -minus-is        the sign; decimal-small, the value fits 32 bits
-- Assumes nothing.
use Rattle.std.proofs.Common.{◌≡◌, ℕ, suc, ◌+◌, ◌-◌, ◌*◌, ◌%◌, ◌<◌, ◌≤◌, Bool, true, false, cond, ◌&&◌, eqb, ltb, leb, List, [], ◌∷◌, length, get_or, take, drop, sym, refl, ap, ◌∙◌, add-one, arith, drop_of_length-le, take_all, drop-cons, ltb-false, le-ltb, lt-ltb, eq-eqb, ne_eqb, le-leb, leb-true}
use borrow.Author.Tests.{lt-leb}
use Rattle.numbers.specs.Numbers.{between, hex_digit, hex_pair, digits_from, capped, digits, negated, decimal}
use Rattle.std.specs.Prelude.{Option, Some, None}

-- so the code's `b - low` does not go below zero
pub between-low : (low high b : ℕ) → between low high b ≡ true → low ≤ b
between-low low high b t = leb-true low b (go (leb low b) (leb b high) t)
  where
    go : (x y : Bool) → x && y ≡ true → x ≡ true
    go true y q = refl
    go false y q = q

module _ (b : ℕ) where
  pub hex-digit-figure : between 48 57 b ≡ true → b - 48 ≡ hex_digit b
  unfolding hex_digit
  hex-digit-figure t = rw t

  module _ (f : between 48 57 b ≡ false) where
    pub hex-digit-upper : between 65 70 b ≡ true → b - 65 + 10 ≡ hex_digit b
    unfolding hex_digit
    hex-digit-upper t = rw (f, t)

    pub hex-digit-lower : between 65 70 b ≡ false → between 97 102 b ≡ true → b - 97 + 10 ≡ hex_digit b
    unfolding hex_digit
    hex-digit-lower g t = rw (f, g, t)

    pub hex-digit-none : between 65 70 b ≡ false → between 97 102 b ≡ false → 16 ≡ hex_digit b
    unfolding hex_digit
    hex-digit-none g k = rw (f, g, k)

module _ (a b y : ℕ) (q : y ≡ hex_digit b) where
  pub hex-pair-bad : 15 < y → None ≡ hex_pair a b
  unfolding hex_pair
  hex-pair-bad h = rw (← q, lt-ltb 15 y h)

  pub hex-pair-plus : y ≤ 15 → a ≡ 43 → Some y ≡ hex_pair a b
  unfolding hex_pair
  hex-pair-plus h e = rw (← q, le-ltb 15 y h, eq-eqb a 43 e)

  module _ (h : y ≤ 15) (f : a ≡ 43 → ⊥) (x : ℕ) (p : x ≡ hex_digit a) where
    pub hex-pair-worse : 15 < x → None ≡ hex_pair a b
    unfolding hex_pair
    hex-pair-worse k = rw (← q, ← p, le-ltb 15 y h, ne_eqb a 43 f, lt-ltb 15 x k)

    pub hex-pair-both : x ≤ 15 → Some (x * 16 + y) ≡ hex_pair a b
    unfolding hex_pair
    hex-pair-both k = rw (← q, ← p, le-ltb 15 y h, ne_eqb a 43 f, le-ltb 15 x k)

-- by its three tests; `Bad` is no value
pub hex-pair-small : (a b v : ℕ) → hex_pair a b ≡ Some v → v < 256
unfolding hex_pair
hex-pair-small a b v e = go (ltb 15 (hex_digit b)) (eqb a 43) (ltb 15 (hex_digit a)) refl refl e
  where
    go : (t u w : Bool) → ltb 15 (hex_digit b) ≡ t → ltb 15 (hex_digit a) ≡ w → cond t None (cond u (Some (hex_digit b)) (cond w None (Some (hex_digit a * 16 + hex_digit b)))) ≡ Some v → v < 256
    go true u w p q r = let z : ◌≡◌ {A = ℕ} 0 1 = cc in omega arith
    go false true w p q r = let k : hex_digit b ≡ v = cc in omega (arith, ltb-false 15 (hex_digit b) p)
    go false false true p q r = let z : ◌≡◌ {A = ℕ} 0 1 = cc in omega arith
    go false false false p q r =
        let k : hex_digit a * 16 + hex_digit b ≡ v = cc in
        omega (arith, ltb-false 15 (hex_digit b) p, ltb-false 15 (hex_digit a) q)

module _ (limit : ℕ) (s : List ℕ) where
  -- the digits from an index on, after v was read, give the whole value
  pub Digits : ℕ → ℕ → Type 0
  Digits v i = digits limit s ≡ capped limit (digits_from v (drop i s))

pub digits-none : (limit : ℕ) (s : List ℕ) → length s ≡ 0 → None ≡ digits limit s
unfolding digits
digits-none limit [] h = refl
digits-none limit (d ∷ s) h = absurd (omega arith)

pub digits-start : (limit : ℕ) (s : List ℕ) → (length s ≡ 0 → ⊥) → Digits limit s 0 0
unfolding Digits digits
digits-start limit [] f = absurd (f refl)
digits-start limit (d ∷ s) f = refl

-- a value over the limit stays over it
over : (limit v : ℕ) (s : List ℕ) → limit < v → capped limit (digits_from v s) ≡ None
unfolding digits_from
over limit v [] h = rw (lt-leb v limit h)
over limit v (d ∷ s) h = go (ltb 9 (hex_digit d)) (over limit (v * 10 + hex_digit d) s (omega arith))
  where
    go : (t : Bool) → capped limit (digits_from (v * 10 + hex_digit d) s) ≡ None → capped limit (cond t None (digits_from (v * 10 + hex_digit d) s)) ≡ None
    go true r = refl
    go false r = r

module _ (limit : ℕ) (s : List ℕ) (v i : ℕ) (e : Digits limit s v i) where
  module _ (h : i < length s) (d : ℕ) (q : d ≡ hex_digit (get_or s i 0)) where
    pub digits-other : 9 < d → None ≡ digits limit s
    unfolding Digits digits_from
    digits-other k = sym (e ∙ rw (drop-cons s i 0 h, ← q, lt-ltb 9 d k))

    pub digits_more : d ≤ 9 → Digits limit s (v * 10 + d) (i + 1)
    unfolding Digits digits_from
    digits_more k = e ∙ rw (drop-cons s i 0 h, ← q, le-ltb 9 d k, add-one)

    pub digits-over : d ≤ 9 → limit < v * 10 + d → None ≡ digits limit s
    unfolding Digits
    digits-over k l = sym (digits_more k ∙ over limit (v * 10 + d) (drop (i + 1) s) l)

  pub digits-end : length s ≤ i → v ≤ limit → Some v ≡ digits limit s
  unfolding Digits digits_from
  digits-end h g = sym (e ∙ rw (drop_of_length-le s h, le-leb v limit g))

pub decimal-none : (s : List ℕ) → length s ≡ 0 → None ≡ decimal s
unfolding decimal
decimal-none [] h = refl
decimal-none (b ∷ s) h = absurd (omega arith)

module _ (r : Option ℕ) where
  pub decimal-plain : (s : List ℕ) → (length s ≡ 0 → ⊥) → (get_or s 0 0 ≡ 45 → ⊥) → r ≡ digits 2147483647 s → r ≡ decimal s
  unfolding decimal
  decimal-plain [] n f q = absurd (n refl)
  decimal-plain (b ∷ s) n f q = rw (ne_eqb b 45 f) q

  minus : (s : List ℕ) → (length s ≡ 0 → ⊥) → get_or s 0 0 ≡ 45 → r ≡ digits 2147483648 (take (length s - 1) (drop 1 s)) → decimal s ≡ negated r
  unfolding decimal
  minus [] n e q = absurd (n refl)
  minus (b ∷ s) n e q = rw (e, q, take_all (suc (length s) - 1) s (omega arith))

  module _ (s : List ℕ) (n : length s ≡ 0 → ⊥) (e : get_or s 0 0 ≡ 45) (q : r ≡ digits 2147483648 (take (length s - 1) (drop 1 s))) where
    pub decimal-minus-bad : r ≡ None → None ≡ decimal s
    decimal-minus-bad b = sym (minus s n e q ∙ ap negated b)

    pub decimal-minus-is : (v x : ℕ) → r ≡ Some v → x < 4294967296 → v < 4294967296 → (x + v) % 4294967296 ≡ 0 → Some x ≡ decimal s
    decimal-minus-is v x b hx hv z =
        let w : x ≡ (4294967296 - v) % 4294967296 = omega arith in
        ap Some w ∙ sym (minus s n e q ∙ ap negated b)

capped_small : (limit v : ℕ) (n : Option ℕ) → capped limit n ≡ Some v → v ≤ limit
capped_small limit v None e = let z : ◌≡◌ {A = ℕ} 0 1 = cc in omega arith
capped_small limit v (Some x) e = go (leb x limit) refl e
  where
    go : (t : Bool) → leb x limit ≡ t → cond t (Some x) None ≡ Some v → v ≤ limit
    go true p r = let k : x ≡ v = cc in omega (arith, leb-true x limit p)
    go false p r = let z : ◌≡◌ {A = ℕ} 0 1 = cc in omega arith

pub digits-small : (limit : ℕ) (s : List ℕ) (v : ℕ) → digits limit s ≡ Some v → v ≤ limit
unfolding digits
digits-small limit [] v e = let z : ◌≡◌ {A = ℕ} 0 1 = cc in omega arith
digits-small limit (d ∷ s) v e = capped_small limit v (digits_from 0 (d ∷ s)) e

negated-small : (v : ℕ) (n : Option ℕ) → negated n ≡ Some v → v < 4294967296
negated-small v None e = let z : ◌≡◌ {A = ℕ} 0 1 = cc in omega arith
negated-small v (Some x) e = let k : (4294967296 - x) % 4294967296 ≡ v = cc in omega arith

pub decimal-small : (s : List ℕ) (v : ℕ) → decimal s ≡ Some v → v < 4294967296
unfolding decimal
decimal-small [] v e = let z : ◌≡◌ {A = ℕ} 0 1 = cc in omega arith
decimal-small (b ∷ s) v e = go (eqb b 45) e
  where
    go : (t : Bool) → cond t (negated (digits 2147483648 s)) (digits 2147483647 (b ∷ s)) ≡ Some v → v < 4294967296
    go true r = negated-small v (digits 2147483648 s) r
    go false r = omega (arith, digits-small 2147483647 (b ∷ s) v r)
