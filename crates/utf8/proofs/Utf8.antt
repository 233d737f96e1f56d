-- What a sequence of UTF-8 looks like, and that it gives its value back. All but the first byte's range is said once, over
-- the count n of bytes behind the first, each of which is a digit to the base 64.
--     utf8-sequence, length-utf8                    `utf8` as a sequence by its count; its length
--     value-sequence, value-utf8                    round trip, a sum of powers of 64
--     utf8-injective                                so two values with one sequence are equal
--     written-scalar, value_written, written-injective    the same of `written`, for scalar values
--     low_scalar                                    a scalar value is at most 0x10FFFF
--     length-written                                1 to 4 bytes
--     encoded-length, encoded-bytes                 what a caller of `encode` holds
--     one_byte .. four_bytes, encoded-scalar, encoded-other    a branch of the code each
-- Assumes nothing.
use mathlib.Core.Path.{◌≡◌, refl, sym, ap, ◌∙◌}
use mathlib.Core.List.{List, [], ◌∷◌}
use mathlib.Core.Bool.{Bool, true, false, cond, not, ◌&&◌}
use Prim.Native.Nat.{ℕ, zero, suc, ◌+◌, ◌-◌, ◌/◌, ◌%◌, ◌^◌, ◌≤◌, ◌<◌}
use native.Mathlib.Omega.{arith}
use native.Mathlib.Nat.{add-sub_cancel_left, div-add-mod', div-one, mod-one, one-le-pow, pow-succ', zero-add}
use lib.Arith.{mod-mul}
use lib.Dec.{leb, ltb}
use lib.ListN.{length, take, replicate}
use lib.Seq.{take_at}
use borrow.Author.Tests.{leb-true, ltb-true, ltb-false, lt-ltb, le-ltb}
use Rattle.utf8.specs.declared.Encoded.{Encoded}
use Rattle.utf8.specs.Utf8.{is_scalar, tail, utf8, written, padded, encoded_of, mark, tail_value, value_of}

-- the n lowest digits to the base 64, the highest first, each a byte 10xxxxxx
unfoldable pub tails : ℕ → ℕ → List ℕ
tails zero c = []
tails (suc n) c = tail (c / 64 ^ n) ∷ tails n c

-- a first byte with n behind it
unfoldable pub sequence : ℕ → ℕ → List ℕ
sequence n c = (mark n + c / 64 ^ n) ∷ tails n c

-- how many bytes stand behind the first
unfoldable pub behind : ℕ → ℕ
behind c = cond (ltb c 128) 0 (cond (ltb c 2048) 1 (cond (ltb c 65536) 2 3))

pub utf8-sequence : (c : ℕ) → utf8 c ≡ sequence (behind c) c
unfolding utf8 behind sequence tails
utf8-sequence c = go (ltb c 128) (ltb c 2048) (ltb c 65536)
  where
    go : (t u v : Bool)
        → cond t (c ∷ []) (cond u ((192 + c / 64) ∷ (tail c ∷ [])) (cond v ((224 + c / 4096) ∷ (tail (c / 64) ∷ (tail c ∷ []))) ((240 + c / 262144) ∷ (tail (c / 4096) ∷ (tail (c / 64) ∷ (tail c ∷ []))))))
        ≡ sequence (cond t 0 (cond u 1 (cond v 2 3))) c
    go true u v = simp (div-one, zero-add)
    go false true v = simp div-one
    go false false true = simp div-one
    go false false false = simp div-one

-- by the ranges of the table
ranges : (c : ℕ) (P : ℕ → Type 0) → (c < 128 → P 0) → (128 ≤ c → c < 2048 → P 1) → (2048 ≤ c → c < 65536 → P 2) → (65536 ≤ c → P 3) → P (behind c)
unfolding behind
ranges c P h0 h1 h2 h3 = go (ltb c 128) (ltb c 2048) (ltb c 65536) refl refl refl
  where
    go : (t u v : Bool) → ltb c 128 ≡ t → ltb c 2048 ≡ u → ltb c 65536 ≡ v → P (cond t 0 (cond u 1 (cond v 2 3)))
    go true u v p q r = h0 (ltb-true c 128 p)
    go false true v p q r = h1 (ltb-false c 128 p) (ltb-true c 2048 q)
    go false false true p q r = h2 (ltb-false c 2048 q) (ltb-true c 65536 r)
    go false false false p q r = h3 (ltb-false c 65536 r)

length-tails : (n c : ℕ) → length (tails n c) ≡ n
unfolding tails
length-tails zero c = refl
length-tails (suc n) c = ap suc (length-tails n c)

pub length-utf8 : (c : ℕ) → length (utf8 c) ≡ suc (behind c)
unfolding sequence
length-utf8 c = ap length (utf8-sequence c) ∙ ap suc (length-tails (behind c) c)

value-tails : (n c : ℕ) → tail_value (tails n c) ≡ c % 64 ^ n
unfolding tails tail_value
value-tails zero c = sym (mod-one c)
value-tails (suc n) c =
    rw (length-tails n c, value-tails n c, add-sub_cancel_left, pow-succ')
    (sym (mod-mul c (omega arith) (one-le-pow n 64 (omega arith))))

pub value-sequence : (n c : ℕ) → value_of (sequence n c) ≡ c
unfolding sequence value_of
value-sequence n c = rw (length-tails n c, value-tails n c, add-sub_cancel_left) (div-add-mod' c (64 ^ n))

pub value-utf8 : (c : ℕ) → value_of (utf8 c) ≡ c
value-utf8 c = ap value_of (utf8-sequence c) ∙ value-sequence (behind c) c

pub utf8-injective : (c d : ℕ) → utf8 c ≡ utf8 d → c ≡ d
utf8-injective c d e = sym (value-utf8 c) ∙ ap value_of e ∙ value-utf8 d

pub written-scalar : (c : ℕ) → is_scalar c ≡ true → written c ≡ utf8 c
unfolding written
written-scalar c t = rw t

pub value_written : (c : ℕ) → is_scalar c ≡ true → value_of (written c) ≡ c
value_written c t = ap value_of (written-scalar c t) ∙ value-utf8 c

pub written-injective : (c d : ℕ) → is_scalar c ≡ true → is_scalar d ≡ true → written c ≡ written d → c ≡ d
written-injective c d t u e = sym (value_written c t) ∙ ap value_of e ∙ value_written d u

pub low_scalar : (c : ℕ) → is_scalar c ≡ true → c ≤ 1114111
low_scalar c t = leb-true c 1114111 (go (leb c 1114111) (not (leb 55296 c && leb c 57343)) t)
  where
    go : (x y : Bool) → x && y ≡ true → x ≡ true
    go true y q = refl
    go false y q = q

-- what holds of every number's sequence up to the limit holds of what is written
written-by : (P : List ℕ → Type 0) → ((c : ℕ) → c ≤ 1114111 → P (sequence (behind c) c)) → (c : ℕ) → P (written c)
unfolding written
written-by P h c = go (is_scalar c) refl
  where
    go : (t : Bool) → is_scalar c ≡ t → P (cond t (utf8 c) (utf8 65533))
    go true p = rw (utf8-sequence c) (h c (low_scalar c p))
    go false p = rw (utf8-sequence 65533) (h 65533 (omega arith))

behind-small : (c : ℕ) → behind c ≤ 3
behind-small c = ranges c (λ (n : ℕ). n ≤ 3) (λ h. omega arith) (λ h k. omega arith) (λ h k. omega arith) (λ h. omega arith)

pub length-written : (c : ℕ) → (1 ≤ length (written c)) × (length (written c) ≤ 4)
unfolding sequence
length-written = written-by (λ (s : List ℕ). (1 ≤ length s) × (length s ≤ 4)) go
  where
    go : (c : ℕ) → c ≤ 1114111 → (1 ≤ length (sequence (behind c) c)) × (length (sequence (behind c) c) ≤ 4)
    go c h = (omega arith, omega (arith, length-tails (behind c) c, behind-small c))

-- in the terms of a caller of `encode`
module _ (c : ℕ) (r : Encoded) (q : r ≡ encoded_of c) where
  pub encoded-length : r.length ≡ length (written c)
  unfolding encoded_of padded
  encoded-length = rw q

  pub encoded-bytes : take r.length r.bytes ≡ written c
  unfolding encoded_of padded
  encoded-bytes = rw q (take_at (written c) (replicate (4 - length (written c)) 0) (length (written c)) refl)

-- ---- the code's branches

module _ (c : ℕ) (r : Encoded) where
  pub one_byte : c < 128 → r ≡ padded (c ∷ []) → r ≡ padded (utf8 c)
  unfolding utf8
  one_byte h q = rw (lt-ltb c 128 h) q

  pub two_bytes : 128 ≤ c → c < 2048 → r ≡ padded ((192 + c / 64) ∷ (tail c ∷ [])) → r ≡ padded (utf8 c)
  unfolding utf8
  two_bytes h k q = rw (le-ltb c 128 h, lt-ltb c 2048 k) q

  pub three-bytes : 2048 ≤ c → c < 65536 → r ≡ padded ((224 + c / 4096) ∷ (tail (c / 64) ∷ (tail c ∷ []))) → r ≡ padded (utf8 c)
  unfolding utf8
  three-bytes h k q = rw (le-ltb c 128 (omega arith), le-ltb c 2048 h, lt-ltb c 65536 k) q

  pub four_bytes : 65536 ≤ c → r ≡ padded ((240 + c / 262144) ∷ (tail (c / 4096) ∷ (tail (c / 64) ∷ (tail c ∷ [])))) → r ≡ padded (utf8 c)
  unfolding utf8
  four_bytes h q = rw (le-ltb c 128 (omega arith), le-ltb c 2048 (omega arith), le-ltb c 65536 h) q

  module _ (t : Bool) (e : t ≡ is_scalar c) where
    pub encoded-scalar : t ≡ true → r ≡ padded (utf8 c) → r ≡ encoded_of c
    unfolding encoded_of written
    encoded-scalar p q = rw (← e, p) q

    pub encoded-other : t ≡ false → r ≡ padded (utf8 65533) → r ≡ encoded_of c
    unfolding encoded_of written
    encoded-other p q = rw (← e, p) q
