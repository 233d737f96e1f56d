-- What is done to a number of eight bytes at once is done to each byte.
--     each          a test that holds of all bytes, by one computation
--     word-right    steps that stay within a byte, done to the number
--     steps-right   steps that mark one byte rightly, done to the number
--     marks-right, starts-right   the code's steps make the marks
-- Assumes nothing.
use mathlib.Core.Path.{◌≡◌, refl, ap, ap₂, ◌∙◌}
use mathlib.Core.List.{List, [], ◌∷◌, map}
use mathlib.Core.Bool.{Bool, true, ◌&&◌}
use mathlib.Core.Logic.{◌⊎◌, inl, inr}
use Prim.Native.Nat.{ℕ, zero, suc, ◌+◌, ◌*◌, ◌<◌}
use native.Mathlib.Nat.{not-suc-le-zero, eq-or-lt_of_le, le_of_suc-le-suc}
use native.Mathlib.Omega.{arith}
use lib.Bits.{bit_and, bit_or, bit_xor, and_block, or_block, xor_block}
use lib.Dec.{eqb, ltb}
use lib.ListN.{length}
use borrow.Author.Tests.{ltb-true, eqb-true}
use Rattle.classes.proofs.Runs.{and_left, and_right}
use Rattle.classes.specs.Bytes.{is_special}
use Rattle.slices.specs.Slices.{is_start}
use Rattle.classes.specs.Eights.{packed, marked, mark_of}
use Rattle.classes.proofs.Marks.{at-eight}
use Rattle.slices.proofs.Packed.{Bytes, packed-both, packed-sum}

-- a test holds of all numbers below n
unfoldable below : (ℕ → Bool) → ℕ → Bool
below p zero = true
below p (suc n) = p n && below p n

each : (p : ℕ → Bool) (n : ℕ) → below p n ≡ true → (b : ℕ) → b < n → p b ≡ true
unfolding below
each p zero t b h = absurd (not-suc-le-zero h)
each p (suc n) t b h = go (eq-or-lt_of_le (le_of_suc-le-suc h)) (each p n (and_right (p n) (below p n) t) b)
  where
    go : (b ≡ n) ⊎ (b < n) → (b < n → p b ≡ true) → p b ≡ true
    go (inl q) ih = ap p q ∙ and_left (p n) (below p n) t
    go (inr l) ih = ih l

-- what leaves each byte in its place
pub data Op : Type 0 where
  and : Op
  or : Op
  xor : Op

abbrev pub op : Op → ℕ → ℕ → ℕ
op and = bit_and
op or = bit_or
op xor = bit_xor

op-none : (o : Op) → op o zero zero ≡ zero
op-none and = refl
op-none or = refl
op-none xor = refl

op-block : (o : Op) (a b r t : ℕ) → r < 256 → t < 256 → op o (a * 256 + r) (b * 256 + t) ≡ op o a b * 256 + op o r t
op-block and = and_block 8
op-block or = or_block 8
op-block xor = xor_block 8

-- steps: the number itself, a byte in each place, two numbers made one
pub data Steps : Type 0 where
  own : Steps
  all : ℕ → Steps
  bits : Op → Steps → Steps → Steps
  plus : Steps → Steps → Steps

-- done to a number whose places are the ones of k: k is 1 for a byte, and ones for eight
unfoldable pub done : ℕ → Steps → ℕ → ℕ
done k own n = n
done k (all c) n = c * k
done k (bits o t u) n = op o (done k t n) (done k u n)
done k (plus t u) n = done k t n + done k u n

abbrev pub ones : ℕ
ones = 72340172838076673

abbrev Small : Steps → Bool
Small t = below (λ (b : ℕ). ltb (done 1 t b) 256) 256

-- a byte stays a byte
unfoldable fits : Steps → Bool
fits own = true
fits (all c) = true
fits (bits o t u) = (Small t && Small u) && (fits t && fits u)
fits (plus t u) = fits t && fits u

small : (t : Steps) → Small t ≡ true → (b : ℕ) → b < 256 → done 1 t b < 256
small t e b h = ltb-true (done 1 t b) 256 (each (λ (c : ℕ). ltb (done 1 t c) 256) 256 e b h)

itself : (s : List ℕ) → packed s ≡ packed (map (λ (b : ℕ). b) s)
unfolding packed
itself [] = refl
itself (b ∷ s) = ap (λ (n : ℕ). n * 256 + b) (itself s)

repeated : (c : ℕ) (s : List ℕ) → length s ≡ 8 → c * ones ≡ packed (map (λ (b : ℕ). c * 1) s)
unfolding packed
repeated c = at-eight (λ (s : List ℕ). c * ones ≡ packed (map (λ (b : ℕ). c * 1) s)) (λ a b d e f g h i. omega arith)

word-right : (t : Steps) → fits t ≡ true → (s : List ℕ) → length s ≡ 8 → Bytes s → done ones t (packed s) ≡ packed (map (done 1 t) s)
unfolding done fits
word-right own e s n y = itself s
word-right (all c) e s n y = repeated c s n
word-right (bits o t u) e s n y =
    let p : (Small t && Small u) ≡ true = and_left (Small t && Small u) (fits t && fits u) e in
    let q : (fits t && fits u) ≡ true = and_right (Small t && Small u) (fits t && fits u) e in
    ap₂ (op o) (word-right t (and_left (fits t) (fits u) q) s n y) (word-right u (and_right (fits t) (fits u) q) s n y)
    ∙ packed-both (op o) (op-none o) (op-block o) (done 1 t) (done 1 u) (small t (and_left (Small t) (Small u) p)) (small u (and_right (Small t) (Small u) p)) s y
word-right (plus t u) e s n y =
    ap₂ (λ (a b : ℕ). a + b) (word-right t (and_left (fits t) (fits u) e) s n y) (word-right u (and_right (fits t) (fits u) e) s n y)
    ∙ packed-sum (done 1 t) (done 1 u) s

-- the code's steps
abbrev low : Steps
low = bits and own (all 127)

abbrev braces : Steps
braces = plus (bits and (plus low (all 2)) (all 125)) (all 3)

abbrev others : Steps
others = plus (bits xor (plus (bits xor low (all 35)) (all 1)) (all 85)) (all 1)

abbrev pub marks : Steps
marks = bits and (bits and (bits or braces others) (bits xor own (all 255))) (all 128)

-- the same, and a carriage return
abbrev returns : Steps
returns = plus (bits xor low (all 114)) (all 1)

abbrev pub starts : Steps
starts = bits or marks (bits and (bits and returns (bits xor own (all 255))) (all 128))

-- steps that mark a byte rightly, by one computation
module _ (f : ℕ → Bool) (t : Steps) (e : below (λ (c : ℕ). eqb (done 1 t c) (mark_of f c)) 256 ≡ true) where
  mark-right : (b : ℕ) → b < 256 → done 1 t b ≡ mark_of f b
  mark-right b h = eqb-true (done 1 t b) (mark_of f b) (each (λ (c : ℕ). eqb (done 1 t c) (mark_of f c)) 256 e b h)

  marked_all : (s : List ℕ) → Bytes s → packed (map (done 1 t) s) ≡ packed (marked f s)
  unfolding packed marked
  marked_all [] y = refl
  marked_all (b ∷ s) y = ap₂ (λ (m n : ℕ). m * 256 + n) (marked_all s (λ i. y (suc i))) (mark-right b (y zero))

  steps-right : fits t ≡ true → (s : List ℕ) → length s ≡ 8 → Bytes s → done ones t (packed s) ≡ packed (marked f s)
  steps-right g s n y = word-right t g s n y ∙ marked_all s y

pub marks-right : (s : List ℕ) → length s ≡ 8 → Bytes s → done ones marks (packed s) ≡ packed (marked is_special s)
unfolding below done fits
marks-right = steps-right is_special marks refl refl

pub starts-right : (s : List ℕ) → length s ≡ 8 → Bytes s → done ones starts (packed s) ≡ packed (marked is_start s)
unfolding below done fits
starts-right = steps-right is_start starts refl refl
