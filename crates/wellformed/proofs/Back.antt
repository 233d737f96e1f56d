-- And back: bytes that lie in the ranges behind their first byte encode a scalar value: `read`. Its bits are digits to the
-- base 64, and by the ranges it is long enough for as many bytes, at most 0x10FFFF and no surrogate. Assumes nothing.
use mathlib.Core.Path.{◌≡◌, refl}
use mathlib.Core.List.{List, [], ◌∷◌}
use mathlib.Core.Bool.{Bool, true, false}
use Prim.Native.Nat.{ℕ, ◌+◌, ◌-◌, ◌*◌, ◌/◌, ◌%◌, ◌≤◌, ◌<◌}
use native.Mathlib.Omega.{arith}
use lib.Dec.{leb}
use borrow.Author.Tests.{leb-true, leb-false, le-leb, lt-leb, lt-ltb, le-ltb}
use Rattle.classes.proofs.Runs.{and_left, and_right}
use Rattle.utf8.specs.Utf8.{is_scalar, utf8}
use Rattle.wellformed.specs.WellFormed.{Range, ◌to◌, within, tail, is_first, behind}
use Rattle.wellformed.proofs.Firsts.{first-low, first-high}
use Rattle.wellformed.proofs.Firsts.{behind-1, behind-2, behind-3, behind-4, behind-5}
use Rattle.wellformed.proofs.Firsts.{behind-6, behind-7, behind-8, behind-9}

-- a byte for each range, and each in its own
abbrev pub Fits : List Range → List ℕ → Type 0
Fits [] [] = Unit {0}
Fits [] (b ∷ p) = ⊥
Fits (r ∷ rs) [] = ⊥
Fits (r ∷ rs) (b ∷ p) = (within r b ≡ true) × Fits rs p

-- a first byte and those behind it encode a scalar value
abbrev pub Encodes : ℕ → List ℕ → Type 0
Encodes a p = (c : ℕ) × (is_scalar c ≡ true) × (utf8 c ≡ a ∷ p)

scalar-low : (c : ℕ) → c < 55296 → is_scalar c ≡ true
scalar-low c h = rw (le-leb c 1114111 (omega arith), lt-leb 55296 c h)

scalar-high : (c : ℕ) → 57343 < c → c ≤ 1114111 → is_scalar c ≡ true
scalar-high c h k = rw (le-leb c 1114111 k, le-leb 55296 c (omega arith), lt-leb c 57343 h)

-- digits to the base 64, marked
made-2 : (q m : ℕ) → 2 ≤ q → q < 32 → m < 64 → utf8 (q * 64 + m) ≡ (192 + q) ∷ (128 + m) ∷ []
unfolding utf8
made-2 q m l h k =
    let a : (q * 64 + m) / 64 ≡ q = omega arith in
    let b : (q * 64 + m) % 64 ≡ m = omega arith in
    rw (le-ltb (q * 64 + m) 128 (omega arith), lt-ltb (q * 64 + m) 2048 (omega arith), a, b)

made-3 : (q m n c : ℕ) → c ≡ q * 4096 + (m * 64 + n) → 2048 ≤ c → q < 16 → m < 64 → n < 64
    → utf8 c ≡ (224 + q) ∷ (128 + m) ∷ (128 + n) ∷ []
unfolding utf8
made-3 q m n c e l i j k =
    let x : c / 4096 ≡ q = omega arith in
    let y : c / 64 % 64 ≡ m = omega arith in
    let z : c % 64 ≡ n = omega arith in
    rw (le-ltb c 128 (omega arith), le-ltb c 2048 l, lt-ltb c 65536 (omega arith), x, y, z)

made-4 : (q m n o c : ℕ) → c ≡ q * 262144 + (m * 4096 + (n * 64 + o)) → 65536 ≤ c → m < 64 → n < 64 → o < 64
    → utf8 c ≡ (240 + q) ∷ (128 + m) ∷ (128 + n) ∷ (128 + o) ∷ []
unfolding utf8
made-4 q m n o c e l i j k =
    let w : c / 262144 ≡ q = omega arith in
    let x : c / 4096 % 64 ≡ m = omega arith in
    let y : c / 64 % 64 ≡ n = omega arith in
    let z : c % 64 ≡ o = omega arith in
    rw (le-ltb c 128 (omega arith), le-ltb c 2048 (omega arith), le-ltb c 65536 l, w, x, y, z)

module _ (low high b : ℕ) (w : within (low to high) b ≡ true) where
  from_low : low ≤ b
  from_low = leb-true low b (and_left (leb low b) (leb b high) w)

  to_high : b ≤ high
  to_high = leb-true b high (and_right (leb low b) (leb b high) w)

-- a byte is its mark and its bits
mark-and : (k b : ℕ) → k ≤ b → k + (b - k) ≡ b
mark-and k b h = omega arith

module _ (a : ℕ) where
  back-1 : a ≤ 127 → Encodes a []
  unfolding utf8
  back-1 h = (a, scalar-low a (omega arith), rw (lt-ltb a 128 (omega arith)))

  module _ (x : ℕ) (wx : within tail x ≡ true) where
    x-low : 128 ≤ x
    x-low = from_low 128 191 x wx

    x-high : x ≤ 191
    x-high = to_high 128 191 x wx

    back-2 : 194 ≤ a → a ≤ 223 → Encodes a (x ∷ [])
    back-2 l h =
        let q : ℕ = a - 192 in
        let m : ℕ = x - 128 in
        let e : utf8 (q * 64 + m) ≡ (192 + q) ∷ (128 + m) ∷ [] =
        made-2 q m (omega arith) (omega arith) (omega (arith, x-low, x-high)) in
        let t : is_scalar (q * 64 + m) ≡ true = scalar-low (q * 64 + m) (omega (arith, x-low, x-high)) in
        (q * 64 + m, t, (rw (mark-and 192 a (omega arith), mark-and 128 x x-low) at e))

  -- the value of three bytes, and of four
  abbrev value-3 : ℕ → ℕ → ℕ
  value-3 x y = (a - 224) * 4096 + ((x - 128) * 64 + (y - 128))

  abbrev value-4 : ℕ → ℕ → ℕ → ℕ
  value-4 x y z = (a - 240) * 262144 + ((x - 128) * 4096 + ((y - 128) * 64 + (z - 128)))

  module _ (x y : ℕ) (lx : 128 ≤ x) (hx : x ≤ 191) (ly : 128 ≤ y) (hy : y ≤ 191) where
    back-3 : 224 ≤ a → a ≤ 239 → 2048 ≤ value-3 x y → is_scalar (value-3 x y) ≡ true → Encodes a (x ∷ y ∷ [])
    back-3 l h b t =
        let e : utf8 (value-3 x y) ≡ (224 + (a - 224)) ∷ (128 + (x - 128)) ∷ (128 + (y - 128)) ∷ [] =
        made-3 (a - 224) (x - 128) (y - 128) (value-3 x y) refl b (omega arith) (omega arith) (omega arith) in
        (value-3 x y, t, (rw (mark-and 224 a l, mark-and 128 x lx, mark-and 128 y ly) at e))

    back-4 : (z : ℕ) → within tail z ≡ true → 240 ≤ a → a ≤ 244 → 65536 ≤ value-4 x y z → value-4 x y z ≤ 1114111
        → Encodes a (x ∷ y ∷ z ∷ [])
    back-4 z w l h b t =
        let lz : 128 ≤ z = from_low 128 191 z w in
        let hz : z ≤ 191 = to_high 128 191 z w in
        let e : utf8 (value-4 x y z) ≡ (240 + (a - 240)) ∷ (128 + (x - 128)) ∷ (128 + (y - 128)) ∷ (128 + (z - 128)) ∷ [] =
        made-4 (a - 240) (x - 128) (y - 128) (z - 128) (value-4 x y z) refl b (omega arith) (omega arith) (omega arith) in
        let s : is_scalar (value-4 x y z) ≡ true = scalar-high (value-4 x y z) (omega arith) t in
        (value-4 x y z, s, (rw (mark-and 240 a l, mark-and 128 x lx, mark-and 128 y ly, mark-and 128 z lz) at e))

-- bytes that fit one, two or three ranges are as many
fits-1 : (r : Range) (P : List ℕ → Type 0) → ((x : ℕ) → within r x ≡ true → P (x ∷ [])) → (p : List ℕ) → Fits (r ∷ []) p → P p
fits-1 r P k [] w = absurd w
fits-1 r P k (x ∷ []) w = k x w.0
fits-1 r P k (x ∷ y ∷ p) w = absurd w.1

fits-2 : (r q : Range) (P : List ℕ → Type 0) → ((x y : ℕ) → within r x ≡ true → within q y ≡ true → P (x ∷ y ∷ []))
    → (p : List ℕ) → Fits (r ∷ q ∷ []) p → P p
fits-2 r q P k [] w = absurd w
fits-2 r q P k (x ∷ p) w = fits-1 q (λ (l : List ℕ). P (x ∷ l)) (λ y wy. k x y w.0 wy) p w.1

fits-3 : (r q o : Range) (P : List ℕ → Type 0)
    → ((x y z : ℕ) → within r x ≡ true → within q y ≡ true → within o z ≡ true → P (x ∷ y ∷ z ∷ []))
    → (p : List ℕ) → Fits (r ∷ q ∷ o ∷ []) p → P p
fits-3 r q o P k [] w = absurd w
fits-3 r q o P k (x ∷ p) w = fits-2 q o (λ (l : List ℕ). P (x ∷ l)) (λ y z wy wz. k x y z w.0 wy wz) p w.1

module _ (b : ℕ) (f : is_first b ≡ true) (p : List ℕ) where
  -- three bytes whose value is in order
  in_three : (low high : ℕ) → 128 ≤ low → high ≤ 191 → 224 ≤ b → b ≤ 239
      → ((x y : ℕ) → low ≤ x → x ≤ high → 128 ≤ y → y ≤ 191 → (2048 ≤ value-3 b x y) × (is_scalar (value-3 b x y) ≡ true))
      → Fits ((low to high) ∷ tail ∷ []) p → Encodes b p
  in_three low high l h lb hb k = fits-2 (low to high) tail (Encodes b) go p
    where
      go : (x y : ℕ) → within (low to high) x ≡ true → within tail y ≡ true → Encodes b (x ∷ y ∷ [])
      go x y wx wy =
          let lx : low ≤ x = from_low low high x wx in
          let hx : x ≤ high = to_high low high x wx in
          let ly : 128 ≤ y = from_low 128 191 y wy in
          let hy : y ≤ 191 = to_high 128 191 y wy in
          let v : (2048 ≤ value-3 b x y) × (is_scalar (value-3 b x y) ≡ true) = k x y lx hx ly hy in
          back-3 b x y (omega (arith, l, lx)) (omega (arith, h, hx)) ly hy lb hb v.0 v.1

  -- four
  in_four : (low high : ℕ) → 128 ≤ low → high ≤ 191 → 240 ≤ b → b ≤ 244
      → ((x y z : ℕ) → low ≤ x → x ≤ high → 128 ≤ y → y ≤ 191 → 128 ≤ z → z ≤ 191
      → (65536 ≤ value-4 b x y z) × (value-4 b x y z ≤ 1114111))
      → Fits ((low to high) ∷ tail ∷ tail ∷ []) p → Encodes b p
  in_four low high l h lb hb k = fits-3 (low to high) tail tail (Encodes b) go p
    where
      go : (x y z : ℕ) → within (low to high) x ≡ true → within tail y ≡ true → within tail z ≡ true
          → Encodes b (x ∷ y ∷ z ∷ [])
      go x y z wx wy wz =
          let lx : low ≤ x = from_low low high x wx in
          let hx : x ≤ high = to_high low high x wx in
          let ly : 128 ≤ y = from_low 128 191 y wy in
          let hy : y ≤ 191 = to_high 128 191 y wy in
          let v : (65536 ≤ value-4 b x y z) × (value-4 b x y z ≤ 1114111) =
          k x y z lx hx ly hy (from_low 128 191 z wz) (to_high 128 191 z wz) in
          back-4 b x y (omega (arith, l, lx)) (omega (arith, h, hx)) ly hy z wz lb hb v.0 v.1

  module _ (w : Fits (behind b) p) where
    read-1 : b ≤ 127 → Encodes b p
    read-1 h = go p (rw (behind-1 b h) at w)
      where
        go : (l : List ℕ) → Fits [] l → Encodes b l
        go [] k = back-1 b h
        go (x ∷ l) k = absurd k

    read-2 : 127 < b → b ≤ 223 → Encodes b p
    read-2 l h =
        let lb : 194 ≤ b = first-low b f l in
        fits-1 tail (Encodes b) (λ x wx. back-2 b x wx lb h) p (rw (behind-2 b lb h) at w)

    read-3 : 223 < b → b ≤ 224 → Encodes b p
    read-3 l h =
        in_three 160 191 (omega arith) (omega arith) (omega arith) (omega arith)
        (λ x y lx hx ly hy. (omega arith, scalar-low (value-3 b x y) (omega arith)))
        (rw (behind-3 b l h) at w)

    read-4 : 224 < b → b ≤ 236 → Encodes b p
    read-4 l h =
        in_three 128 191 (omega arith) (omega arith) (omega arith) (omega arith)
        (λ x y lx hx ly hy. (omega arith, scalar-low (value-3 b x y) (omega arith)))
        (rw (behind-4 b l h) at w)

    read-5 : 236 < b → b ≤ 237 → Encodes b p
    read-5 l h =
        in_three 128 159 (omega arith) (omega arith) (omega arith) (omega arith)
        (λ x y lx hx ly hy. (omega arith, scalar-low (value-3 b x y) (omega arith)))
        (rw (behind-5 b l h) at w)

    read-6 : 237 < b → b ≤ 239 → Encodes b p
    read-6 l h =
        in_three 128 191 (omega arith) (omega arith) (omega arith) (omega arith)
        (λ x y lx hx ly hy. (omega arith, scalar-high (value-3 b x y) (omega arith) (omega arith)))
        (rw (behind-6 b l h) at w)

    read-7 : 239 < b → b ≤ 240 → Encodes b p
    read-7 l h =
        in_four 144 191 (omega arith) (omega arith) (omega arith) (omega arith)
        (λ x y z lx hx ly hy lz hz. (omega arith, omega arith))
        (rw (behind-7 b l h) at w)

    read-8 : 240 < b → b ≤ 243 → Encodes b p
    read-8 l h =
        in_four 128 191 (omega arith) (omega arith) (omega arith) (omega arith)
        (λ x y z lx hx ly hy lz hz. (omega arith, omega arith))
        (rw (behind-8 b l h) at w)

    read-9 : 243 < b → Encodes b p
    read-9 l =
        let hb : b ≤ 244 = first-high b f (omega arith) in
        in_four 128 143 (omega arith) (omega arith) (omega arith) hb
        (λ x y z lx hx ly hy lz hz. (omega arith, omega arith))
        (rw (behind-9 b l) at w)

    pub read : Encodes b p
    read = go-1 (leb b 127) refl
      where
        go-8 : (t : Bool) → leb b 243 ≡ t → 240 < b → Encodes b p
        go-8 true e l = read-8 l (leb-true b 243 e)
        go-8 false e l = read-9 (leb-false b 243 e)

        go-7 : (t : Bool) → leb b 240 ≡ t → 239 < b → Encodes b p
        go-7 true e l = read-7 l (leb-true b 240 e)
        go-7 false e l = go-8 (leb b 243) refl (leb-false b 240 e)

        go-6 : (t : Bool) → leb b 239 ≡ t → 237 < b → Encodes b p
        go-6 true e l = read-6 l (leb-true b 239 e)
        go-6 false e l = go-7 (leb b 240) refl (leb-false b 239 e)

        go-5 : (t : Bool) → leb b 237 ≡ t → 236 < b → Encodes b p
        go-5 true e l = read-5 l (leb-true b 237 e)
        go-5 false e l = go-6 (leb b 239) refl (leb-false b 237 e)

        go-4 : (t : Bool) → leb b 236 ≡ t → 224 < b → Encodes b p
        go-4 true e l = read-4 l (leb-true b 236 e)
        go-4 false e l = go-5 (leb b 237) refl (leb-false b 236 e)

        go-3 : (t : Bool) → leb b 224 ≡ t → 223 < b → Encodes b p
        go-3 true e l = read-3 l (leb-true b 224 e)
        go-3 false e l = go-4 (leb b 236) refl (leb-false b 224 e)

        go-2 : (t : Bool) → leb b 223 ≡ t → 127 < b → Encodes b p
        go-2 true e l = read-2 l (leb-true b 223 e)
        go-2 false e l = go-3 (leb b 224) refl (leb-false b 223 e)

        go-1 : (t : Bool) → leb b 127 ≡ t → Encodes b p
        go-1 true e = read-1 (leb-true b 127 e)
        go-1 false e = go-2 (leb b 223) refl (leb-false b 127 e)
