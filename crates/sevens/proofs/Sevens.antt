-- What a number's groups look like, and that reading and writing a number are inverse. Each is said once, over the count k of
-- groups that may have the high bit: n < 128 ^ suc k.
--     groups-sum, written-sum          the groups' sum of powers is the number
--     groups-length, written-length    1 to 5 bytes
--     high-groups, groups-least        how many have the high bit; as few as can be
--     Whole, whole_is, is_whole        what it takes for a list to start with a number, and its value and length
--     number-within                    a number that was read has 1 to 5 bytes of the list, and 32 bits
--     read-written, written_read       round trips; a list's bytes are below 256
-- Assumes nothing.
use mathlib.Core.Path.{◌≡◌, refl, sym, ap, ◌∙◌}
use mathlib.Core.List.{List, [], ◌∷◌, ◌++◌}
use mathlib.Core.Bool.{Bool, true, false, cond, not, ◌&&◌, ◌||◌}
use Prim.Native.Nat.{ℕ, zero, suc, ◌+◌, ◌*◌, ◌/◌, ◌%◌, ◌^◌, ◌≤◌, ◌<◌}
use native.Mathlib.Nat.{pow-suc, one-le-pow}
use native.Mathlib.Omega.{arith}
use lib.Arith.{lt_of_le-ne}
use lib.Dec.{ltb, eqb}
use lib.ListN.{length, get_or, take, length-append}
use lib.Seq.{take_at}
use borrow.Author.Tests.{ltb-true, ltb-false, lt-ltb, le-ltb, ne_eqb, eqb-false}
use Rattle.sevens.specs.declared.Numeral.{Numeral}
use Rattle.std.specs.Prelude.{Result, Ok, Err}
use Rattle.answers.specs.declared.Why.{Why}
use Rattle.answers.specs.declared.Why.TheVariants.{StoredNumber, StoredShort}
use Rattle.sevens.specs.Sevens.{numeral, groups, written, high, sum_from, value_of, is_long, number_of}
use Rattle.sevens.proofs.Tests.{and_none, and-false, or-false}

-- ---- the groups of a number

-- the last one, or one with the high bit and then more
by-groups : (k n : ℕ) (P : List ℕ → Type 0) → (n < 128 → P (n ∷ []))
    → (128 ≤ n → P ((128 + n % 128) ∷ groups k (n / 128))) → P (groups (suc k) n)
unfolding groups
by-groups k n P last more = go (ltb n 128) refl
  where
    go : (t : Bool) → ltb n 128 ≡ t → P (cond t (n ∷ []) ((128 + n % 128) ∷ groups k (n / 128)))
    go true e = last (ltb-true n 128 e)
    go false e = more (ltb-false n 128 e)

-- what is left is a power smaller
pub fewer : (k n : ℕ) → n < 128 ^ suc (suc k) → n / 128 < 128 ^ suc k
fewer k n h = let p : 128 ^ suc (suc k) ≡ 128 ^ suc k * 128 = pow-suc 128 (suc k) in omega arith

-- a group and those above it
digit-sum : (q r p : ℕ) → r * p + q * (p * 128) ≡ (q * 128 + r) * p
digit-sum q r p = omega arith

last_sum : (n i : ℕ) → n < 128 → sum_from i (n ∷ []) ≡ n * 128 ^ i
unfolding sum_from
last_sum n i h = let e : n % 128 ≡ n = omega arith in rw e (omega arith)

more-sum : (n i : ℕ) (s : List ℕ) → sum_from (suc i) s ≡ (n / 128) * 128 ^ suc i → sum_from i ((128 + n % 128) ∷ s) ≡ n * 128 ^ i
unfolding sum_from
more-sum n i s ih =
    let e : (128 + n % 128) % 128 ≡ n % 128 = omega arith in
    let d : (n / 128) * 128 + n % 128 ≡ n = omega arith in
    rw (ih, e, pow-suc 128 i) (digit-sum (n / 128) (n % 128) (128 ^ i) ∙ ap (λ (x : ℕ). x * 128 ^ i) d)

pub groups-sum : (k n i : ℕ) → n < 128 ^ suc k → sum_from i (groups k n) ≡ n * 128 ^ i
unfolding groups
groups-sum zero n i h = last_sum n i (omega arith)
groups-sum (suc k) n i h =
    by-groups k n (λ (s : List ℕ). sum_from i s ≡ n * 128 ^ i)
    (last_sum n i)
    (λ l. more-sum n i (groups k (n / 128)) (groups-sum k (n / 128) (suc i) (fewer k n h)))

pub written-sum : (n : ℕ) → n < 34359738368 → sum_from 0 (written n) ≡ n
written-sum n h = groups-sum 4 n 0 h ∙ omega arith

pub groups-length : (k n : ℕ) → (1 ≤ length (groups k n)) × (length (groups k n) ≤ suc k)
unfolding groups
groups-length zero n = (omega arith, omega arith)
groups-length (suc k) n =
    by-groups k n (λ (s : List ℕ). (1 ≤ length s) × (length s ≤ suc (suc k)))
    (λ l. (omega arith, omega arith))
    (λ l. (omega arith, omega (arith, groups-length k (n / 128))))

pub written-length : (n : ℕ) → (1 ≤ length (written n)) × (length (written n) ≤ 5)
written-length n = groups-length 4 n

-- ---- bytes with the high bit

pub high-low : (b : ℕ) (s : List ℕ) → b < 128 → high (b ∷ s) ≡ 0
unfolding high
high-low b s h = rw (lt-ltb b 128 h)

pub high-high : (b : ℕ) (s : List ℕ) → 128 ≤ b → high (b ∷ s) ≡ suc (high s)
unfolding high
high-high b s h = rw (le-ltb b 128 h)

pub high-within : (s : List ℕ) → high s ≤ length s
unfolding high
high-within [] = omega arith
high-within (b ∷ s) = go (ltb b 128) (high-within s)
  where
    go : (t : Bool) → high s ≤ length s → cond t 0 (suc (high s)) ≤ suc (length s)
    go true h = omega arith
    go false h = omega arith

-- all but the last
pub high-groups : (k n : ℕ) (s : List ℕ) → n < 128 ^ suc k → suc (high (groups k n ++ s)) ≡ length (groups k n)
unfolding groups
high-groups zero n s h = ap suc (high-low n s (omega arith))
high-groups (suc k) n s h =
    by-groups k n (λ (g : List ℕ). suc (high (g ++ s)) ≡ length g)
    (λ l. ap suc (high-low n s l))
    (λ l. ap suc (high-high (128 + n % 128) (groups k (n / 128) ++ s) (omega arith) ∙ high-groups k (n / 128) s (fewer k n h)))

-- "shortest": fewer groups do not hold the number
pub groups-least : (k n m : ℕ) → n < 128 ^ suc k → length (groups k n) ≡ suc (suc m) → 128 ^ suc m ≤ n
unfolding groups
groups-least zero n m h = λ e. absurd (omega arith)
groups-least (suc k) n m h =
    by-groups k n (λ (g : List ℕ). length g ≡ suc (suc m) → 128 ^ suc m ≤ n)
    (λ l e. absurd (omega arith))
    (λ l e. go m l (λ m'. groups-least k (n / 128) m' (fewer k n h)) e)
  where
    go : (m : ℕ) → 128 ≤ n → ((m' : ℕ) → length (groups k (n / 128)) ≡ suc (suc m') → 128 ^ suc m' ≤ n / 128)
        → suc (length (groups k (n / 128))) ≡ suc (suc m) → 128 ^ suc m ≤ n
    go zero l ih e = l
    go (suc m') l ih e =
        let p : 128 ^ suc (suc m') ≡ 128 ^ suc m' * 128 = pow-suc 128 (suc m') in
        omega (arith, ih m' (omega arith))

-- ---- the number that a list starts with

-- it ends within the list and five groups, is shortest, and has 32 bits
pub record Whole (s : List ℕ) : Type 0 where
  pub within : high s < length s
  pub few : high s ≤ 4
  pub least : (high s ≡ 0 → ⊥) → 128 ^ high s ≤ value_of s
  pub small : value_of s < 4294967296

-- the tests of `number_of`
abbrev pub is_cut : List ℕ → Bool
is_cut s = ltb (length s) 5 && eqb (high s) (length s)

abbrev pub is_bad : List ℕ → Bool
is_bad s = ltb 4 (high s) || (is_long s || ltb 4294967295 (value_of s))

pub not-cut : (s : List ℕ) → high s < length s → is_cut s ≡ false
not-cut s h = rw (ne_eqb (high s) (length s) (λ e. omega arith)) (and_none (ltb (length s) 5))

pub whole_is : (s : List ℕ) → Whole s → number_of s ≡ Ok (numeral (value_of s) (suc (high s)))
unfolding number_of is_long
whole_is s w =
    rw (not-cut s w.within, le-ltb 4 (high s) w.few, le-ltb 4294967295 (value_of s) (omega arith))
    (go (eqb (high s) 0) refl)
  where
    is : Result Numeral Why
    is = Ok (numeral (value_of s) (suc (high s)))

    go : (t : Bool) → eqb (high s) 0 ≡ t → cond (not t && ltb (value_of s) (128 ^ high s) || false) (Err StoredNumber) is ≡ is
    go true e = refl
    go false e = rw (le-ltb (value_of s) (128 ^ high s) (w.least (eqb-false (high s) 0 e)))

passed : (s : List ℕ) → is_cut s ≡ false → is_bad s ≡ false → Whole s
unfolding is_long
passed s p q =
    let h : ℕ = high s in
    let v : ℕ = value_of s in
    let o = or-false (ltb 4 h) (is_long s || ltb 4294967295 v) q in
    let o' = or-false (is_long s) (ltb 4294967295 v) o.1 in
    let few : h ≤ 4 = ltb-false 4 h o.0 in
    let top : v ≤ 4294967295 = ltb-false 4294967295 v o'.1 in
    let inside : h ≡ length s → ⊥ =
    λ e. eqb-false h (length s) (and-false (ltb (length s) 5) (eqb h (length s)) p (lt-ltb (length s) 5 (omega arith))) e in
    record {
      within = lt_of_le-ne (high-within s) inside;
      few = few;
      least = λ f. ltb-false v (128 ^ h) (and-false (not (eqb h 0)) (ltb v (128 ^ h)) o'.0 (rw (ne_eqb h 0 f)));
      small = omega arith;
    }

pub is_whole : (s : List ℕ) {x : Numeral} → number_of s ≡ Ok x → Whole s × (x.value ≡ value_of s) × (x.length ≡ suc (high s))
unfolding number_of
is_whole s {x} e = go (is_cut s) (is_bad s) refl refl e
  where
    go : (t u : Bool) → is_cut s ≡ t → is_bad s ≡ u → cond t (Err StoredShort) (cond u (Err StoredNumber) (Ok (numeral (value_of s) (suc (high s))))) ≡ Ok x
        → Whole s × (x.value ≡ value_of s) × (x.length ≡ suc (high s))
    go true u p q r = let z : ◌≡◌ {A = ℕ} 0 1 = cc in absurd (omega arith)
    go false true p q r = let z : ◌≡◌ {A = ℕ} 0 1 = cc in absurd (omega arith)
    go false false p q r = (passed s p q, (cc), (cc))

pub number-within : (s : List ℕ) {x : Numeral} → number_of s ≡ Ok x
    → (0 < x.length) × (x.length ≤ length s) × (x.length ≤ 5) × (x.value < 4294967296)
number-within s e = let w = is_whole s e in (omega arith, omega arith, omega arith, omega arith)

-- ---- round trips

pub read-written : (n : ℕ) (s : List ℕ) → n < 4294967296 → number_of (written n ++ s) ≡ Ok (numeral n (length (written n)))
unfolding value_of
read-written n s h =
    let l : List ℕ = written n ++ s in
    let t : n < 128 ^ 5 = omega arith in
    let c : suc (high l) ≡ length (written n) = high-groups 4 n s t in
    let v : value_of l ≡ n = ap (sum_from 0) (take_at (written n) s (suc (high l)) (sym c)) ∙ written-sum n t in
    let w : Whole l = record {
      within = omega (arith, length-append (written n) s);
      few = omega (arith, written-length n);
      least = λ f. rw v (least (high l) t c f);
      small = omega arith;
    } in
    whole_is l w ∙ rw (v, c)
  where
    least : (m : ℕ) → n < 128 ^ 5 → suc m ≡ length (written n) → (m ≡ 0 → ⊥) → 128 ^ m ≤ n
    least zero t c f = absurd (f refl)
    least (suc m) t c f = groups-least 4 n m t (sym c)

-- a power more on each group
sum-shift : (s : List ℕ) (i : ℕ) → sum_from (suc i) s ≡ sum_from i s * 128
unfolding sum_from
sum-shift [] i = refl
sum-shift (b ∷ s) i = rw (sum-shift s (suc i), pow-suc 128 i) (go (b % 128) (128 ^ i) (sum_from (suc i) s))
  where
    go : (r p x : ℕ) → r * (p * 128) + x * 128 ≡ (r * p + x) * 128
    go r p x = omega arith

pub value_low : (b : ℕ) (s : List ℕ) → b < 128 → value_of (b ∷ s) ≡ b
unfolding value_of sum_from
value_low b s h = rw (high-low b s h) (omega arith)

value-high : (b : ℕ) (s : List ℕ) → 128 ≤ b → value_of (b ∷ s) ≡ b % 128 + value_of s * 128
unfolding value_of sum_from
value-high b s h = rw (high-high b s h, sum-shift (take (suc (high s)) s) 0) (omega arith)

pub groups-last : (k n : ℕ) → n < 128 → groups k n ≡ n ∷ []
unfolding groups
groups-last zero n h = refl
groups-last (suc k) n h = rw (lt-ltb n 128 h)

pub groups-more : (k n : ℕ) → 128 ≤ n → groups (suc k) n ≡ (128 + n % 128) ∷ groups k (n / 128)
unfolding groups
groups-more k n h = rw (le-ltb n 128 h)

-- a group in front of those of the rest
value-more : (b k v h : ℕ) (l : List ℕ) → 128 ≤ b → b < 256 → suc h ≤ k → 128 ^ suc h ≤ b % 128 + v * 128
    → ((k' : ℕ) → h ≤ k' → 128 ^ h ≤ v → l ≡ groups k' v) → b ∷ l ≡ groups k (b % 128 + v * 128)
value-more b zero v h l high small f least rest = absurd (omega arith)
value-more b (suc k) v h l high small f least rest =
    let p : 128 ^ suc h ≡ 128 ^ h * 128 = pow-suc 128 h in
    let one : 1 ≤ 128 ^ h = one-le-pow h 128 (omega arith) in
    let g : 128 + (b % 128 + v * 128) % 128 ≡ b = omega arith in
    let d : (b % 128 + v * 128) / 128 ≡ v = omega arith in
    rw (groups-more k (b % 128 + v * 128) (omega arith), g, d) (ap (λ (x : List ℕ). b ∷ x) (rest k (omega arith) (omega arith)))

-- a number that is shortest, with at most k bytes that have the high bit, is its value's groups
groups-value : (s : List ℕ) (k : ℕ) → ((i : ℕ) → get_or s i 0 < 256) → high s < length s → high s ≤ k
    → ((high s ≡ 0 → ⊥) → 128 ^ high s ≤ value_of s)
    → take (suc (high s)) s ≡ groups k (value_of s)
groups-value [] k bytes h f least = absurd (omega arith)
groups-value (b ∷ s) k bytes h f least = go (ltb b 128) refl (λ w k' f' m. groups-value s k' (λ i. bytes (suc i)) w f' (λ _. m))
  where
    go : (t : Bool) → ltb b 128 ≡ t
        → (high s < length s → (k' : ℕ) → high s ≤ k' → 128 ^ high s ≤ value_of s
        → take (suc (high s)) s ≡ groups k' (value_of s))
        → take (suc (high (b ∷ s))) (b ∷ s) ≡ groups k (value_of (b ∷ s))
    go true e rest = let l : b < 128 = ltb-true b 128 e in rw (value_low b s l, high-low b s l) (sym (groups-last k b l))
    go false e rest =
        let l : 128 ≤ b = ltb-false b 128 e in
        let x : high (b ∷ s) ≡ suc (high s) = high-high b s l in
        let v : value_of (b ∷ s) ≡ b % 128 + value_of s * 128 = value-high b s l in
        let m : 128 ^ suc (high s) ≤ b % 128 + value_of s * 128 = rw (x, v) at (least (λ z. omega arith)) in
        rw (v, x)
        (value-more b k (value_of s) (high s) (take (suc (high s)) s) l (bytes 0) (omega arith) m (rest (omega arith)))

pub written_read : (s : List ℕ) {x : Numeral} → ((i : ℕ) → get_or s i 0 < 256) → number_of s ≡ Ok x
    → (take x.length s ≡ written x.value) × (x.value < 4294967296) × (x.length ≤ length s) × (0 < x.length)
written_read s bytes e =
    let w = is_whole s e in
    let z = number-within s e in
    (rw (w.1, w.2) (groups-value s 4 bytes w.0.within w.0.few w.0.least), z.3, z.1, z.0)
