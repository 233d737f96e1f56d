-- A law for each branch of the code.
--     no_number, low-number      an empty list, a first byte below 128
--     Gathering, gathering-..    i groups are gathered: what is left is to be added, from the i-th power on
--     put_one, put-past          a byte at a place that the room holds, and at one that it does not
--     Putting, putting-..        some groups are written: who writes those of what is left has written all
-- Assumes nothing.
use mathlib.Core.Path.{◌≡◌, refl, sym, ap, ◌∙◌}
use mathlib.Core.List.{List, [], ◌∷◌}
use mathlib.Core.Bool.{Bool, cond, ◌||◌}
use Prim.Native.Nat.{ℕ, zero, suc, ◌+◌, ◌*◌, ◌/◌, ◌%◌, ◌^◌, ◌≤◌, ◌<◌}
use native.Mathlib.Nat.{pow-suc, mul-le-mul_right}
use native.Mathlib.Numerals.{add-one}
use native.Mathlib.Omega.{arith}
use lib.Arith.{digits_lt}
use lib.Bits.{bit_and, bit_or, and_mask}
use lib.Dec.{ltb}
use lib.ListN.{length, get_or, set, take, drop, drop_of_length-le}
use lib.Seq.{drop-cons}
use borrow.Author.Tests.{lt-ltb, le-ltb, eq-eqb, ne_eqb}
use Rattle.rooms.specs.Rooms.{Wrote, put}
use Rattle.rooms.proofs.Rooms.{put_in, put-out, wrote_one, wrote-more, length-put}
use Rattle.sevens.specs.declared.Numeral.{Numeral}
use Rattle.answers.specs.declared.Why.{Why}
use Rattle.answers.specs.declared.Why.TheVariants.{StoredNumber, StoredShort}
use Rattle.sevens.specs.Sevens.{numeral, groups, written, high, sum_from, value_of, is_long, number_of, byte_layout, streamed}
use Rattle.sevens.proofs.Bits.{group-bits, mark-bits}
use Rattle.sevens.proofs.Tests.{or_some}
use Rattle.sevens.proofs.Sevens.{Whole, is_cut, not-cut, whole_is, fewer}
use Rattle.sevens.proofs.Sevens.{groups-last, groups-more, high-low, high-high, value_low}
use Rattle.std.specs.Prelude.{Result, Ok, Err}
use Rattle.answers.specs.declared.Refusal.{Refusal}

-- ---- reading

pub no_number : (s : List ℕ) → length s ≡ 0 → Err StoredShort ≡ number_of s
unfolding number_of high
no_number [] h = refl
no_number (b ∷ s) h = absurd (omega arith)

pub low-number : (s : List ℕ) → (length s ≡ 0 → ⊥) → get_or s 0 0 < 128 → Ok (numeral (get_or s 0 0) 1) ≡ number_of s
low-number [] f h = absurd (f refl)
low-number (b ∷ s) f h =
    let v : value_of (b ∷ s) ≡ b = value_low b s h in
    let z : high (b ∷ s) ≡ 0 = high-low b s h in
    let w : Whole (b ∷ s) =
    record { within = omega arith; few = omega arith; least = λ g. absurd (g z); small = omega arith } in
    sym (whole_is (b ∷ s) w ∙ rw (v, z))

-- a group above others
digits-lt-128 : (r p x : ℕ) → r < 128 → x < p → r * p + x < p * 128
digits-lt-128 r p x h l = let d : r * p + x < 128 * p = digits_lt h l in omega arith

least-128 : (r p x : ℕ) → 0 < r → p ≤ r * p + x
least-128 r p x h = omega (arith, mul-le-mul_right p h)

-- what the rest of a number adds, from the i-th power on
abbrev left_from : ℕ → List ℕ → ℕ
left_from i s = sum_from i (take (suc (high s)) s)

-- i groups in front have the high bit, and are gathered
pub record Gathering (s : List ℕ) (value shift i : ℕ) : Type 0 where
  pub bits : shift ≡ 7 * i
  pub begun : 0 < i
  pub place : i ≤ 5
  pub within : i ≤ length s
  pub small : value < 128 ^ i
  pub ahead : high s ≡ i + high (drop i s)
  pub left : value_of s ≡ value + left_from i (drop i s)

pub gathering-start : (s : List ℕ) (group : ℕ) → (length s ≡ 0 → ⊥) → 128 ≤ get_or s 0 0 → group ≡ bit_and (get_or s 0 0) 127
    → Gathering s group 7 1
unfolding value_of sum_from
gathering-start [] group f h e = absurd (f refl)
gathering-start (b ∷ s) group f h e =
    let x : high (b ∷ s) ≡ suc (high s) = high-high b s h in
    let m : group ≡ b % 128 = e ∙ and_mask b 7 in
    record {
      bits = refl;
      begun = omega arith;
      place = omega arith;
      within = omega arith;
      small = omega arith;
      ahead = omega arith;
      left = rw (x, m) (omega arith);
    }

module _ (s : List ℕ) (value shift i : ℕ) (g : Gathering s value shift i) where
  pub gathering-short : i < 5 → length s ≤ i → Err StoredShort ≡ number_of s
  unfolding number_of high
  gathering-short h l =
      let d : drop i s ≡ [] = drop_of_length-le s l in
      let z : high (drop i s) ≡ 0 = ap high d in
      let a : high s ≡ length s = omega arith in
      rw (lt-ltb (length s) 5 (omega arith), eq-eqb (high s) (length s) a)

  pub gathering-six : 5 ≤ i → Err StoredNumber ≡ number_of s
  unfolding number_of
  gathering-six h = rw (le-ltb (length s) 5 (omega arith), lt-ltb 4 (high s) (omega arith))

  module _ (h : i < 5) (k : i < length s) (group : ℕ) (e : group ≡ bit_and (get_or s i 0) 127) where
    -- the value with the next group
    abbrev next : ℕ
    next = bit_or value (group * 2 ^ shift % 18446744073709551616)

    next-is : next ≡ (get_or s i 0 % 128) * 128 ^ i + value
    next-is = rw e (group-bits value (get_or s i 0) shift i g.bits h g.small)

    rest-is : drop i s ≡ get_or s i 0 ∷ drop (suc i) s
    rest-is = drop-cons s i 0 k

    pub gathering-more : 128 ≤ get_or s i 0 → Gathering s next (shift + 7) (i + 1)
    unfolding sum_from
    gathering-more l =
        let b : ℕ = get_or s i 0 in
        let x : high (drop i s) ≡ suc (high (drop (suc i) s)) = ap high rest-is ∙ high-high b (drop (suc i) s) l in
        let y : left_from i (drop i s) ≡ (b % 128) * 128 ^ i + left_from (suc i) (drop (suc i) s) = rw (x, rest-is) in
        rw (add-one i)
        (record {
          bits = omega (arith, g.bits);
          begun = omega arith;
          place = omega arith;
          within = omega arith;
          small = rw (next-is, pow-suc 128 i) (digits-lt-128 (b % 128) (128 ^ i) value (omega arith) g.small);
          ahead = omega (arith, g.ahead);
          left = omega (arith, g.left, next-is);
        })

    module _ (l : get_or s i 0 < 128) where
      last-high : high s ≡ i
      last-high = omega (arith, g.ahead, ap high rest-is ∙ high-low (get_or s i 0) (drop (suc i) s) l)

      last-value : value_of s ≡ next
      unfolding sum_from
      last-value =
          let x : high (drop i s) ≡ 0 = ap high rest-is ∙ high-low (get_or s i 0) (drop (suc i) s) l in
          let y : left_from i (drop i s) ≡ (get_or s i 0 % 128) * 128 ^ i + 0 = rw (x, rest-is) in
          omega (arith, g.left, next-is)

      -- it ends within the list and five groups
      ends : (is : Result Numeral Why) (t : Bool) → cond (is_cut s) (Err StoredShort) (cond (ltb 4 (high s) || t) (Err StoredNumber) is) ≡ cond t (Err StoredNumber) is
      ends is t = rw (not-cut s (omega (arith, last-high)), le-ltb 4 (high s) (omega (arith, last-high)))

      pub gathering-long : get_or s i 0 ≡ 0 → Err StoredNumber ≡ number_of s
      unfolding number_of is_long
      gathering-long z =
          let q : next ≡ value = next-is ∙ rw z (omega arith) in
          let m : value_of s < 128 ^ high s = rw (last-value, last-high, q) g.small in
          sym
          (ends (Ok (numeral (value_of s) (suc (high s)))) (is_long s || ltb 4294967295 (value_of s))
          ∙ rw (ne_eqb (high s) 0 (λ z. omega (arith, last-high, g.begun)), lt-ltb (value_of s) (128 ^ high s) m))

      pub gathering-over : 4294967295 < next → Err StoredNumber ≡ number_of s
      unfolding number_of
      gathering-over o =
          sym
          (ends (Ok (numeral (value_of s) (suc (high s)))) (is_long s || ltb 4294967295 (value_of s))
          ∙ rw (lt-ltb 4294967295 (value_of s) (rw last-value o), or_some (is_long s)))

      pub gathering-done : (get_or s i 0 ≡ 0 → ⊥) → next ≤ 4294967295 → Ok (numeral next (i + 1)) ≡ number_of s
      gathering-done f o =
          let w : Whole s = record {
            within = omega (arith, last-high);
            few = omega (arith, last-high);
            least = λ z. rw (last-value, last-high, next-is) (least-128 (get_or s i 0 % 128) (128 ^ i) value (omega arith));
            small = omega (arith, last-value);
          } in
          sym (whole_is s w ∙ rw (last-value, last-high, add-one i))

-- ---- writing

pub put_one : (room : List ℕ) (n b : ℕ) → n < length room → set room n b ≡ put 1 room n (b ∷ [])
put_one room n b h = let e : n ≡ n * 1 = omega arith in ap (λ (i : ℕ). set room i b) e ∙ put_in 1 room n (b ∷ []) (omega arith)

pub put-past : (room : List ℕ) (n b : ℕ) → length room ≤ n → room ≡ put 1 room n (b ∷ [])
put-past room n b h = put-out 1 room n (b ∷ []) (omega arith)

-- who writes g has then written v
abbrev Follows : ℕ → ℕ → List ℕ → ℕ → List ℕ → List ℕ → Type 0
Follows n v room₀ at room g =
    (r : Result ℕ Refusal) (room' : List ℕ) → Wrote byte_layout at room (streamed g) r room'
    → Wrote byte_layout n room₀ (streamed (written v)) r room'

-- k groups with the high bit may be left
pub record Putting (n v : ℕ) (room₀ : List ℕ) (at rest : ℕ) (room : List ℕ) : Type 0 where
  pub k : ℕ
  pub place : at + k ≡ n + 4
  pub small : rest < 128 ^ suc k
  pub same : length room ≡ length room₀
  pub left : Follows n v room₀ at room (groups k rest)

pub putting-start : (n v : ℕ) (room : List ℕ) → v < 4294967296 → Putting n v room n v room
putting-start n v room h = record { k = 4; place = refl; small = omega arith; same = refl; left = λ r room' w. w }

module _ (n v : ℕ) (room₀ : List ℕ) (at rest : ℕ) (room : List ℕ) (p : Putting n v room₀ at rest room)
    (b : ℕ) (room' : List ℕ) (q : room' ≡ put 1 room at (b ∷ [])) where
  pub putting-done : rest < 128 → b ≡ rest → Wrote byte_layout n room₀ (streamed (written v)) (Ok (at + 1)) room'
  unfolding streamed
  putting-done h e =
      p.left (Ok (at + 1)) room'
      (wrote_one byte_layout (ap streamed (groups-last p.k rest h ∙ ap (λ (x : ℕ). x ∷ []) (sym e))) q)

  pub putting-same : length room' ≡ length room₀
  putting-same = ap length q ∙ length-put 1 room at (b ∷ []) ∙ p.same

  more : (k : ℕ) → at + k ≡ n + 4 → rest < 128 ^ suc k → Follows n v room₀ at room (groups k rest)
      → 128 ≤ rest → b ≡ 128 + rest % 128 → Putting n v room₀ (at + 1) (rest / 128) room'
  unfolding streamed
  more zero a s w h e = absurd (omega arith)
  more (suc k) a s w h e = record {
    k = k;
    place = omega arith;
    small = fewer k rest s;
    same = putting-same;
    left = λ r room'' d. w r room''
        (wrote-more byte_layout (ap streamed (groups-more k rest h ∙ ap (λ (x : ℕ). x ∷ groups k (rest / 128)) (sym e))) q d);
  }

  pub putting-more : 128 ≤ rest → b ≡ bit_or (bit_and rest 127) 128 → Putting n v room₀ (at + 1) (rest / 128) room'
  putting-more h e = more p.k p.place p.small p.left h (e ∙ mark-bits rest)
