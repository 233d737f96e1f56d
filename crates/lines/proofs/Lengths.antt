-- How many bytes texts have, at most: so a page of known size holds them.
--     length-decimal          a number: 20
--     length-place            a refusal's place, with the space behind it: 21
--     length-signed           a word with its sign: 11, whatever the word
--     length-line, -lines     the lines of a room: 12 for each word of it
-- Assumes nothing.
use Prim.Native.Nat.{ℕ, zero, suc, ◌-◌, ◌*◌, ◌/◌, ◌^◌, ◌≤◌, ◌<◌}
use mathlib.Core.Path.{◌≡◌, refl, ◌∙◌}
use mathlib.Core.List.{List, [], ◌∷◌, ◌++◌}
use mathlib.Core.Bool.{Bool, true, false, cond}
use native.Mathlib.Nat.{pow-suc}
use native.Mathlib.Omega.{arith}
use borrow.Author.Tests.{ltb-true, ltb-false}
use lib.Dec.{eqb, ltb}
use lib.ListN.{length, take, drop, length-append, length-take, length-drop}
use Rattle.io.specs.Digits.{last_digits}
use Rattle.lines.specs.Lines.{places, decimal, item, place_item, signed, mark, line, lines}

length_digits : (k n : ℕ) → length (last_digits 10 k n) ≡ k
length_digits zero n = refl
length_digits (suc k) n = length-append (last_digits 10 k (n / 10)) _ ∙ (let h = length_digits k (n / 10) in omega arith)

places-most : (f n : ℕ) → places f n ≤ suc f
unfolding places
places-most zero n = omega arith
places-most (suc f) n = go (ltb n 10) (places-most f (n / 10))
  where
    go : (t : Bool) → places f (n / 10) ≤ suc f → cond t 1 (suc (places f (n / 10))) ≤ suc (suc f)
    go true h = omega arith
    go false h = omega arith

-- a number below a power of ten has no more digits than the power
places-below : (f n k : ℕ) → n < 10 ^ suc k → places f n ≤ suc k
unfolding places
places-below zero n k h = omega arith
places-below (suc f) n zero h = go (ltb n 10) refl
  where
    go : (t : Bool) → ltb n 10 ≡ t → cond t 1 (suc (places f (n / 10))) ≤ 1
    go true e = omega arith
    go false e = absurd (let a = ltb-false n 10 e in let c : 10 ^ 1 ≡ 10 = refl in omega arith)
places-below (suc f) n (suc k) h = go (ltb n 10) (places-below f (n / 10) k (let e = pow-suc 10 (suc k) in omega arith))
  where
    go : (t : Bool) → places f (n / 10) ≤ suc k → cond t 1 (suc (places f (n / 10))) ≤ suc (suc k)
    go true g = omega arith
    go false g = omega arith

pub length-decimal : (n : ℕ) → length (decimal n) ≤ 20
unfolding decimal
length-decimal n = let d = length_digits (places 19 n) n in let h = places-most 19 n in omega arith

decimal-word : (n : ℕ) → n ≤ 2147483648 → length (decimal n) ≤ 10
unfolding decimal
decimal-word n h =
    let p : 10 ^ 10 ≡ 10000000000 = refl in
    let d = length_digits (places 19 n) n in
    let g = places-below 19 n 9 (omega arith) in
    omega arith

pub length-place : (number place : ℕ) → length (place_item number place) ≤ 21
unfolding place_item
length-place number place = let a = length-decimal place in go (eqb number 0) (simp length-append (omega arith))
  where
    go : (t : Bool) → length (item place 32) ≤ 21 → length (cond t [] (item place 32)) ≤ 21
    go true h = omega arith
    go false h = h

pub length-signed : (w : ℕ) → length (signed w) ≤ 11
unfolding signed
length-signed w = go (ltb w 2147483648) refl
  where
    go : (t : Bool) → ltb w 2147483648 ≡ t → length (cond t (decimal w) (45 ∷ decimal (4294967296 - w))) ≤ 11
    go true e = let l = ltb-true w 2147483648 e in let h = decimal-word w (omega arith) in omega arith
    go false e = let l = ltb-false w 2147483648 e in let h = decimal-word (4294967296 - w) (omega arith) in omega arith

pub length-line : (ws : List ℕ) → length (line ws) ≤ 12 * length ws
unfolding line
length-line [] = omega arith
length-line (w ∷ ws) =
    let h = length-signed w in
    let g = length-line ws in
    let a = length-append (signed w) (mark 0 (length ws) ∷ line ws) in
    omega arith

pub length-lines : (width count : ℕ) (room : List ℕ) → length (lines width count room) ≤ 12 * length room
unfolding lines
length-lines width zero room = omega arith
length-lines width (suc k) room = go (ltb (length room) width) refl (length-lines width k (drop width room))
  where
    go : (t : Bool) → ltb (length room) width ≡ t → length (lines width k (drop width room)) ≤ 12 * length (drop width room)
        → length (cond t [] (line (take width room) ++ lines width k (drop width room))) ≤ 12 * length room
    go true e h = omega arith
    go false e h =
        let l = ltb-false (length room) width e in
        let g = length-line (take width room) in
        let a = length-append (line (take width room)) (lines width k (drop width room)) in
        let t = length-take width room in
        let d = length-drop width room in
        omega arith
