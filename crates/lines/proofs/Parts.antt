-- The lines of a room's records, part by part.
--     lines_none    no words, no lines
--     lines_split   those of the first m records, and then those of the rest
-- Assumes nothing.
use Prim.Native.Nat.{ℕ, zero, suc, ◌+◌, ◌-◌, ◌*◌, ◌≤◌}
use mathlib.Core.Path.{◌≡◌, refl, sym, ap, ◌∙◌}
use mathlib.Core.List.{List, [], ◌∷◌, ◌++◌, append_assoc}
use mathlib.Core.Bool.{Bool, true, false}
use native.Mathlib.Omega.{arith}
use borrow.Author.Tests.{ltb-true, ltb-false, lt-ltb, le-ltb}
use lib.Dec.{ltb}
use lib.ListN.{length, take, drop, length-take, length-drop}
use lib.Seq.{take-nil, take-take, drop-drop}
use Rattle.lines.specs.Lines.{line, lines}
use Rattle.lines.proofs.Lines.{lines-short, lines_end}

pub lines_none : (width count : ℕ) → lines width count [] ≡ []
unfolding lines line
lines_none width zero = refl
lines_none zero (suc k) = lines_none zero k
lines_none (suc w) (suc k) = rw (lt-ltb 0 (suc w) (omega arith))

-- a part's words, behind those of the first record
drop-take : (n m : ℕ) (l : List ℕ) → drop n (take (n + m) l) ≡ take m (drop n l)
drop-take zero m l = ap (λ (k : ℕ). take k l) (let e : 0 + m ≡ m = omega arith in e)
drop-take (suc n) m [] = ap (drop (suc n)) (take-nil (suc n + m)) ∙ sym (take-nil m)
drop-take (suc n) m (x ∷ l) = let e : suc n + m ≡ suc (n + m) = omega arith in rw e (drop-take n m l)

lines-zero : (width : ℕ) (room : List ℕ) → lines width 0 room ≡ []
unfolding lines
lines-zero width room = refl

lines-first : (width k : ℕ) (room : List ℕ) → width ≤ length room → lines width (suc k) room ≡ line (take width room) ++ lines width k (drop width room)
unfolding lines
lines-first width k room h = rw (le-ltb (length room) width h)

-- one record more, where there is one
one_more : (width k n m : ℕ) (room : List ℕ) → width ≤ length room → n ≡ width + m * width
    → lines width k (drop width room) ≡ lines width k (take (m * width) (drop width room)) ++ lines width (k - m) (drop (m * width) (drop width room))
    → lines width (suc k) room ≡ lines width (suc k) (take n room) ++ lines width (k - m) (drop n room)
one_more width k n m room h e more =
    let t : width ≤ length (take n room) = simp length-take (omega arith) in
    let a : take width (take n room) ≡ take width room = take-take width n room (omega arith) in
    let b : drop width (take n room) ≡ take (m * width) (drop width room) = rw e (drop-take width (m * width) room) in
    let d : drop (m * width) (drop width room) ≡ drop n room = rw e (drop-drop (m * width) width room) in
    rw (lines-first width k room h, lines-first width k (take n room) t, a, b, ← d, append_assoc) (ap (λ (x : List ℕ). line (take width room) ++ x) more)

pub lines_split : (width count m : ℕ) (room : List ℕ)
    → lines width count room ≡ lines width count (take (m * width) room) ++ lines width (count - m) (drop (m * width) room)
lines_split width zero m room = rw (lines-zero width room, lines-zero width (take (m * width) room), lines_end width 0 m (drop (m * width) room) (omega arith))
lines_split width (suc k) zero room =
    let e : 0 * width ≡ 0 = omega arith in
    let z : suc k - 0 ≡ suc k = omega arith in
    rw (e, z, lines_none)
lines_split width (suc k) (suc m) room = go (ltb (length room) width) refl (lines_split width k m (drop width room))
  where
    n : suc m * width ≡ width + m * width
    n = omega arith

    go : (t : Bool) → ltb (length room) width ≡ t
        → lines width k (drop width room) ≡ lines width k (take (m * width) (drop width room)) ++ lines width (k - m) (drop (m * width) (drop width room))
        → lines width (suc k) room ≡ lines width (suc k) (take (suc m * width) room) ++ lines width (suc k - suc m) (drop (suc m * width) room)
    go true e more =
        let h = ltb-true (length room) width e in
        rw (lines-short width (suc k) room h, lines-short width (suc k) (take (suc m * width) room) (simp length-take (omega arith)), lines-short width (suc k - suc m) (drop (suc m * width) room) (simp length-drop (omega arith)))
    go false e more =
        let s : suc k - suc m ≡ k - m = omega arith in
        rw s (one_more width k (suc m * width) m room (ltb-false (length room) width e) n more)
