-- The lines of records.
--     signed-down                       a word that stands for a number below 0
--     line-more, -end                   the words that are left of a record
--     lines-short, lines_end            a room too short for a record, and no records asked for
--     lines_next, -last, -of_none       what an iterator over a room's records has left
-- Assumes nothing.
use Prim.Native.Nat.{ℕ, zero, suc, ◌+◌, ◌-◌, ◌≤◌, ◌<◌}
use mathlib.Core.Path.{◌≡◌, refl, sym, ap, ◌∙◌}
use mathlib.Core.List.{List, [], ◌∷◌, ◌++◌, append_assoc}
use native.Mathlib.Omega.{arith}
use mathlib.Core.Bool.{Bool, true, false, cond}
use borrow.Author.Tests.{ltb-true, ltb-false, lt-ltb, le-ltb}
use lib.Dec.{ltb}
use lib.ListN.{length, take, drop, get_or, length-append, length-drop, drop_of_length-le}
use lib.Seq.{drop-cons, take-append_seam, drop-append_seam}
use Rattle.lines.specs.Lines.{item, signed, mark, line, lines}

pub signed-down : (w b v : ℕ) → 2147483648 ≤ w → v + w ≡ 4294967296 → (45 ∷ []) ++ item v b ≡ signed w ++ (b ∷ [])
unfolding signed
signed-down w b v h e =
    let d : v ≡ 4294967296 - w = omega arith in
    rw (le-ltb w 2147483648 h, d)

mark-left : (i : ℕ) (s : List ℕ) → mark (i + 1) (length s) ≡ mark 0 (length (drop (suc i) s))
unfolding mark
mark-left i s = ap (λ (t : Bool). cond t 32 10) (go (ltb (i + 1) (length s)) refl)
  where
    go : (t : Bool) → ltb (i + 1) (length s) ≡ t → ltb (i + 1) (length s) ≡ ltb 0 (length (drop (suc i) s))
    go true e = e ∙ sym (lt-ltb 0 (length (drop (suc i) s)) (let h = ltb-true (i + 1) (length s) e in simp length-drop (omega arith)))
    go false e = e ∙ sym (le-ltb 0 (length (drop (suc i) s)) (let h = ltb-false (i + 1) (length s) e in simp length-drop (omega arith)))

pub line-more : (s : List ℕ) (i b : ℕ) → i < length s → b ≡ mark (i + 1) (length s) → line (drop i s) ≡ (signed (get_or s i 0) ++ (b ∷ [])) ++ line (drop (i + 1) s)
unfolding line
line-more s i b h e =
    let a : i + 1 ≡ suc i = omega arith in
    rw (e, mark-left i s, a, append_assoc, drop-cons s i 0 h)

pub line-end : (s : List ℕ) (i : ℕ) → length s ≤ i → line (drop i s) ≡ []
unfolding line
line-end s i h = rw (drop_of_length-le s {i = i} h)

pub lines-short : (width n : ℕ) (room : List ℕ) → length room < width → lines width n room ≡ []
unfolding lines
lines-short width zero room h = refl
lines-short width (suc n) room h = rw (lt-ltb (length room) width h)

pub lines_end : (width count k : ℕ) (room : List ℕ) → count ≤ k → lines width (count - k) room ≡ []
unfolding lines
lines_end width count k room h =
    let e : count - k ≡ 0 = omega arith in
    rw e

-- the record that an iterator over a room gives next, and what it has left
pub lines_next : (width count n : ℕ) (room words others : List ℕ) → n + 1 ≡ count → room ≡ words ++ others → length words ≡ width
    → lines width count room ≡ line words ++ lines width n others
unfolding lines
lines_next width count n room words others e f w =
    let m : count ≡ suc n = omega arith in
    let g : width ≤ length (words ++ others) = simp length-append (omega arith) in
    let t : take width (words ++ others) ≡ words = rw (← w) (take-append_seam words others) in
    let d : drop width (words ++ others) ≡ others = rw (← w) (drop-append_seam words others) in
    rw (m, f, le-ltb (length (words ++ others)) width g, t, d)

-- it has none left: so many were given, or the room is too short for another
pub lines-last : (width n : ℕ) (room : List ℕ) → (0 < n → length room < width) → lines width n room ≡ []
unfolding lines
lines-last width zero room h = refl
lines-last width (suc n) room h = lines-short width (suc n) room (h (omega arith))

-- records of no words
pub lines_of_none : (width count : ℕ) (room : List ℕ) → width ≡ 0 → lines width count room ≡ []
unfolding lines line
lines_of_none width zero room e = refl
lines_of_none width (suc n) room e = rw (e, le-ltb (length room) 0 (omega arith)) (lines_of_none width n room e)
