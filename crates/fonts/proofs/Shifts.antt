-- Words that move on by one record, and a record that is written there.
--     moved-on                  the words that the library moves
--     over                      a record written over another
--     between                   a record written where the later ones have moved on
-- Assumes nothing.
use Rattle.std.proofs.Common.{◌≡◌, ℕ, ◌+◌, ◌-◌, ◌≤◌, List, ◌++◌, length, take, drop, sym, ap, ◌∙◌, append_assoc, arith, length-append, length-take-le, drop_at}
use lib.Seq.{paste, sets, sets-eq}
use lib.Seq.{take-append_seam, drop-append_seam, take-append-add, drop-append-add}
use Rattle.fonts.specs.Rows.{shifted, font_words}

-- the library's move of words, to behind one record, is the move by one record
pub moved-on : (from to : ℕ) (l : List ℕ) → from ≤ to → paste l (from + font_words) (drop from l) (to - from) ≡ shifted from to l
unfolding shifted
moved-on from to l h =
    let e : from + font_words + (to - from) ≡ to + font_words = omega arith in
    rw e (append_assoc (take (from + font_words) l) (take (to - from) (drop from l)) (drop (to + font_words) l))

-- in place of words of the same length
pub over : (p x q v : List ℕ) → length x ≡ length v → sets (p ++ (x ++ q)) (length p) v ≡ p ++ (v ++ q)
over p x q v e =
    let lx : length (p ++ (x ++ q)) ≡ length p + (length x + length q) = length-append p (x ++ q) ∙ rw (length-append x q) in
    let t : take (length p) (p ++ (x ++ q)) ≡ p = take-append_seam p (x ++ q) in
    let d : drop (length p + length v) (p ++ (x ++ q)) ≡ q = drop-append-add p (x ++ q) (length v) ∙ drop_at x q (length v) e in
    sets-eq v (p ++ (x ++ q)) (length p) (omega arith) ∙ rw (t, d) (append_assoc p v q)

shift-between : (p q rest : List ℕ) → shifted (length p) (length p + length q) (p ++ (q ++ rest)) ≡ p ++ (take font_words (q ++ rest) ++ (q ++ drop font_words rest))
unfolding shifted
shift-between p q rest =
    let a : take (length p + font_words) (p ++ (q ++ rest)) ≡ p ++ take font_words (q ++ rest) = take-append-add p (q ++ rest) font_words in
    let m : length p + length q - length p ≡ length q = omega arith in
    let b : take (length q) (drop (length p) (p ++ (q ++ rest))) ≡ q = ap (take (length q)) (drop-append_seam p (q ++ rest)) ∙ take-append_seam q rest in
    let k : length p + length q + font_words ≡ length p + (length q + font_words) = omega arith in
    let d : drop (length p + (length q + font_words)) (p ++ (q ++ rest)) ≡ drop font_words rest = drop-append-add p (q ++ rest) (length q + font_words) ∙ drop-append-add q rest font_words in
    rw (a, m, b, k, d) (append_assoc p (take font_words (q ++ rest)) (q ++ drop font_words rest))

pub between : (p q rest v : List ℕ) → length v ≡ font_words → font_words ≤ length rest
    → sets (shifted (length p) (length p + length q) (p ++ (q ++ rest))) (length p) v ≡ p ++ (v ++ (q ++ drop font_words rest))
between p q rest v e h =
    let n : length (q ++ rest) ≡ length q + length rest = length-append q rest in
    let l : length (take font_words (q ++ rest)) ≡ font_words = length-take-le font_words (q ++ rest) (omega arith) in
    ap (λ (s : List ℕ). sets s (length p) v) (shift-between p q rest)
    ∙ over p (take font_words (q ++ rest)) (q ++ drop font_words rest) v (l ∙ sym e)
