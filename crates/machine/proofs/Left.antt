-- What is left of a token where characters are to be passed over.
--     is_telling      whether it is a text of the source
--     left-read      a token of which something is left, and that is no text, is as it was
--     left-told      of a text the rest is left
--     passed-not, passed-count   whether nothing is left, by how many characters it is
-- Assumes nothing.
use mathlib.Core.Path.{◌≡◌, refl, ◌∙◌}
use mathlib.Core.List.{List, [], ◌∷◌}
use mathlib.Core.Bool.{Bool, true, false, not, ◌&&◌}
use Prim.Native.Nat.{ℕ, zero, suc, ◌<◌}
use native.Mathlib.Omega.{arith}
use borrow.Author.Tests.{leb-true, leb-false, le-leb, lt-leb}
use lib.ListN.{length, drop}
use lib.Dec.{leb}
use Rattle.machine.specs.Machine.{Deed, opens, closes, sets, says, tells, unit, refuses, parts, stops, passes, is_brace, counts, tells_rest, left, is_passed}

abbrev pub is_telling : {S : Type 0} → Deed S → Bool
is_telling (tells bs) = true
is_telling opens = false
is_telling closes = false
is_telling (sets ss) = false
is_telling (says bs) = false
is_telling (unit num) = false
is_telling (refuses why) = false
is_telling parts = false
is_telling (stops why) = false
is_telling passes = false

pub passed-not : {S : Type 0} (d : Deed S) → is_passed d ≡ false → is_passed (left 0 d) ≡ false
unfolding left
passed-not d e = e

leb-suc : (a b : ℕ) → leb (suc a) (suc b) ≡ leb a b
leb-suc a b = go (leb a b) refl
  where
    go : (t : Bool) → leb a b ≡ t → leb (suc a) (suc b) ≡ t
    go true e = let h = leb-true a b e in le-leb (suc a) (suc b) (omega arith)
    go false e = let h = leb-false a b e in lt-leb (suc a) (suc b) (omega arith)

-- a text is passed over whole if it is no longer than what is passed over
rest-passed : (S : Type 0) (n : ℕ) (bs : List ℕ) → leb (length bs) n ≡ is_passed {S = S} (tells_rest (drop n bs))
rest-passed S zero [] = refl
rest-passed S zero (b ∷ bs) = lt-leb (suc (length bs)) 0 (omega arith)
rest-passed S (suc n) [] = le-leb 0 (suc n) (omega arith)
rest-passed S (suc n) (b ∷ bs) = leb-suc (length bs) n ∙ rest-passed S n bs

module _ {S : Type 0} where
  left-same : (n : ℕ) (d : Deed S) → is_telling d ≡ false → is_passed (left n d) ≡ false → d ≡ left n d
  unfolding left
  left-same zero d t e = refl
  left-same (suc n) opens t e = refl
  left-same (suc n) closes t e = refl
  left-same (suc n) parts t e = refl
  left-same (suc n) passes t e = refl
  left-same (suc n) (tells bs) t e = cc
  left-same (suc n) (sets ss) t e = cc
  left-same (suc n) (says bs) t e = cc
  left-same (suc n) (unit num) t e = cc
  left-same (suc n) (refuses why) t e = cc
  left-same (suc n) (stops why) t e = cc

  pub left-read : (n : ℕ) (x d : Deed S) → x ≡ d → is_telling x ≡ false → is_passed (left n d) ≡ false → x ≡ left n d
  left-read n x d e t p = let u : is_telling d ≡ false = rw (← e) t in rw e (left-same n d u p)

  rest-told : (l : List ℕ) → is_passed {S = S} (tells_rest l) ≡ false → ◌≡◌ {A = Deed S} (tells l) (tells_rest l)
  rest-told [] e = cc
  rest-told (b ∷ l) e = refl

  pub left-told : (n : ℕ) (bs : List ℕ) (d : Deed S) → tells bs ≡ d → is_passed (left n d) ≡ false → tells (drop n bs) ≡ left n d
  unfolding left
  left-told zero bs d e p = e
  left-told (suc n) bs d e p = rw (← e) (rest-told (drop (suc n) bs) (rw (← e) at p))

  pub passed-count : (n : ℕ) (d : Deed S) → 0 < n → not (is_brace d) && leb (counts d) n ≡ is_passed (left n d)
  unfolding left
  passed-count zero d h = absurd (omega arith)
  passed-count (suc n) opens h = refl
  passed-count (suc n) closes h = refl
  passed-count (suc n) parts h = refl
  passed-count (suc n) passes h = le-leb 0 (suc n) (omega arith)
  passed-count (suc n) (tells bs) h = rest-passed S (suc n) bs
  passed-count (suc n) (sets ss) h = le-leb 1 (suc n) (omega arith)
  passed-count (suc n) (says bs) h = le-leb 1 (suc n) (omega arith)
  passed-count (suc n) (unit num) h = le-leb 1 (suc n) (omega arith)
  passed-count (suc n) (refuses why) h = le-leb 1 (suc n) (omega arith)
  passed-count (suc n) (stops why) h = le-leb 1 (suc n) (omega arith)
