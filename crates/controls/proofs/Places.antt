-- What a slice shows stands in it, so that a token's place and length can be read back from the source: what is said of the tokens of a
-- slice by either rule set.
--     at_after, at_before             bytes that stand in a list stand in it behind a front, and in front of a rest
--     at_back, at_front               all from a place on, all up to a place
--     stands_after, stands-before     the same of what a token shows
--     shown-stands, numbered-stands   a word whose name stands behind its backslash
-- Assumes nothing.
use mathlib.Core.Path.{◌≡◌, refl}
use mathlib.Core.List.{List, ◌∷◌, ◌++◌}
use mathlib.Core.Bool.{Bool, true, false, cond}
use Prim.Native.Nat.{ℕ, ◌+◌, ◌≤◌, ◌<◌}
use native.Mathlib.Omega.{arith}
use borrow.Author.Tests.{ltb-true}
use lib.ListN.{length, take, drop, length-append, length-drop}
use lib.Seq.{take-length, take-append_seam, drop-append_seam, take-append-le, drop-append-le, drop-append-add}
use lib.Dec.{ltb}
use Rattle.names.specs.Names.{word_number}
use Rattle.rooms.proofs.Streams.{Each}
use Rattle.tokens.specs.Tokens.{Shown, value_of}
use Rattle.controls.specs.Controls.{shown_word, numbered}
use Rattle.std.specs.Prelude.{Option, Some, None}

-- the bytes bs stand at source place q, where s stands at p
pub record At (s : List ℕ) (p q : ℕ) (bs : List ℕ) : Type 0 where
  pub from : ℕ
  pub place : q ≡ p + from
  pub fits : from + length bs ≤ length s
  pub same : take (length bs) (drop from s) ≡ bs

pub at_after : (x : List ℕ) {s : List ℕ} {p q : ℕ} {bs : List ℕ} → At s (p + length x) q bs → At (x ++ s) p q bs
at_after x {s} {p} {q} {bs} a = record {
  from = length x + a.from;
  place = omega arith;
  fits = rw length-append (omega arith);
  same = rw drop-append-add a.same;
}

pub at_before : (y : List ℕ) {s : List ℕ} {p q : ℕ} {bs : List ℕ} → At s p q bs → At (s ++ y) p q bs
at_before y {s} {p} {q} {bs} a = record {
  from = a.from;
  place = a.place;
  fits = rw length-append (omega arith);
  same =
      rw (drop-append-le a.from s y (omega arith), take-append-le (length bs) (drop a.from s) y (rw length-drop (omega arith))) a.same;
}

-- all from a place on, and all up to a place
pub at_back : (x s : List ℕ) (p q : ℕ) → q ≡ p + length x → At (x ++ s) p q s
at_back x s p q e = record { from = length x; place = e; fits = rw length-append (omega arith); same = rw drop-append_seam (take-length s) }

pub at_front : (x y : List ℕ) (p : ℕ) → At (x ++ y) p p x
at_front x y p = record { from = 0; place = omega arith; fits = rw length-append (omega arith); same = take-append_seam x y }

-- "that number modulo 2^32"
abbrev pub Small : Option ℕ → Type 0
Small num = value_of num < 4294967296

-- what a token shows stands in s, which stands at p: the bytes of a text, of an unknown word; numbers fit their words, and a symbol's is
-- a byte
abbrev pub Stands : List ℕ → ℕ → Shown → Type 0
Stands s p (Shown.text q bs) = At s p q bs
Stands s p Shown.opening = Unit {0}
Stands s p Shown.closing = Unit {0}
Stands s p Shown.line_break = Unit {0}
Stands s p Shown.ignorable = Unit {0}
Stands s p (Shown.word w num) = (w < 49) × Small num
Stands s p (Shown.unknown q bs num) = At s p q bs × Small num
Stands s p (Shown.symbol b num) = value_of num < 256

-- where bytes are moved, what shows them is
stands-moved : {s s' : List ℕ} {p p' : ℕ} → ((q : ℕ) (bs : List ℕ) → At s p q bs → At s' p' q bs) → (t : Shown) → Stands s p t → Stands s' p' t
stands-moved f (Shown.text q bs) h = f q bs h
stands-moved f Shown.opening h = tt
stands-moved f Shown.closing h = tt
stands-moved f Shown.line_break h = tt
stands-moved f Shown.ignorable h = tt
stands-moved f (Shown.word w num) h = h
stands-moved f (Shown.unknown q bs num) h = (f q bs h.0, h.1)
stands-moved f (Shown.symbol b num) h = h

pub stands_after : (x s : List ℕ) (p : ℕ) (t : Shown) → Stands s (p + length x) t → Stands (x ++ s) p t
stands_after x s p = stands-moved (λ q bs. at_after x)

pub stands-before : (y s : List ℕ) (p : ℕ) (t : Shown) → Stands s p t → Stands (s ++ y) p t
stands-before y s p = stands-moved (λ q bs. at_before y)

module _ (p : ℕ) where
  -- a word's name is the front of what stands behind the backslash
  pub shown-stands : (x y : List ℕ) (num : Option ℕ) → Small num → Stands (92 ∷ (x ++ y)) p (shown_word p x num)
  unfolding shown_word
  shown-stands x y num h = go (ltb (word_number x) 49) refl
    where
      go : (t : Bool) → ltb (word_number x) 49 ≡ t → Stands (92 ∷ (x ++ y)) p (cond t (Shown.word (word_number x) num) (Shown.unknown p (92 ∷ x) num))
      go true e = (ltb-true (word_number x) 49 e, h)
      go false e = (at_front (92 ∷ x) y p, h)

  pub numbered-stands : (x y : List ℕ) (n : Option ℕ) → ((v : ℕ) → n ≡ Some v → v < 4294967296) → Each (Stands (92 ∷ (x ++ y)) p) (numbered p x n)
  unfolding numbered
  numbered-stands x y (Some v) h = (shown-stands x y (Some v) (h v refl), tt)
  numbered-stands x y None h = tt
