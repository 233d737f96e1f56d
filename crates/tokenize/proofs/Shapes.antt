-- A word of letters, e of them, and then digits, up to k, that ends there: what the definition of a word finds in it.
--     word-body    without the digits at its end it has e bytes
--     word-shape   its token, and the text behind it
--     tail-plain   plain text, seen by its first byte
--     word_slice   a word, seen by its first two
-- Assumes nothing.
use mathlib.Core.Path.{◌≡◌, refl, sym, ap, subst, ◌∙◌}
use mathlib.Core.List.{List, [], ◌∷◌}
use mathlib.Core.Bool.{Bool, true, false, cond, not, ◌&&◌, ◌||◌}
use Prim.Native.Nat.{ℕ, zero, suc, ◌+◌, ◌-◌, ◌≤◌, ◌<◌}
use native.Mathlib.Omega.{arith}
use lib.ListN.{length, get_or, take, drop, length-take, length-drop}
use lib.Seq.{get_or-drop}
use lib.Dec.{leb, eqb}
use borrow.Author.Tests.{leb-true, eqb-true, eqb-false, le-leb, lt-leb, ne_eqb, not-false}
use Rattle.classes.specs.declared.Class.TheVariants.{InWord, Numeral}
use Rattle.classes.specs.Bytes.{is_letter, is_numeral, is_special, ends_word, in_class, lead, body, grown}
use Rattle.classes.proofs.Runs.{and_left, and_right, or_left, or_right}
use Rattle.rooms.specs.Streams.{and_then}
use Rattle.readings.specs.declared.Reading.{Reading}
use Rattle.tokenize.specs.Tokenize.{is_mark, bare_length, named, plain, word_tail, word, tokens}
use Rattle.tokenize.proofs.Rules.{part, part-drop, word-parts, tokens-plain, tokens-escaped, escaped-word}
use Rattle.tokenize.specs.Quick.{ends_at}

-- no white space: a byte from 33 on
inside : (b : ℕ) → 33 ≤ b → ends_word b ≡ false
inside b h = rw (le-leb 9 b (omega arith), lt-leb b 13 (omega arith), ne_eqb b 32 (λ e. omega arith))

letter-from : (b : ℕ) → is_letter b ≡ true → 97 ≤ b
letter-from b t = leb-true 97 b (and_left (leb 97 b) (leb b 122) t)

letter-inside : (b : ℕ) → is_letter b ≡ true → ends_word b ≡ false
letter-inside b t = inside b (omega (arith, letter-from b t))

letter-only : (b : ℕ) → is_letter b ≡ true → is_numeral b ≡ false
letter-only b t =
    let h = letter-from b t in
    rw (le-leb 48 b (omega arith), lt-leb b 57 (omega arith), ne_eqb b 45 (λ e. omega arith))

-- a numeral is from 45 to 57
numeral-range : (b : ℕ) → is_numeral b ≡ true → (45 ≤ b) × (b ≤ 57)
numeral-range b t = go (leb 48 b && leb b 57) refl t
  where
    go : (u : Bool) → leb 48 b && leb b 57 ≡ u → u || eqb b 45 ≡ true → (45 ≤ b) × (b ≤ 57)
    go true e x =
        let l = leb-true 48 b (and_left (leb 48 b) (leb b 57) e) in
        (omega arith, leb-true b 57 (and_right (leb 48 b) (leb b 57) e))
    go false e x = let q = eqb-true b 45 x in (omega arith, omega arith)

-- none is a semicolon
abbrev Bare : List ℕ → Type 0
Bare w = (i : ℕ) → get_or w i 0 ≡ 59 → ⊥

bare-none : Bare []
bare-none i e = omega arith

bare-more : (b : ℕ) (w : List ℕ) → (b ≡ 59 → ⊥) → Bare w → Bare (b ∷ w)
bare-more b w n h zero e = n e
bare-more b w n h (suc i) e = h i e

-- one byte more in front
ends-behind : (b : ℕ) (s : List ℕ) (k : ℕ) → ends_at (b ∷ s) (suc k) ≡ true → ends_at s k ≡ true
ends-behind b s k t = go (eqb k (length s)) refl
  where
    go : (u : Bool) → eqb k (length s) ≡ u → u || ends_word (get_or s k 0) ≡ true
    go true e = refl
    go false e = rw (ne_eqb (suc k) (suc (length s)) (λ q. eqb-false k (length s) e (omega arith))) at t

-- digits alone
record Digits (s : List ℕ) (d : ℕ) : Type 0 where
  up_to : d ≡ lead (in_class InWord) s
  bare : Bare (take d s)
  none : body (in_class Numeral) (take d s) ≡ 0

digits : (s : List ℕ) → ends_at s (lead (in_class Numeral) s) ≡ true → Digits s (lead (in_class Numeral) s)
unfolding lead body
digits [] t = record { up_to = refl; bare = bare-none; none = refl }
digits (b ∷ s) t = go (is_numeral b) refl t (digits s)
  where
    go : (u : Bool) → is_numeral b ≡ u → ends_at (b ∷ s) (cond u (suc (lead (in_class Numeral) s)) zero) ≡ true
        → (ends_at s (lead (in_class Numeral) s) ≡ true → Digits s (lead (in_class Numeral) s)) → Digits (b ∷ s) (cond u (suc (lead (in_class Numeral) s)) zero)
    go true e x ih =
        let r = numeral-range b e in
        let i = ih (ends-behind b s (lead (in_class Numeral) s) x) in
        record { up_to = rw (inside b (omega (arith, r))) (ap suc i.up_to); bare = bare-more b (take (lead (in_class Numeral) s) s) (λ q. omega (arith, r, q)) i.bare; none = rw (e, i.none) }
    go false e x ih =
        let w : ends_word b ≡ true = rw (ne_eqb zero (suc (length s)) (λ q. omega arith)) at x in
        record { up_to = rw w; bare = bare-none; none = refl }

grown-letter : (n : ℕ) → grown false n ≡ suc n
grown-letter zero = refl
grown-letter (suc n) = refl

-- letters, and then digits
record Shape (s : List ℕ) (e k : ℕ) : Type 0 where
  up_to : k ≡ lead (in_class InWord) s
  bare : Bare (take k s)
  named : e ≡ body (in_class Numeral) (take k s)

shape : (s : List ℕ) (k : ℕ) → k ≡ lead is_letter s + lead (in_class Numeral) (drop (lead is_letter s) s) → ends_at s k ≡ true → Shape s (lead is_letter s) k
unfolding lead body
shape [] k h t = rw h (record { up_to = refl; bare = bare-none; named = refl })
shape (b ∷ s) k h t = go (is_letter b) refl k h t (shape s)
  where
    go : (u : Bool) → is_letter b ≡ u → (k : ℕ)
        → k ≡ cond u (suc (lead is_letter s)) zero + lead (in_class Numeral) (drop (cond u (suc (lead is_letter s)) zero) (b ∷ s)) → ends_at (b ∷ s) k ≡ true
        → ((k : ℕ) → k ≡ lead is_letter s + lead (in_class Numeral) (drop (lead is_letter s) s) → ends_at s k ≡ true → Shape s (lead is_letter s) k)
        → Shape (b ∷ s) (cond u (suc (lead is_letter s)) zero) k
    go true e zero h t ih = absurd (omega arith)
    go true e (suc k) h t ih =
        let i = ih k (omega arith) (ends-behind b s k t) in
        let l = letter-from b e in
        record { up_to = rw (letter-inside b e) (ap suc i.up_to); bare = bare-more b (take k s) (λ q. omega (arith, l, q)) i.bare; named = rw (letter-only b e, ← i.named) (sym (grown-letter (lead is_letter s))) }
    go false e k h t ih =
        let z : k ≡ lead (in_class Numeral) (b ∷ s) = omega arith in
        let d : Digits (b ∷ s) k = subst (λ (n : ℕ). Digits (b ∷ s) n) (sym z) (digits (b ∷ s) (rw z at t)) in
        record { up_to = d.up_to; bare = d.bare; named = sym d.none }

-- in the code's terms
module _ (s : List ℕ) (e d : ℕ) (p : e ≡ lead is_letter s) (q : d ≡ lead (in_class Numeral) (part e s)) (r : Bool) (t : r ≡ ends_at s (e + d)) (u : not r ≡ false) where
  whole : Shape s e (e + d)
  whole =
      let z : e + d ≡ lead is_letter s + lead (in_class Numeral) (drop (lead is_letter s) s) = rw (q, part-drop e s, p) in
      rw p (shape s (lead is_letter s + d) (rw p at z) (rw p at (sym t ∙ not-false r u)))

  pub word-body : e ≡ body (in_class Numeral) (take (e + d) s)
  word-body = whole.named

  bare-all : e + d ≤ length s → e + d ≡ bare_length (take (e + d) s)
  unfolding bare_length
  bare-all h =
      let n : length (take (e + d) s) ≡ e + d = simp length-take (omega arith) in
      sym (rw (ne_eqb (get_or (take (e + d) s) (length (take (e + d) s) - 1) 0) 59 (whole.bare (length (take (e + d) s) - 1))) n)

  pub word-shape : (at : ℕ) → e + d ≤ length s → word at s ≡ and_then (named at (take (e + d) s)) (word_tail (at + 1 + (e + d + 1)) (drop (e + d + 1) s))
  word-shape at h = word-parts at s (e + d) (e + d) whole.up_to (bare-all h) ∙ rw (part-drop (e + d + 1) s)

-- a slice whose first byte is not special is plain text
plain-slice : (rd : Reading) (at : ℕ) (s : List ℕ) → (length s ≡ 0 → ⊥) → (r : Bool) → r ≡ is_special (get_or s 0 0) → r ≡ false → tokens rd at s ≡ plain at s
plain-slice rd at s z r q f =
    let n : is_special (get_or s 0 0) ≡ false = sym q ∙ f in
    let x : eqb (get_or s 0 0) 92 ≡ false = or_left (eqb (get_or s 0 0) 92) _ n in
    let y = or_right (eqb (get_or s 0 0) 92) _ n in
    let v : eqb (get_or s 0 0) 123 ≡ false = or_left (eqb (get_or s 0 0) 123) _ y in
    let w = or_right (eqb (get_or s 0 0) 123) _ y in
    let m : false ≡ is_mark (get_or s 0 0) = sym (rw (v, or_left (eqb (get_or s 0 0) 125) _ w) (or_right (eqb (get_or s 0 0) 125) _ w)) in
    tokens-plain rd at s z false m refl (eqb-false (get_or s 0 0) 92 x)

-- the same of what stands behind a byte
pub tail-plain : (rd : Reading) (at : ℕ) (s : List ℕ) → 1 < length s → (r : Bool) → r ≡ is_special (get_or (part 1 s) 0 0) → r ≡ false → tokens rd at (part 1 s) ≡ plain at (part 1 s)
tail-plain rd at s h r q f =
    let n : length (part 1 s) ≡ length s - 1 = simp (length-take, length-drop) (omega arith) in
    plain-slice rd at (part 1 s) (λ z. omega (arith, n, z)) r q f

-- a backslash and a letter: a word
pub word_slice : (rd : Reading) (at : ℕ) (s : List ℕ) → 1 < length s → get_or s 0 0 ≡ 92 → (r : Bool) → r ≡ is_letter (get_or s 1 0) → r ≡ true → tokens rd at s ≡ word at (part 1 s)
word_slice rd at s h b r q t =
    let n : length (part 1 s) ≡ length s - 1 = simp (length-take, length-drop) (omega arith) in
    let g : get_or (part 1 s) 0 0 ≡ get_or s 1 0 = rw (part-drop 1 s) (get_or-drop 1 s 0 0) in
    let m : false ≡ is_mark (get_or s 0 0) = rw b in
    tokens-escaped rd at s (λ z. omega (arith, z)) false m refl b ∙ escaped-word rd at (part 1 s) (λ z. omega (arith, n, z)) r (rw g q) t
