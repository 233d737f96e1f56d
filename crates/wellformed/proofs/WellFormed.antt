-- What is UTF-8.
--     utf8-empty, utf8-ascii   no bytes; bytes up to 127
--     utf8-join                what stands behind UTF-8 decides
--     utf8-one, utf8-all       the encoding of a scalar value, and of many
--     utf8-only                nothing else: the syntax of section 4 and the table of section 3 are the same
-- Assumes nothing.
use mathlib.Core.Path.{◌≡◌, refl, sym, ap, ◌∙◌}
use mathlib.Core.List.{List, [], ◌∷◌, ◌++◌}
use mathlib.Core.Bool.{true, false, false≢true}
use Prim.Native.Nat.{ℕ, ◌≤◌}
use native.Mathlib.Omega.{arith}
use borrow.Author.Tests.{ltb-false}
use Rattle.classes.specs.Bytes.{any, is_high}
use Rattle.classes.proofs.Runs.{and_left, and_right, or_left, or_right}
use Rattle.utf8.specs.Utf8.{is_scalar, utf8}
use Rattle.units.specs.Units.{utf8_all}
use Rattle.units.proofs.Units.{Scalars}
use Rattle.wellformed.specs.WellFormed.{Range, within, is_first, behind, goes_on, is_utf8}
use Rattle.wellformed.proofs.Firsts.{inside, behind-1}
use Rattle.wellformed.proofs.Chars.{char}
use Rattle.wellformed.proofs.Back.{Fits, Encodes, read}

pub utf8-empty : is_utf8 [] ≡ true
unfolding goes_on
utf8-empty = refl

pub utf8-ascii : (s : List ℕ) → any is_high s ≡ false → is_utf8 s ≡ true
unfolding goes_on any
utf8-ascii [] h = refl
utf8-ascii (b ∷ s) h =
    let low : b ≤ 127 = ltb-false 127 b (or_left (is_high b) (any is_high s) h) in
    rw (inside 0 127 b (omega arith) low, behind-1 b low) (utf8-ascii s (or_right (is_high b) (any is_high s) h))

-- once the bytes in front have paid what was owed, those behind start anew
paid : (s : List ℕ) (rs : List Range) (t : List ℕ) → goes_on rs s ≡ true → goes_on rs (s ++ t) ≡ is_utf8 t
unfolding goes_on
paid [] [] t h = refl
paid [] (r ∷ rs) t h = absurd (false≢true h)
paid (b ∷ s) [] t h =
    rw (and_left (is_first b) (goes_on (behind b) s) h)
    (paid s (behind b) t (and_right (is_first b) (goes_on (behind b) s) h))
paid (b ∷ s) (r ∷ rs) t h =
    rw (and_left (within r b) (goes_on rs s) h)
    (paid s rs t (and_right (within r b) (goes_on rs s) h))

pub utf8-join : (s t : List ℕ) → is_utf8 s ≡ true → is_utf8 (s ++ t) ≡ is_utf8 t
utf8-join s t h = paid s [] t h

pub utf8-one : (c : ℕ) (s : List ℕ) → is_scalar c ≡ true → is_utf8 (utf8 c ++ s) ≡ is_utf8 s
utf8-one c s t = utf8-join (utf8 c) s (char c t)

pub utf8-all : (cs : List ℕ) → Scalars cs → is_utf8 (utf8_all cs) ≡ true
unfolding utf8_all
utf8-all [] h = utf8-empty
utf8-all (c ∷ cs) h = utf8-one c (utf8_all cs) h.0 ∙ utf8-all cs h.1

-- bytes that pay what is owed, and scalar values behind them
abbrev Parts : List Range → List ℕ → Type 0
Parts rs s = (p : List ℕ) × (cs : List ℕ) × Fits rs p × Scalars cs × (s ≡ p ++ utf8_all cs)

parts : (s : List ℕ) (rs : List Range) → goes_on rs s ≡ true → Parts rs s
unfolding goes_on utf8_all
parts [] [] h = ([], [], tt, tt, refl)
parts [] (r ∷ rs) h = absurd (false≢true h)
parts (b ∷ s) [] h =
    let f : is_first b ≡ true = and_left (is_first b) (goes_on (behind b) s) h in
    let q : Parts (behind b) s = parts s (behind b) (and_right (is_first b) (goes_on (behind b) s) h) in
    let d : Encodes b q.0 = read b f q.0 q.2 in
    ([], d.0 ∷ q.1, tt, (d.1, q.3), ap (◌∷◌ b) q.4 ∙ ap (λ (l : List ℕ). l ++ utf8_all q.1) (sym d.2))
parts (b ∷ s) (r ∷ rs) h =
    let q : Parts rs s = parts s rs (and_right (within r b) (goes_on rs s) h) in
    (b ∷ q.0, q.1, (and_left (within r b) (goes_on rs s) h, q.2), q.3, ap (◌∷◌ b) q.4)

pub utf8-only : (s : List ℕ) → is_utf8 s ≡ true → (cs : List ℕ) × Scalars cs × (s ≡ utf8_all cs)
utf8-only s h = go (parts s [] h)
  where
    go : Parts [] s → (cs : List ℕ) × Scalars cs × (s ≡ utf8_all cs)
    go q = front q.0 q.2 q.4
      where
        front : (p : List ℕ) → Fits [] p → s ≡ p ++ utf8_all q.1 → (cs : List ℕ) × Scalars cs × (s ≡ utf8_all cs)
        front [] k e = (q.1, q.3, e)
        front (b ∷ p) k e = absurd k
