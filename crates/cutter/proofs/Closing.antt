-- 02, A1: "6: the last token is no closing bracket", as the code finds it: the last slice of a trimmed source is never without a token, so
-- that token is a closing bracket exactly if the slice is `}` alone.
--     cut_all    the tokens of a trimmed source's slices are those of `all_slices`
-- Assumes nothing.
use mathlib.Core.Path.{◌≡◌, refl, sym, ap, ◌∙◌}
use mathlib.Core.List.{List, [], ◌∷◌}
use mathlib.Core.Bool.{Bool, true, false, cond, true≢false, false≢true}
use Prim.Native.Nat.{ℕ, zero, suc, ◌+◌, ◌-◌, ◌<◌}
use native.Mathlib.Omega.{arith}
use lib.ListN.{length, get_or, take, drop}
use Rattle.answers.specs.declared.Why.{Why}
use Rattle.answers.specs.declared.Why.TheVariants.{LastSlice}
use Rattle.answers.specs.declared.Refusal.{Refusal}
use Rattle.answers.specs.Answers.{refusal_at}
use Rattle.classes.specs.declared.Class.TheVariants.{White}
use Rattle.classes.specs.Bytes.{is_white, in_class, grown, body}
use Rattle.readings.specs.declared.Reading.{Reading}
use Rattle.readings.specs.declared.Reading.TheVariants.{Plain, Paragraphs, Standard}
use Rattle.rooms.specs.Streams.{Stream, end, stop, ◌▸◌, and_then, each}
use Rattle.slices.specs.Slices.{Behind, anything, starts_standard, behind, onto, split_standard, standard_slices, slices_by}
use Rattle.tokens.specs.Tokens.{Shown, Token, token}
use Rattle.standard.specs.Standard.{tokens as standard_tokens}
use Rattle.standard.specs.Closing.{is_closing, closed}
use Rattle.standard.proofs.Closing.{whole, last_byte, closed-tokens, closed-check}
use Rattle.cutter.specs.Cutting.{located, last_by, all_slices, every, closed_behind, closing, cut_by, trim_start, trimmed}

-- ---- the last byte of a list

unfoldable final : ℕ → List ℕ → ℕ
final d [] = d
final d (b ∷ s) = final b s

final-at : (d : ℕ) (s : List ℕ) → 0 < length s → final d s ≡ get_or s (length s - 1) 0
unfolding final
final-at d [] h = absurd (omega arith)
final-at d (b ∷ []) h = refl
final-at d (b ∷ c ∷ s) h =
    let y : suc (length s) - 1 ≡ length s = omega arith in
    let z : suc (suc (length s)) - 1 ≡ suc (length s) = omega arith in
    final-at b (c ∷ s) (omega arith) ∙ rw (y, z)

-- ---- a trimmed source does not end in white space

ends-black : (d : ℕ) (t : List ℕ) → 0 < body (in_class White) t → is_white (final d (take (body (in_class White) t) t)) ≡ false
unfolding body final
ends-black d [] h = absurd (omega arith)
ends-black d (b ∷ t) h = go (body (in_class White) t) (is_white b) refl (ends-black b t) h
  where
    go : (n : ℕ) (w : Bool) → is_white b ≡ w → (0 < n → is_white (final b (take n t)) ≡ false) → 0 < grown w n → is_white (final d (take (grown w n) (b ∷ t))) ≡ false
    go (suc n) w e ih k = ih (omega arith)
    go zero true e ih k = absurd (omega arith)
    go zero false e ih k = e

-- ---- the last slice

last_slice : List (List ℕ) → List ℕ
last_slice [] = []
last_slice (s ∷ []) = s
last_slice (s ∷ t ∷ ss) = last_slice (t ∷ ss)

-- it ends as the source does, and is not empty
abbrev Ends : ℕ → List ℕ → List (List ℕ) → Type 0
Ends d s ss = (0 < length (last_slice ss)) × ((e : ℕ) → final e (last_slice ss) ≡ final d s)

ends-onto : (b : ℕ) (s : List ℕ) (ss : List (List ℕ)) → Ends b s ss → Ends b (b ∷ s) (onto b ss)
unfolding last_slice final
ends-onto b s [] h = absurd (omega (arith, h.0))
ends-onto b s (x ∷ []) h = (omega arith, λ e. h.1 b)
ends-onto b s (x ∷ y ∷ ys) h = h

ends-cond : (t : Bool) (d : ℕ) (s : List ℕ) (ss : List (List ℕ)) → Ends d s ss → Ends d s (cond t ([] ∷ ss) ss)
unfolding last_slice
ends-cond true d s [] h = h
ends-cond true d s (x ∷ xs) h = h
ends-cond false d s ss h = h

ends-split : (st : Behind) (d : ℕ) (b : ℕ) (s : List ℕ) → Ends d (b ∷ s) (split_standard st (b ∷ s))
unfolding split_standard last_slice final
ends-split st d b [] = ends-cond (starts_standard st b) d (b ∷ []) (onto b ([] ∷ [])) one
  where
    one : Ends d (b ∷ []) ((b ∷ []) ∷ [])
    one = (omega arith, λ e. refl)
ends-split st d b (c ∷ s) =
    ends-cond (starts_standard st b) d (b ∷ c ∷ s) (onto b (split_standard (behind st b) (c ∷ s)))
    (ends-onto b (c ∷ s) (split_standard (behind st b) (c ∷ s)) (ends-split (behind st b) b c s))

ends-slices : (d b : ℕ) (s : List ℕ) → Ends d (b ∷ s) (standard_slices (b ∷ s))
unfolding standard_slices split_standard last_slice final
ends-slices d b [] = (omega arith, λ e. refl)
ends-slices d b (c ∷ s) = ends-onto b (c ∷ s) (split_standard (behind anything b) (c ∷ s)) (ends-split (behind anything b) b c s)

-- ---- streams that have an item or a stop

some : Stream Refusal Token → Bool
some end = false
some (stop r) = true
some (t ▸ s) = true

some_then : (a b : Stream Refusal Token) → some b ≡ true → some (and_then a b) ≡ true
unfolding and_then some
some_then end b h = h
some_then (stop r) b h = refl
some_then (t ▸ a) b h = refl

behind-then : (x : Token) (a b : Stream Refusal Token) → some b ≡ true → closed_behind x (and_then a b) ≡ and_then a (closing b)
unfolding and_then closing closed_behind some
behind-then x end end h = absurd (false≢true h)
behind-then x end (stop r) h = refl
behind-then x end (t ▸ b) h = refl
behind-then x (stop r) b h = refl
behind-then x (t ▸ a) b h = ap (λ (s : Stream Refusal Token). t ▸ s) (behind-then t a b h)

-- what is closed behind others is closed by itself
closing_then : (a b : Stream Refusal Token) → some b ≡ true → closing (and_then a b) ≡ and_then a (closing b)
unfolding and_then closing
closing_then end b h = refl
closing_then (stop r) b h = refl
closing_then (t ▸ a) b h = ap (λ (s : Stream Refusal Token). t ▸ s) (behind-then t a b h)

-- ---- one slice

module _ (p n : ℕ) where
  abbrev placed : Stream Why Shown → Stream Refusal Token
  placed a = each (λ (w : Why). refusal_at w p) (token p n) a

  abbrev check : Bool → Stream Refusal Token
  check t = cond t end (stop (refusal_at LastSlice p))

  behind-one : (x : Shown) (a : Stream Why Shown) → closed_behind (token p n x) (placed a) ≡ and_then (placed a) (check (closed (is_closing x) a))
  unfolding each closed_behind and_then closed
  behind-one x end = refl
  behind-one x (stop w) = refl
  behind-one x (y ▸ a) = ap (λ (s : Stream Refusal Token). token p n y ▸ s) (behind-one y a)

  -- a slice that is not without a token: what is closed there does not hang on what came before
  closing-one : (a : Stream Why Shown) → (whole a ≡ true → closed true a ≡ closed false a) → closing (placed a) ≡ and_then (placed a) (check (closed true a))
  unfolding each closing and_then closed whole
  closing-one end h = absurd (true≢false (h refl))
  closing-one (stop w) h = refl
  closing-one (y ▸ a) h = ap (λ (s : Stream Refusal Token). token p n y ▸ s) (behind-one y a)

then-end : (a : Stream Refusal Token) → and_then a end ≡ a
unfolding and_then
then-end end = refl
then-end (stop r) = refl
then-end (t ▸ a) = ap (λ (s : Stream Refusal Token). t ▸ s) (then-end a)

placed-some : (p n : ℕ) (a : Stream Why Shown) → (whole a ≡ true → closed true a ≡ closed false a) → some (placed p n a) ≡ true
unfolding each some closed whole
placed-some p n end h = absurd (true≢false (h refl))
placed-some p n (stop w) h = refl
placed-some p n (y ▸ a) h = refl

module _ (p : ℕ) (s : List ℕ) (f : 0 < length s) (b : is_white (last_byte s) ≡ false) where
  either_way : whole (standard_tokens p s) ≡ true → closed true (standard_tokens p s) ≡ closed false (standard_tokens p s)
  either_way w = closed-tokens true p s f b w ∙ sym (closed-tokens false p s f b w)

  last-closing : closing (and_then (located Standard p s) end) ≡ last_by Standard p s
  unfolding located
  last-closing =
      ap closing (then-end (placed p (length s) (standard_tokens p s)))
      ∙ closing-one p (length s) (standard_tokens p s) either_way
      ∙ closed-check (λ (w : Why). refusal_at w p) (token p (length s)) true p s f b end (stop (refusal_at LastSlice p))

  last_some : some (and_then (located Standard p s) end) ≡ true
  unfolding located
  last_some = ap some (then-end (placed p (length s) (standard_tokens p s))) ∙ placed-some p (length s) (standard_tokens p s) either_way

-- ---- all slices

-- what is asked of the last one
abbrev Good : List (List ℕ) → Type 0
Good [] = Unit {0}
Good (s ∷ []) = (0 < length s) × (is_white (last_byte s) ≡ false)
Good (s ∷ t ∷ ss) = Good (t ∷ ss)

every_some : (p : ℕ) (s : List ℕ) (ss : List (List ℕ)) → Good (s ∷ ss) → some (every p (s ∷ ss)) ≡ true
unfolding every
every_some p s [] g = last_some p s g.0 g.1
every_some p s (t ∷ ss) g = some_then (located Standard p s) (every (p + length s) (t ∷ ss)) (every_some (p + length s) t ss g)

closing-all : (p : ℕ) (ss : List (List ℕ)) → Good ss → closing (every p ss) ≡ all_slices Standard p ss
unfolding every all_slices closing
closing-all p [] g = refl
closing-all p (s ∷ []) g = last-closing p s g.0 g.1
closing-all p (s ∷ t ∷ ss) g =
    closing_then (located Standard p s) (every (p + length s) (t ∷ ss)) (every_some (p + length s) t ss g)
    ∙ ap (and_then (located Standard p s)) (closing-all (p + length s) (t ∷ ss) g)

-- the last slice of a list of slices
good-last : (ss : List (List ℕ)) → 0 < length (last_slice ss) → is_white (last_byte (last_slice ss)) ≡ false → Good ss
unfolding last_slice
good-last [] f b = tt
good-last (s ∷ []) f b = (f, b)
good-last (s ∷ t ∷ ss) f b = good-last (t ∷ ss) f b

good-slices : (t : List ℕ) → is_white (final 32 t) ≡ false → Good (standard_slices t)
unfolding standard_slices final
good-slices [] b = tt
good-slices (c ∷ t) b =
    let e = ends-slices 32 c t in
    let l : List ℕ = last_slice (standard_slices (c ∷ t)) in
    good-last (standard_slices (c ∷ t)) e.0 (rw (← final-at 32 l e.0, e.1 32) b)

-- a trimmed source is empty, or ends in no white space
good-trimmed : (t : List ℕ) → Good (standard_slices (take (body (in_class White) t) t))
unfolding standard_slices
good-trimmed t = go (body (in_class White) t) (ends-black 32 t)
  where
    go : (n : ℕ) → (0 < n → is_white (final 32 (take n t)) ≡ false) → Good (standard_slices (take n t))
    go zero h = tt
    go (suc n) h = good-slices (take (suc n) t) (h (omega arith))

standard-all : (src : List ℕ) → closing (every (trim_start src) (standard_slices (trimmed src))) ≡ all_slices Standard (trim_start src) (standard_slices (trimmed src))
unfolding trimmed
standard-all src =
    let t : List ℕ = drop (trim_start src) src in
    closing-all (trim_start src) (standard_slices (take (body (in_class White) t) t)) (good-trimmed t)

pub cut_all : (rd : Reading) (src : List ℕ) → cut_by rd (trim_start src) (slices_by rd (trimmed src)) ≡ all_slices rd (trim_start src) (slices_by rd (trimmed src))
cut_all Plain src = refl
cut_all Paragraphs src = refl
cut_all Standard src = standard-all src
