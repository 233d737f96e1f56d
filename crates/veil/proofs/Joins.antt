-- Cutting at a bracket that starts a slice, by the reading.
--     ends_open, ends_close   where what stands before ends so, a bracket starts a slice
--     pieces-append           the pieces of the whole are those of the two sides, and between them that bracket
-- Assumes nothing.
use mathlib.Core.Path.{◌≡◌, refl, sym, ap, ◌∙◌}
use mathlib.Core.List.{List, [], ◌∷◌, ◌++◌, append_assoc}
use mathlib.Core.Bool.{true, not}
use Prim.Native.Nat.{ℕ}
use lib.Dec.{eqb}
use Rattle.readings.specs.declared.Reading.{Reading}
use Rattle.readings.specs.declared.Reading.TheVariants.{Plain, Paragraphs, Standard}
use Rattle.slices.specs.Slices.{Behind, anything, escape, return, starts_standard, behind}
use Rattle.slices.proofs.Slices.{last_byte, slices-append}
use Rattle.slices.proofs.Standard.{behind_all, standard-append}
use Rattle.slices.proofs.Feeds.{starts_by}
use Rattle.tokenize.specs.Tokenize.{is_mark}
use Rattle.veil.specs.Veil.{parts, sliced, pieces, ends_bare, ends_free, ends}
use Rattle.veil.proofs.Cuttings.{crate, standard}
use Rattle.veil.proofs.Pieces.{pieces-mark}

-- ---- where a slice may start

bare-last : (b : ℕ) (x : List ℕ) → ends_bare b x ≡ not (eqb (last_byte b x) 92)
unfolding ends_bare last_byte
bare-last b [] = refl
bare-last b (c ∷ x) = bare-last c x

bare-space : (x : List ℕ) → ends_bare 0 x ≡ not (eqb (last_byte 32 x) 92)
unfolding ends_bare last_byte
bare-space [] = refl
bare-space (c ∷ x) = bare-last c x

free-behind : (q : Behind) (x : List ℕ) → ends_free q x ≡ starts_standard (behind_all q x) 123
unfolding ends_free behind_all
free-behind q [] = refl
free-behind q (c ∷ x) = free-behind (behind q c) x

brackets : (q : Behind) → starts_standard q 123 ≡ starts_standard q 125
brackets anything = refl
brackets escape = refl
brackets return = refl

pub ends_open : (rd : Reading) (x : List ℕ) → ends rd x ≡ true → starts_by rd x 123 ≡ true
ends_open Plain x e = sym (bare-space x) ∙ e
ends_open Paragraphs x e = sym (bare-space x) ∙ e
ends_open Standard x e = sym (free-behind anything x) ∙ e

pub ends_close : (rd : Reading) (x : List ℕ) → ends rd x ≡ true → starts_by rd x 125 ≡ true
ends_close Plain x e = sym (bare-space x) ∙ e
ends_close Paragraphs x e = sym (bare-space x) ∙ e
ends_close Standard x e = sym (brackets (behind_all anything x)) ∙ sym (free-behind anything x) ∙ e

-- ---- pieces

sliced-append : (rd : Reading) (c : ℕ) (y x : List ℕ) → starts_by rd x c ≡ true → sliced rd (x ++ (c ∷ y)) ≡ sliced rd x ++ sliced rd (c ∷ y)
sliced-append Plain c y x h = slices-append c y x h
sliced-append Paragraphs c y x h = slices-append c y x h
sliced-append Standard c y x h = standard-append c y x h

parts-append : (a b : List (List ℕ)) → parts (a ++ b) ≡ parts a ++ parts b
unfolding parts
parts-append [] b = refl
parts-append (s ∷ a) b = rw (parts-append a b, append_assoc)

marked-first : (rd : Reading) (c : ℕ) (y : List ℕ) → is_mark c ≡ true → pieces rd (c ∷ y) ≡ (c ∷ []) ∷ pieces rd y
unfolding pieces crate standard
marked-first Plain c y m = pieces-mark crate c y m
marked-first Paragraphs c y m = pieces-mark crate c y m
marked-first Standard c y m = pieces-mark standard c y m

-- the cutting lemma
pub pieces-append : (rd : Reading) (x : List ℕ) (c : ℕ) (y : List ℕ) → is_mark c ≡ true → starts_by rd x c ≡ true
    → pieces rd (x ++ (c ∷ y)) ≡ pieces rd x ++ ((c ∷ []) ∷ pieces rd y)
unfolding pieces
pieces-append rd x c y m h =
    ap parts (sliced-append rd c y x h)
    ∙ parts-append (sliced rd x) (sliced rd (c ∷ y))
    ∙ ap (λ (l : List (List ℕ)). pieces rd x ++ l) (marked-first rd c y m)
