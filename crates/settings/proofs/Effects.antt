-- A word's effect.
--     by_word      that of a word by its number
--     no-..        a word that is none of a kind
--     other_word   and none of any
--     flag-one     a flag that is on where a test holds, as the code tells it
--     flag-on      one that is on for any number but 0
-- Assumes nothing.
use mathlib.Core.Path.{◌≡◌, refl, sym, ap, ◌∙◌}
use mathlib.Core.Bool.{Bool, true, false, cond, not}
use lib.Dec.{eqb}
use Rattle.std.specs.Int.{from_bool}
use mathlib.Core.List.{[]}
use Prim.Native.Nat.{ℕ}
use borrow.Author.Tests.{ne_eqb}
use Rattle.readings.specs.declared.Reading.{Reading}
use Rattle.settings.specs.Effects.{Effect, sets, painter_word, paragraph_word, character_word, ending_word, indent_word, effect}
use Rattle.std.specs.Prelude.{Option}

pub by_word : (rd : Reading) {w : ℕ} (num : Option ℕ) (k : ℕ) {x : Effect} → w ≡ k → x ≡ effect rd k num → x ≡ effect rd w num
by_word rd num k e q = q ∙ sym (ap (λ (u : ℕ). effect rd u num) e)

-- a word is another number
abbrev pub Not : ℕ → ℕ → Type 0
Not w k = w ≡ k → ⊥

module _ (w : ℕ) where
  pub no-painter : (rd : Reading) (num : Option ℕ) (x : Effect) → Not w 11 → Not w 9 → Not w 10 → Not w 13 → Not w 12 → Not w 14 → Not w 16 → Not w 17 → Not w 18 → Not w 19
      → Not w 15 → Not w 23 → painter_word rd w num x ≡ x
  unfolding painter_word
  no-painter rd num x a b c d e f g h i j k l =
      rw (
        ne_eqb w 11 a,
        ne_eqb w 9 b,
        ne_eqb w 10 c,
        ne_eqb w 13 d,
        ne_eqb w 12 e,
        ne_eqb w 14 f,
        ne_eqb w 16 g,
        ne_eqb w 17 h,
        ne_eqb w 18 i,
        ne_eqb w 19 j,
        ne_eqb w 15 k,
        ne_eqb w 23 l,
      )

  pub no-paragraph : (num : Option ℕ) (x : Effect) → Not w 21 → Not w 35 → Not w 33 → Not w 34 → Not w 36 → Not w 25 → Not w 3 → Not w 26 → Not w 27 → Not w 29
      → Not w 28 → paragraph_word w num x ≡ x
  unfolding paragraph_word
  no-paragraph num x a b c d e f g h i j k =
      rw (
        ne_eqb w 21 a,
        ne_eqb w 35 b,
        ne_eqb w 33 c,
        ne_eqb w 34 d,
        ne_eqb w 36 e,
        ne_eqb w 25 f,
        ne_eqb w 3 g,
        ne_eqb w 26 h,
        ne_eqb w 27 i,
        ne_eqb w 29 j,
        ne_eqb w 28 k,
      )

  pub no-character : (x : Effect) → Not w 40 → Not w 41 → Not w 42 → Not w 43 → Not w 44 → Not w 45 → Not w 46 → Not w 47 → Not w 48 → character_word w x ≡ x
  unfolding character_word
  no-character x a b c d e f g h i =
      rw (
        ne_eqb w 40 a,
        ne_eqb w 41 b,
        ne_eqb w 42 c,
        ne_eqb w 43 d,
        ne_eqb w 44 e,
        ne_eqb w 45 f,
        ne_eqb w 46 g,
        ne_eqb w 47 h,
        ne_eqb w 48 i,
      )

  pub no-ending : (rd : Reading) (x : Effect) → Not w 20 → ending_word rd w x ≡ x
  unfolding ending_word
  no-ending rd x a = rw (ne_eqb w 20 a)

  pub no-indent : (rd : Reading) (num : Option ℕ) (x : Effect) → Not w 32 → Not w 31 → Not w 30 → indent_word rd w num x ≡ x
  unfolding indent_word
  no-indent rd num x a b c = rw (ne_eqb w 32 a, ne_eqb w 31 b, ne_eqb w 30 c)

pub other_word : (rd : Reading) (w : ℕ) (num : Option ℕ) → painter_word rd w num (sets []) ≡ sets [] → paragraph_word w num (sets []) ≡ sets []
    → character_word w (sets []) ≡ sets [] → ending_word rd w (sets []) ≡ sets [] → indent_word rd w num (sets []) ≡ sets [] → sets [] ≡ effect rd w num
unfolding effect
other_word rd w num p q r s t = sym (ap (λ (x : Effect). painter_word rd w num (paragraph_word w num (character_word w (ending_word rd w x)))) t
    ∙ ap (λ (x : Effect). painter_word rd w num (paragraph_word w num (character_word w x))) s
    ∙ ap (λ (x : Effect). painter_word rd w num (paragraph_word w num x)) r ∙ ap (painter_word rd w num) q ∙ p)

pub flag-one : (t : Bool) → from_bool t ≡ cond t 1 0
flag-one true = refl
flag-one false = refl

pub flag-on : (v : ℕ) → from_bool (not (eqb v 0)) ≡ cond (eqb v 0) 0 1
flag-on v = go (eqb v 0)
  where
    go : (t : Bool) → from_bool (not t) ≡ cond t 0 1
    go true = refl
    go false = refl
