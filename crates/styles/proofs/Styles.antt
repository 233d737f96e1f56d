-- A style and its words.
--     same_words-eq, same_words-self   words that are the same, and words beside themselves
--     style_at-words                  a style's words say the style
--     words-style_at                  the words of the style that words say, those in front
--     same_style-eq                   styles that are the same
--     bare-style_at                   those before the indents
--     style_at-each                   what holds of all words
--     flush-zero                     a style without indents is said by the words before them
--     flush-bare                     and those words say a style without indents
-- Assumes nothing.
use mathlib.Core.Path.{◌≡◌, refl, sym, ap}
use mathlib.Core.List.{List, [], ◌∷◌, ◌++◌}
use mathlib.Core.Bool.{Bool, true, false, ◌&&◌}
use Prim.Native.Nat.{ℕ, zero, suc, ◌+◌, ◌≤◌}
use native.Mathlib.Omega.{arith}
use borrow.Author.Tests.{eq-eqb, eqb-true}
use lib.ListN.{length, get_or, take, drop, get_or-eq_default}
use lib.Seq.{drop-cons}
use lib.Dec.{eqb}
use Rattle.styles.specs.declared.Style.{Style}
use Rattle.styles.specs.Styles.{style_width, bare_width, style_words, style_at, same_words, same_style, flush}

pub same_words-eq : (xs ys : List ℕ) → same_words xs ys ≡ true → xs ≡ ys
same_words-eq [] [] e = refl
same_words-eq [] (y ∷ ys) e = cc
same_words-eq (x ∷ xs) [] e = cc
same_words-eq (x ∷ xs) (y ∷ ys) e = go (eqb x y) refl (same_words-eq xs ys) e
  where
    go : (t : Bool) → eqb x y ≡ t → (same_words xs ys ≡ true → xs ≡ ys) → (t && same_words xs ys) ≡ true → x ∷ xs ≡ y ∷ ys
    go true q ih r = let p = eqb-true x y q in let l = ih r in cc
    go false q ih r = cc

pub same_words-self : (xs : List ℕ) → same_words xs xs ≡ true
same_words-self [] = refl
same_words-self (x ∷ xs) = rw (eq-eqb x x refl) (same_words-self xs)

pub style_at-words : (s : Style) (rest : List ℕ) → style_at (style_words s ++ rest) ≡ s
unfolding style_at
style_at-words s rest = refl

pub same_style-eq : (a b : Style) → same_style a b ≡ true → a ≡ b
unfolding style_at
same_style-eq a b e = ap style_at (same_words-eq (style_words a) (style_words b) e)

-- n items from the i-th on
unfoldable items_from : ℕ → ℕ → List ℕ → List ℕ
items_from i zero ns = []
items_from i (suc n) ns = get_or ns i 0 ∷ items_from (suc i) n ns

items-taken : (n i : ℕ) (ns : List ℕ) → i + n ≤ length ns → take n (drop i ns) ≡ items_from i n ns
unfolding items_from
items-taken zero i ns h = refl
items-taken (suc n) i ns h = rw (drop-cons ns i 0 (omega arith)) (ap (λ (l : List ℕ). get_or ns i 0 ∷ l) (items-taken n (suc i) ns (omega arith)))

pub words-style_at : (ws : List ℕ) → style_width ≤ length ws → style_words (style_at ws) ≡ take style_width ws
unfolding style_at items_from
words-style_at ws h = sym (items-taken style_width 0 ws h)

pub bare-style_at : (ws : List ℕ) → bare_width ≤ length ws → take bare_width (style_words (style_at ws)) ≡ take bare_width ws
unfolding style_at items_from
bare-style_at ws h = sym (items-taken bare_width 0 ws h)

-- what holds of 0 and of every word holds of the words of the style that they say
items-each : (P : ℕ → Type 0) (ws : List ℕ) (n i : ℕ) → P 0 → ((k : ℕ) → P (get_or ws k 0)) → (k : ℕ) → P (get_or (items_from i n ws) k 0)
unfolding items_from
items-each P ws zero i z h k = z
items-each P ws (suc n) i z h zero = h i
items-each P ws (suc n) i z h (suc k) = items-each P ws n (suc i) z h k

pub style_at-each : (P : ℕ → Type 0) (ws : List ℕ) → P 0 → ((k : ℕ) → P (get_or ws k 0)) → (k : ℕ) → P (get_or (style_words (style_at ws)) k 0)
unfolding style_at items_from
style_at-each P ws z h k = items-each P ws style_width 0 z h k

pub flush-zero : (s : Style) → flush s ≡ true → style_at (take bare_width (style_words s)) ≡ s
unfolding style_at
flush-zero s e =
    let bare : List ℕ = take bare_width (style_words s) in
    ap (λ (l : List ℕ). style_at (bare ++ l)) (sym (same_words-eq (drop bare_width (style_words s)) (0 ∷ 0 ∷ 0 ∷ []) e))

pub flush-bare : (ws : List ℕ) → length ws ≤ bare_width → flush (style_at ws) ≡ true
unfolding style_at
flush-bare ws h = rw (get_or-eq_default ws 0 {n = 11} (omega arith), get_or-eq_default ws 0 {n = 12} (omega arith), get_or-eq_default ws 0 {n = 13} (omega arith))
