-- The last token of a source is a closing bracket exactly if its last slice is `}` alone: so refusal 6 is seen from that slice.
--     closed-then     of one stream after another, the second says it
--     closed-tokens   of the tokens of a slice that is not empty and ends with no white space, the slice says it
--     closed-check    the same where a choice by it stands behind the slice's tokens, each changed: what the caller appends
-- Assumes nothing.
use mathlib.Core.Path.{◌≡◌, refl, sym, ap, ◌∙◌}
use mathlib.Core.List.{List, [], ◌∷◌}
use mathlib.Core.Bool.{Bool, true, false, cond, ◌||◌, false≢true}
use Prim.Native.Nat.{ℕ, ◌+◌, ◌-◌, ◌<◌}
use native.Mathlib.Omega.{arith}
use borrow.Author.Tests.{eqb-true}
use lib.ListN.{length, get_or, take, drop}
use lib.Dec.{eqb, ltb}
use Rattle.answers.specs.declared.Why.{Why}
use Rattle.classes.specs.declared.Class.TheVariants.{Alpha}
use Rattle.classes.specs.Bytes.{is_white, is_alpha, in_class, lead}
use Rattle.names.specs.Names.{word_number}
use Rattle.numbers.specs.Numbers.{hex_pair, decimal}
use Rattle.rooms.specs.Streams.{Stream, end, stop, ◌▸◌, and_then, each}
use Rattle.tokens.specs.Tokens.{Shown}
use Rattle.controls.specs.Controls.{shown_word, numbered}
use Rattle.standard.specs.Closing.{is_closing, closed, is_bracket}
use Rattle.standard.specs.Standard.{leads, tail, is_escape, number_length, named, word, hex_value, hex_escape, break_length, line_break_and, escaped, tokens}
use Rattle.std.specs.Prelude.{Option, Some, None}

-- ends without a refusal
unfoldable pub whole : {E A : Type 0} → Stream E A → Bool
whole end = true
whole (stop r) = false
whole (x ▸ s) = whole s

pub closed-then : {E : Type 0} (t : Bool) (a b : Stream E Shown) → whole a ≡ true → closed t (and_then a b) ≡ closed (closed t a) b
unfolding closed and_then whole
closed-then t end b h = refl
closed-then t (stop r) b h = absurd (false≢true h)
closed-then t (x ▸ a) b h = closed-then (is_closing x) a b h

-- where a stream ends, and it has no closing bracket
abbrev Open : Bool → Stream Why Shown → Type 0
Open t x = whole x ≡ true → closed t x ≡ false

open-either : (t u : Bool) (a b : Stream Why Shown) → Open t a → Open t b → Open t (cond u a b)
open-either t true a b h k = h
open-either t false a b h k = k

open-tail : (p : ℕ) (s : List ℕ) → Open false (tail p s)
unfolding tail closed
open-tail p [] h = refl
open-tail p (b ∷ s) h = refl

-- a word, and what stands behind it
shown-open : (p : ℕ) (name : List ℕ) (num : Option ℕ) → is_closing (shown_word p name num) ≡ false
unfolding shown_word
shown-open p name num = go (ltb (word_number name) 49)
  where
    go : (t : Bool) → is_closing (cond t (Shown.word (word_number name) num) (Shown.unknown p (92 ∷ name) num)) ≡ false
    go true = refl
    go false = refl

numbered-open : (t : Bool) (p : ℕ) (name : List ℕ) (v : Option ℕ) (b : Stream Why Shown) → Open false b → Open t (and_then (numbered p name v) b)
unfolding numbered and_then closed whole
numbered-open t p name (Some v) b h w = ap (λ (u : Bool). closed u b) (shown-open p name (Some v)) ∙ h w
numbered-open t p name None b h w = absurd (false≢true w)

named-open : (t : Bool) (p : ℕ) (name s : List ℕ) (b : Stream Why Shown) → Open false b → Open t (and_then (named p name s) b)
unfolding named and_then closed whole
named-open t p name [] b h w = ap (λ (u : Bool). closed u b) (shown-open p name None) ∙ h w
named-open t p name (c ∷ s) b h w = numbered-open t p name (decimal (c ∷ s)) b h w

word-open : (t : Bool) (p : ℕ) (s : List ℕ) → Open t (word p s)
unfolding word
word-open t p s =
    let k = lead (in_class Alpha) s in
    let n = number_length (drop k s) in
    let e = k + n + leads 32 (drop (k + n) s) in
    named-open t p (take k s) (take n (drop k s)) (tail (p + 1 + e) (drop e s)) (open-tail (p + 1 + e) (drop e s))

hex-open : (t : Bool) (p : ℕ) (s : List ℕ) → Open t (hex_escape p s)
unfolding hex_escape hex_value closed whole
hex-open t p [] w = absurd (false≢true w)
hex-open t p (a ∷ []) w = absurd (false≢true w)
hex-open t p (a ∷ b ∷ s) w = go (hex_pair a b) w
  where
    go : (v : Option ℕ) → whole (hex_value v (tail (p + 4) s)) ≡ true → closed t (hex_value v (tail (p + 4) s)) ≡ false
    go (Some v) w = open-tail (p + 4) s w
    go None w = absurd (false≢true w)

escaped-open : (t : Bool) (p : ℕ) (s : List ℕ) → Open t (escaped p s)
unfolding escaped line_break_and closed whole
escaped-open t p [] = λ w. refl
escaped-open t p (b ∷ s) =
    open-either t (is_alpha b) _ _ (word-open t p (b ∷ s))
    (open-either t (is_escape b) _ _ (λ w. refl)
    (open-either t (eqb b 39) _ _ (hex-open t p s)
    (open-either t (eqb b 10 || eqb b 13) _ _ (open-tail (p + 2 + break_length b s) (drop (break_length b s) s))
    (open-either t (eqb b 42) _ _ (open-tail (p + 2) s) (open-tail (p + 2) s)))))

not-bracket : (b : ℕ) (s : List ℕ) → eqb b 125 ≡ false → false ≡ is_bracket (b ∷ s)
not-bracket b [] e = sym e
not-bracket b (c ∷ s) e = refl

raw-white : (b : ℕ) → eqb b 10 || eqb b 13 ≡ true → is_white b ≡ true
raw-white b h = go (eqb b 10) refl h
  where
    go : (t : Bool) → eqb b 10 ≡ t → t || eqb b 13 ≡ true → is_white b ≡ true
    go true e h = rw (eqb-true b 10 e)
    go false e h = rw (eqb-true b 13 h)

-- the last byte of a slice
abbrev pub last_byte : List ℕ → ℕ
last_byte s = get_or s (length s - 1) 0

-- text, behind the one byte of a slice or from it on
closing-tail : (p b : ℕ) (s : List ℕ) → eqb b 125 ≡ true → closed true (tail p s) ≡ is_bracket (b ∷ s)
unfolding tail closed
closing-tail p b [] e = sym e
closing-tail p b (c ∷ s) e = refl

raw-tail : (t : Bool) (p b : ℕ) (s : List ℕ) → is_white (last_byte (b ∷ s)) ≡ false → is_white b ≡ true → closed t (tail p s) ≡ is_bracket (b ∷ s)
unfolding tail closed
raw-tail t p b [] h e = absurd (false≢true (sym h ∙ e))
raw-tail t p b (c ∷ s) h e = refl

pub closed-tokens : (t : Bool) (p : ℕ) (s : List ℕ) → 0 < length s → is_white (last_byte s) ≡ false → whole (tokens p s) ≡ true → closed t (tokens p s) ≡ is_bracket s
unfolding tokens closed whole tail
closed-tokens t p [] n h w = absurd (omega arith)
closed-tokens t p (b ∷ s) n h w = go (eqb b 92) (eqb b 123) (eqb b 125) (eqb b 10 || eqb b 13) refl refl refl refl w
  where
    choice : Bool → Bool → Bool → Bool → Stream Why Shown
    choice x y z v = cond x (escaped p s) (cond y (Shown.opening ▸ tail (p + 1) s) (cond z (Shown.closing ▸ tail (p + 1) s) (cond v (tail (p + 1) s) (tail p (b ∷ s)))))

    go : (x y z v : Bool) → eqb b 92 ≡ x → eqb b 123 ≡ y → eqb b 125 ≡ z → eqb b 10 || eqb b 13 ≡ v → whole (choice x y z v) ≡ true
        → closed t (choice x y z v) ≡ is_bracket (b ∷ s)
    go true y z v e f g k w = escaped-open t p s w ∙ not-bracket b s (rw (eqb-true b 92 e))
    go false true z v e f g k w = open-tail (p + 1) s w ∙ not-bracket b s (rw (eqb-true b 123 f))
    go false false true v e f g k w = closing-tail (p + 1) b s g
    go false false false true e f g k w = raw-tail t (p + 1) b s h (raw-white b k)
    go false false false false e f g k w = not-bracket b s g

-- what stands behind a stream counts only where that ends
pub then-whole : {E F A B : Type 0} (g : E → F) (f : A → B) (a : Stream E A) (x y : Stream F B) → (whole a ≡ true → x ≡ y) → and_then (each g f a) x ≡ and_then (each g f a) y
unfolding each and_then whole
then-whole g f end x y h = h refl
then-whole g f (stop r) x y h = refl
then-whole g f (c ▸ a) x y h = ap (λ (s : Stream _ _). f c ▸ s) (then-whole g f a x y h)

pub closed-check : {F B : Type 0} (g : Why → F) (f : Shown → B) (t : Bool) (p : ℕ) (s : List ℕ) → 0 < length s → is_white (last_byte s) ≡ false
    → (x y : Stream F B) → and_then (each g f (tokens p s)) (cond (closed t (tokens p s)) x y) ≡ and_then (each g f (tokens p s)) (cond (is_bracket s) x y)
closed-check {F} {B} g f t p s n h x y =
    then-whole g f (tokens p s) _ _ (λ w. ap (λ (u : Bool). cond u x y) (closed-tokens t p s n h w))
