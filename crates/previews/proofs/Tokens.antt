-- What the tokens of a letter show: text that is not empty and has no byte above 127, and numbers of 32 bits.
--     tokens-some, stream-some    no text of a slice's tokens is empty, nor of a source's
--     low-drop, low_part          bytes that stand in a source without a byte above 127 have none either
--     tokens-fine                 what the tokens of a source show
-- Assumes nothing.
use mathlib.Core.Path.{◌≡◌, refl, sym, ap, ◌∙◌}
use mathlib.Core.List.{List, [], ◌∷◌}
use mathlib.Core.Bool.{Bool, true, false, cond, ◌||◌}
use Prim.Native.Nat.{ℕ, ◌+◌, ◌<◌}
use native.Mathlib.Omega.{arith}
use lib.ListN.{length, take, drop, take-append-drop}
use lib.Dec.{eqb, ltb}
use Rattle.answers.specs.declared.Why.{Why}
use Rattle.answers.specs.declared.Why.TheVariants.{SourceTooLong, NotAscii, LastSlice}
use Rattle.answers.specs.Answers.{refusal, refusal_at}
use Rattle.classes.specs.declared.Class.TheVariants.{White, WordEnd, InWord, Space, Numeral}
use Rattle.classes.specs.Bytes.{is_letter, is_high, in_class, lead, body, any}
use Rattle.classes.proofs.Runs.{or_left, or_right, any_append}
use Rattle.numbers.specs.Numbers.{hex_pair, decimal}
use Rattle.names.specs.Names.{word_number}
use Rattle.rooms.specs.Streams.{Stream, end, stop, ◌▸◌, items}
use Rattle.rooms.proofs.Streams.{Each, Each-then, Each-each, Each-either}
use Rattle.slices.specs.Slices.{slices_by}
use Rattle.tokens.specs.Tokens.{Shown, Token, token, slice_of, shown_in, value_of}
use Rattle.readings.specs.declared.Reading.{Reading}
use Rattle.readings.specs.declared.Reading.TheVariants.{Plain, Paragraphs, Standard}
use Rattle.controls.specs.Controls.{shown_word, numbered}
use Rattle.tokenize.specs.Tokenize.{behind_feed, returned, other_by, is_mark, is_escape, mark, plain, hex_value, hex_escape, line_break_and}
use Rattle.tokenize.specs.Tokenize.{named, bare_length, word_tail, word, other, escaped, tokens}
use Rattle.controls.proofs.Places.{At, Stands}
use Rattle.standard.specs.Closing.{is_closing, is_bracket}
use Rattle.standard.proofs.Shows.{Kinds, tokens-each}
use Rattle.cutter.specs.Cutting.{tokens_by, located, last, last_by, all_slices, every, closed_behind, closing, cut_by, trim_start, trimmed, token_stream}
use Rattle.cutter.proofs.Places.{Placed, stream-places}
use Rattle.answers.specs.declared.Refusal.{Refusal}
use Rattle.std.specs.Prelude.{Option, Some, None}

-- each of a list has a property
abbrev pub All : {A : Type 0} → (A → Type 0) → List A → Type 0
All P [] = Unit {0}
All P (x ∷ xs) = P x × All P xs

-- ---- no text is empty

abbrev Shows : Shown → Type 0
Shows (Shown.text p bs) = 0 < length bs
Shows Shown.opening = Unit {0}
Shows Shown.closing = Unit {0}
Shows Shown.line_break = Unit {0}
Shows Shown.ignorable = Unit {0}
Shows (Shown.word w num) = Unit {0}
Shows (Shown.unknown p bs num) = Unit {0}
Shows (Shown.symbol b num) = Unit {0}

mark-some : (b : ℕ) → Each Shows (mark b)
unfolding mark
mark-some b = Each-either Shows (eqb b 123) _ _ (tt, tt) (Each-either Shows (eqb b 125) _ _ (tt, tt) tt)

-- where there is no byte, all is white space
plain-some : (p : ℕ) (s : List ℕ) → Each Shows (plain p s)
unfolding plain lead
plain-some p [] = tt
plain-some p (b ∷ s) = Each-either Shows (eqb (lead (in_class White) (b ∷ s)) (length (b ∷ s))) _ _ tt (omega arith, tt)

hex-some : (p : ℕ) (s : List ℕ) → Each Shows (hex_escape p s)
unfolding hex_escape hex_value
hex-some p [] = tt
hex-some p (a ∷ []) = tt
hex-some p (a ∷ b ∷ s) = go (hex_pair a b)
  where
    go : (n : Option ℕ) → Each Shows (hex_value n (plain (p + 4) s))
    go (Some v) = (tt, plain-some (p + 4) s)
    go None = tt

shown-some : (p : ℕ) (name : List ℕ) (num : Option ℕ) → Shows (shown_word p name num)
unfolding shown_word
shown-some p name num = go (ltb (word_number name) 49)
  where
    go : (t : Bool) → Shows (cond t (Shown.word (word_number name) num) (Shown.unknown p (92 ∷ name) num))
    go true = tt
    go false = tt

numbered-some : (p : ℕ) (name : List ℕ) (n : Option ℕ) → Each Shows (numbered p name n)
unfolding numbered
numbered-some p name (Some v) = (shown-some p name (Some v), tt)
numbered-some p name None = tt

named_some : (p : ℕ) (w : List ℕ) → Each Shows (named p w)
unfolding named
named_some p w =
    let k = body (in_class Numeral) w in
    Each-either Shows (eqb k (length w)) _ _ (shown-some p w None, tt) (numbered-some p (take k w) (decimal (drop k w)))

tail-some : (p : ℕ) (s : List ℕ) → Each Shows (word_tail p s)
unfolding word_tail
tail-some p [] = tt
tail-some p (b ∷ s) =
    Each-either Shows (ltb (lead (in_class WordEnd) (b ∷ s)) (length (b ∷ s))) _ _ (plain-some p (b ∷ s)) (omega arith, tt)

word_some : (p : ℕ) (s : List ℕ) → Each Shows (word p s)
unfolding word
word_some p s =
    let k = lead (in_class InWord) s in
    Each-then Shows _ _ (named_some p (take (bare_length (take k s)) s)) (tail-some (p + 1 + (k + 1)) (drop (k + 1) s))

other-some : (p : ℕ) (s : List ℕ) → Each Shows (other p s)
unfolding other
other-some p s = Each-either Shows (ltb (lead (in_class Space) s) (length s)) _ _ tt (omega arith, tt)

feed-some : (p : ℕ) (s : List ℕ) → Each Shows (behind_feed p s)
feed-some p [] = plain-some p []
feed-some p (b ∷ s) = Each-either Shows (eqb b 10) _ _ (plain-some (p + 1) s) (plain-some p (b ∷ s))

returned-some : (p : ℕ) (s : List ℕ) → Each Shows (returned p s)
returned-some p [] = other-some p []
returned-some p (b ∷ s) = Each-either Shows (eqb b 13) _ _ (tt, feed-some (p + 2) s) (other-some p (b ∷ s))

other_by-some : (rd : Reading) (p : ℕ) (s : List ℕ) → Each Shows (other_by rd p s)
unfolding other_by
other_by-some Plain p s = other-some p s
other_by-some Paragraphs p s = returned-some p s
other_by-some Standard p s = returned-some p s

escaped-some : (rd : Reading) (p : ℕ) (s : List ℕ) → Each Shows (escaped rd p s)
unfolding escaped line_break_and
escaped-some rd p [] = other-some p []
escaped-some rd p (b ∷ s) =
    Each-either Shows (is_letter b) _ _ (word_some p (b ∷ s))
    (Each-either Shows (is_escape b) _ _ (omega arith, tt)
    (Each-either Shows (eqb b 39) _ _ (hex-some p s)
    (Each-either Shows (eqb b 10) _ _ (tt, plain-some (p + 2) s)
    (Each-either Shows (eqb b 42) _ _ (tt, tt) (other_by-some rd p (b ∷ s))))))

tokens-some : (rd : Reading) (p : ℕ) (s : List ℕ) → Each Shows (tokens rd p s)
unfolding tokens
tokens-some rd p [] = tt
tokens-some rd p (b ∷ s) =
    Each-either Shows (is_mark b) _ _ (Each-then Shows (mark b) (tokens rd (p + 1) s) (mark-some b) (tokens-some rd (p + 1) s))
    (Each-either Shows (eqb b 92) _ _ (escaped-some rd p s) (plain-some p (b ∷ s)))

-- by the specification's rules, of which none gives an empty text
kinds-some : Kinds Shows
kinds-some = record {
  text = λ p b s. omega arith;
  opening = tt;
  closing = tt;
  line_break = tt;
  ignorable = tt;
  known = λ w num. tt;
  unknown = λ p name num. tt;
  symbol = λ b num. tt;
}

by-some : (rd : Reading) (p : ℕ) (s : List ℕ) → Each Shows (tokens_by rd p s)
by-some Plain p s = tokens-some Plain p s
by-some Paragraphs p s = tokens-some Paragraphs p s
by-some Standard p s = tokens-each Shows kinds-some p s

-- the same of located tokens
abbrev SomeIn : Token → Type 0
SomeIn t = Shows (shown_in t)

located-some : (rd : Reading) (p : ℕ) (s : List ℕ) → Each SomeIn (located rd p s)
unfolding located
located-some rd p s = Each-each SomeIn (λ (w : Why). refusal_at w p) (token p (length s)) (tokens_by rd p s) (by-some rd p s)

last_some : (p : ℕ) (s : List ℕ) → Each SomeIn (last p s)
unfolding last
last_some p [] = tt
last_some p (b ∷ []) = Each-either SomeIn (eqb b 125) _ _ (tt, tt) tt
last_some p (b ∷ c ∷ s) = tt

last-by-some : (rd : Reading) (p : ℕ) (s : List ℕ) → Each SomeIn (last_by rd p s)
last-by-some Plain p s = last_some p s
last-by-some Paragraphs p s = last_some p s
last-by-some Standard p s = Each-then SomeIn (located Standard p s) _ (located-some Standard p s) (Each-either SomeIn (is_bracket s) _ _ tt tt)

all-some : (rd : Reading) (p : ℕ) (ss : List (List ℕ)) → Each SomeIn (all_slices rd p ss)
unfolding all_slices
all-some rd p [] = tt
all-some rd p (s ∷ []) = last-by-some rd p s
all-some rd p (s ∷ t ∷ ss) =
    Each-then SomeIn (located rd p s) (all_slices rd (p + length s) (t ∷ ss)) (located-some rd p s) (all-some rd (p + length s) (t ∷ ss))

every_some : (p : ℕ) (ss : List (List ℕ)) → Each SomeIn (every p ss)
unfolding every
every_some p [] = tt
every_some p (s ∷ ss) = Each-then SomeIn (located Standard p s) (every (p + length s) ss) (located-some Standard p s) (every_some (p + length s) ss)

-- what is closed has the same tokens
behind-some : (t : Token) (s : Stream Refusal Token) → Each SomeIn s → Each SomeIn (closed_behind t s)
unfolding closed_behind
behind-some t end h = Each-either SomeIn (is_closing (shown_in t)) end (stop (refusal_at LastSlice (slice_of t))) tt tt
behind-some t (stop r) h = tt
behind-some t (u ▸ s) h = (h.0, behind-some u s h.1)

closing-some : (s : Stream Refusal Token) → Each SomeIn s → Each SomeIn (closing s)
unfolding closing
closing-some end h = tt
closing-some (stop r) h = tt
closing-some (t ▸ s) h = (h.0, behind-some t s h.1)

cut-some : (rd : Reading) (p : ℕ) (ss : List (List ℕ)) → Each SomeIn (cut_by rd p ss)
cut-some Plain p ss = all-some Plain p ss
cut-some Paragraphs p ss = all-some Paragraphs p ss
cut-some Standard p ss = closing-some (every p ss) (every_some p ss)

stream-some : (rd : Reading) (src : List ℕ) → Each SomeIn (token_stream rd src)
unfolding token_stream
stream-some rd src =
    Each-either SomeIn (ltb 65536 (length src)) _ _ tt
    (Each-either SomeIn (any is_high src) _ _ tt (cut-some rd (trim_start src) (slices_by rd (trimmed src))))

-- ---- no byte above 127

low_parts : (n : ℕ) (s : List ℕ) → any is_high s ≡ false → any is_high (take n s) || any is_high (drop n s) ≡ false
low_parts n s h = sym (any_append is_high (take n s) (drop n s)) ∙ ap (any is_high) (take-append-drop n s) ∙ h

low-take : (n : ℕ) (s : List ℕ) → any is_high s ≡ false → any is_high (take n s) ≡ false
low-take n s h = or_left (any is_high (take n s)) (any is_high (drop n s)) (low_parts n s h)

pub low-drop : (n : ℕ) (s : List ℕ) → any is_high s ≡ false → any is_high (drop n s) ≡ false
low-drop n s h = or_right (any is_high (take n s)) (any is_high (drop n s)) (low_parts n s h)

low_part : {src : List ℕ} {p q : ℕ} {bs : List ℕ} → any is_high src ≡ false → At src p q bs → any is_high bs ≡ false
low_part {src} {p} {q} {bs} h a =
    sym (ap (any is_high) a.same) ∙ low-take (length bs) (drop a.from src) (low-drop a.from src h)

-- ---- both

-- what a token may show: text that is not empty and has no byte above 127, a number of 32 bits
abbrev pub Fine : Shown → Type 0
Fine (Shown.text p bs) = (0 < length bs) × (any is_high bs ≡ false)
Fine Shown.opening = Unit {0}
Fine Shown.closing = Unit {0}
Fine Shown.line_break = Unit {0}
Fine Shown.ignorable = Unit {0}
Fine (Shown.word w num) = value_of num < 4294967296
Fine (Shown.unknown p bs num) = Unit {0}
Fine (Shown.symbol b num) = Unit {0}

abbrev pub FineIn : Token → Type 0
FineIn t = Fine (shown_in t)

fine-one : (src : List ℕ) → any is_high src ≡ false → (t : Shown) → Stands src 0 t → Shows t → Fine t
fine-one src h (Shown.text p bs) a s = (s, low_part h a)
fine-one src h Shown.opening a s = tt
fine-one src h Shown.closing a s = tt
fine-one src h Shown.line_break a s = tt
fine-one src h Shown.ignorable a s = tt
fine-one src h (Shown.word w num) a s = a.1
fine-one src h (Shown.unknown p bs num) a s = tt
fine-one src h (Shown.symbol b num) a s = tt

fine-all : (src : List ℕ) → any is_high src ≡ false → (s : Stream Refusal Token) → Each (Placed src) s → Each SomeIn s
    → All FineIn (items s)
unfolding items
fine-all src h end a b = tt
fine-all src h (stop r) a b = tt
fine-all src h (t ▸ s) a b = (fine-one src h (shown_in t) a.0.0 b.0, fine-all src h s a.1 b.1)

-- a source with a byte above 127 has no tokens
none-high : (rd : Reading) (src : List ℕ) → any is_high src ≡ true → items (token_stream rd src) ≡ []
unfolding token_stream items
none-high rd src h = rw h (go (ltb 65536 (length src)))
  where
    none : Bool → Stream Refusal Token
    none t = cond t (stop (refusal SourceTooLong)) (stop (refusal NotAscii))

    go : (t : Bool) → items (none t) ≡ []
    go true = refl
    go false = refl

pub tokens-fine : (rd : Reading) (src : List ℕ) → All FineIn (items (token_stream rd src))
tokens-fine rd src = go (any is_high src) refl
  where
    go : (t : Bool) → any is_high src ≡ t → All FineIn (items (token_stream rd src))
    go true h = rw (none-high rd src h) tt
    go false h = fine-all src h (token_stream rd src) (stream-places rd src) (stream-some rd src)
