-- What the tokens of a letter show, but for their places, is what its pieces show, by the reading.
--     calm-tokens    a piece that is no bracket shows no bracket, and the same wherever it stands
--     shown-open, shown-close, shown-mute, feed-flat   a bracket, `\*` and a line feed
--     slice-shows    a slice shows what its pieces show
--     stream-shows   a source that is cut without refusal shows what the pieces of the trimmed source show
-- Assumes nothing.
use mathlib.Core.Path.{◌≡◌, refl, sym, ap, subst, ◌∙◌}
use mathlib.Core.List.{List, [], ◌∷◌, ◌++◌, append-nil, append_assoc}
use mathlib.Core.Bool.{Bool, true, false, cond, ◌&&◌, ◌||◌, and-true, false≢true}
use Prim.Native.Nat.{ℕ, ◌+◌}
use lib.ListN.{length, take, drop}
use lib.Dec.{eqb, ltb}
use borrow.Author.Tests.{eqb-true}
use Rattle.readings.specs.declared.Reading.{Reading}
use Rattle.readings.specs.declared.Reading.TheVariants.{Plain, Paragraphs, Standard}
use Rattle.answers.specs.declared.Refusal.{Refusal}
use Rattle.answers.specs.declared.Why.TheVariants.{SourceTooLong, NotAscii, LastSlice, HexShort, HexBad, NumberBad}
use Rattle.answers.specs.Answers.{refusal, refusal_at}
use Rattle.classes.specs.declared.Class.TheVariants.{White, WordEnd, InWord, Space, Numeral}
use Rattle.classes.specs.Bytes.{is_letter, is_special, is_high, in_class, lead, body, any}
use Rattle.classes.proofs.Runs.{and_left, and_right, or_left, or_right}
use Rattle.numbers.specs.Numbers.{hex_pair, decimal}
use Rattle.names.specs.Names.{word_number}
use Rattle.rooms.specs.Streams.{Stream, end, stop, ◌▸◌, and_then, each, items, answer, ended}
use Rattle.rooms.proofs.Streams.{ok_err}
use Rattle.slices.specs.Slices.{slices, is_return, starts_with_feed, take_feed, with_feeds, Behind, is_start, starts_standard, standard_slices, slices_by}
use Rattle.tokens.specs.Tokens.{Shown, Token, token, slice_of, shown_in, shown_by}
use Rattle.controls.specs.Controls.{shown_word, numbered}
use Rattle.tokenize.specs.Tokenize.{behind_feed, returned, other_by, is_mark, is_escape, mark, plain, hex_value, hex_escape, line_break_and}
use Rattle.tokenize.specs.Tokenize.{named, bare_length, word_tail, word, other, escaped, tokens}
use Rattle.standard.specs.Standard.{tail, escaped as standard_escaped, tokens as standard_tokens}
use Rattle.standard.specs.Closing.{is_closing}
use Rattle.standard.proofs.Shows.{Alike, Moved, tokens-alike}
use Rattle.cutter.specs.Cutting.{tokens_by, located, last, last_by, all_slices, every, closed_behind, closing, cut_by, trim_start, trimmed, token_stream}
use Rattle.veil.specs.Veil.{flat, mute, part, parts, pieces, shown}
use Rattle.veil.proofs.Bare.{bare, bare_all, bare-append, side, Flat, none, some}
use Rattle.veil.proofs.Cuttings.{Cutting, crate, standard, mark-plain, mark-behind, Inner, Inners, all-inner}
use Rattle.answers.specs.declared.Why.{Why}
use Rattle.std.specs.Prelude.{Ok, Option, Some, None}

-- ---- pieces that are no brackets

-- two streams that show the same but for places, stop alike, and show no bracket
pub data Calm : Stream Why Shown → Stream Why Shown → Type 0 where
  ends : Calm end end
  stops : (r : Why) → Calm (stop r) (stop r)
  more : {t u : Shown} {a b : Stream Why Shown} → bare t ≡ bare u → side t ≡ flat → Calm a b → Calm (t ▸ a) (u ▸ b)

calm-cond : {a b c d : Stream Why Shown} (x : Bool) → Calm a c → Calm b d → Calm (cond x a b) (cond x c d)
calm-cond true h k = h
calm-cond false h k = k

calm-then : {a b c d : Stream Why Shown} → Calm a c → Calm b d → Calm (and_then a b) (and_then c d)
unfolding and_then
calm-then ends k = k
calm-then (stops r) k = stops r
calm-then (more e l h) k = more e l (calm-then h k)

module _ (p q : ℕ) where
  calm-text : (s : List ℕ) → Calm (Shown.text p s ▸ end) (Shown.text q s ▸ end)
  calm-text s = more refl refl ends

  calm-plain : (s : List ℕ) → Calm (plain p s) (plain q s)
  unfolding plain
  calm-plain s = calm-cond (eqb (lead (in_class White) s) (length s)) ends (calm-text s)

  calm-tail : (s : List ℕ) → Calm (word_tail p s) (word_tail q s)
  unfolding word_tail
  calm-tail [] = ends
  calm-tail (b ∷ s) = calm-cond (ltb (lead (in_class WordEnd) (b ∷ s)) (length (b ∷ s))) (calm-plain (b ∷ s)) (calm-text (b ∷ s))

  calm-word : (name : List ℕ) (num : Option ℕ) → Calm (shown_word p name num ▸ end) (shown_word q name num ▸ end)
  unfolding shown_word
  calm-word name num = go (ltb (word_number name) 49)
    where
      go : (x : Bool)
          → Calm (cond x (Shown.word (word_number name) num) (Shown.unknown p (92 ∷ name) num) ▸ end) (cond x (Shown.word (word_number name) num) (Shown.unknown q (92 ∷ name) num) ▸ end)
      go true = more refl refl ends
      go false = more refl refl ends

  calm-numbered : (name : List ℕ) (n : Option ℕ) → Calm (numbered p name n) (numbered q name n)
  unfolding numbered
  calm-numbered name (Some v) = calm-word name (Some v)
  calm-numbered name None = stops NumberBad

  calm-named : (w : List ℕ) → Calm (named p w) (named q w)
  unfolding named
  calm-named w =
      let k = body (in_class Numeral) w in
      calm-cond (eqb k (length w)) (calm-word w None) (calm-numbered (take k w) (decimal (drop k w)))

calm-worded : (p q : ℕ) (s : List ℕ) → Calm (word p s) (word q s)
unfolding word
calm-worded p q s =
    let k = lead (in_class InWord) s in
    calm-then (calm-named p q (take (bare_length (take k s)) s)) (calm-tail (p + 1 + (k + 1)) (q + 1 + (k + 1)) (drop (k + 1) s))

calm-value : (p q : ℕ) (s : List ℕ) (n : Option ℕ) → Calm (hex_value n (plain (p + 4) s)) (hex_value n (plain (q + 4) s))
unfolding hex_value
calm-value p q s (Some v) = more refl refl (calm-plain (p + 4) (q + 4) s)
calm-value p q s None = stops HexBad

calm-hex : (p q : ℕ) (s : List ℕ) → Calm (hex_escape p s) (hex_escape q s)
unfolding hex_escape
calm-hex p q [] = stops HexShort
calm-hex p q (a ∷ []) = stops HexShort
calm-hex p q (a ∷ b ∷ s) = calm-value p q s (hex_pair a b)

calm-other : (p q : ℕ) (s : List ℕ) → Calm (other p s) (other q s)
unfolding other
calm-other p q s = calm-cond (ltb (lead (in_class Space) s) (length s)) ends (calm-text p q (92 ∷ s))

-- a line feed behind a carriage return, and what is left
calm-feed : (p q : ℕ) (s : List ℕ) → Calm (behind_feed p s) (behind_feed q s)
calm-feed p q [] = calm-plain p q []
calm-feed p q (b ∷ s) = calm-cond (eqb b 10) (calm-plain (p + 1) (q + 1) s) (calm-plain p q (b ∷ s))

calm-returned : (p q : ℕ) (s : List ℕ) → Calm (returned p s) (returned q s)
calm-returned p q [] = calm-other p q []
calm-returned p q (b ∷ s) = calm-cond (eqb b 13) (more refl refl (calm-feed (p + 2) (q + 2) s)) (calm-other p q (b ∷ s))

calm-other_by : (rd : Reading) (p q : ℕ) (s : List ℕ) → Calm (other_by rd p s) (other_by rd q s)
unfolding other_by
calm-other_by Plain p q s = calm-other p q s
calm-other_by Paragraphs p q s = calm-returned p q s
calm-other_by Standard p q s = calm-returned p q s

module _ (rd : Reading) where
  calm-escaped : (p q : ℕ) (s : List ℕ) → Calm (escaped rd p s) (escaped rd q s)
  unfolding escaped line_break_and
  calm-escaped p q [] = calm-other p q []
  calm-escaped p q (b ∷ s) =
      calm-cond (is_letter b) (calm-worded p q (b ∷ s))
      (calm-cond (is_escape b) (calm-text (p + 1) (q + 1) (b ∷ s))
      (calm-cond (eqb b 39) (calm-hex p q s)
      (calm-cond (eqb b 10) (more refl refl (calm-plain (p + 2) (q + 2) s))
      (calm-cond (eqb b 42) (more refl refl ends)
      (calm-other_by rd p q (b ∷ s))))))

  calm-plainly : (p q b : ℕ) (s : List ℕ) → is_mark b ≡ false → Calm (tokens rd p (b ∷ s)) (tokens rd q (b ∷ s))
  unfolding tokens
  calm-plainly p q b s m = rw m (calm-cond (eqb b 92) (calm-escaped p q s) (calm-plain p q (b ∷ s)))

-- the same in standard reading, whose crate says it of any relation of what differs by its place alone
abbrev Moves : Shown → Shown → Type 0
Moves t u = (bare t ≡ bare u) × (side t ≡ flat)

moves : Moved Moves
moves = record {
  text = λ p q s. (refl, refl);
  line_break = (refl, refl);
  ignorable = (refl, refl);
  known = λ w num. (refl, refl);
  unknown = λ p q bs num. (refl, refl);
  symbol = λ b num. (refl, refl);
}

calm-alike : {a b : Stream Why Shown} → Alike Moves a b → Calm a b
calm-alike Alike.ends = ends
calm-alike (Alike.stops r) = stops r
calm-alike (Alike.more e h) = more e.0 e.1 (calm-alike h)

calm-standard : (p q b : ℕ) (s : List ℕ) → is_mark b ≡ false → Calm (standard_tokens p (b ∷ s)) (standard_tokens q (b ∷ s))
calm-standard p q b s m =
    let e : eqb b 123 || eqb b 125 ≡ false = or_left (eqb b 123 || eqb b 125) (eqb b 10) m in
    calm-alike (tokens-alike Moves moves p q b s (or_left (eqb b 123) (eqb b 125) e) (or_right (eqb b 123) (eqb b 125) e))

pub calm-tokens : (rd : Reading) (p q b : ℕ) (s : List ℕ) → is_mark b ≡ false → Calm (tokens_by rd p (b ∷ s)) (tokens_by rd q (b ∷ s))
calm-tokens Plain p q b s m = calm-plainly Plain p q b s m
calm-tokens Paragraphs p q b s m = calm-plainly Paragraphs p q b s m
calm-tokens Standard p q b s m = calm-standard p q b s m

calm-shows : {a b : Stream Why Shown} → Calm a b → bare_all (items a) ≡ bare_all (items b)
unfolding items bare_all
calm-shows ends = refl
calm-shows (stops r) = refl
calm-shows (more {t} {u} e l h) = rw (e, calm-shows h)

pub calm-flat : {a b : Stream Why Shown} → Calm a b → Flat (items a)
unfolding items
calm-flat ends = none
calm-flat (stops r) = none
calm-flat (more e l h) = some l (calm-flat h)

-- ---- streams that end

-- without a refusal
unfoldable pub whole : {E A : Type 0} → Stream E A → Bool
whole end = true
whole (stop r) = false
whole (x ▸ s) = whole s

pub answer-whole : {A : Type 0} (s : Stream Refusal A) (n m : ℕ) → answer n s ≡ Ok m → whole s ≡ true
unfolding ended whole
answer-whole end n m e = refl
answer-whole (stop r) n m e = absurd (ok_err (sym e))
answer-whole (x ▸ s) n m e = answer-whole s (n + 1) m e

module _ {E A : Type 0} where
  items-then : (a b : Stream E A) → whole a ≡ true → items (and_then a b) ≡ items a ++ items b
  unfolding items and_then whole
  items-then end b h = refl
  items-then (stop r) b h = absurd (false≢true h)
  items-then (x ▸ a) b h = ap (λ (l : List A). x ∷ l) (items-then a b h)

  whole-then : (a b : Stream E A) → whole (and_then a b) ≡ true → (whole a ≡ true) × (whole b ≡ true)
  unfolding and_then whole
  whole-then end b h = (refl, h)
  whole-then (stop r) b h = absurd (false≢true h)
  whole-then (x ▸ a) b h = whole-then a b h

-- ---- brackets, line feeds, and the mark

module _ (ps : List (List ℕ)) where
  pub shown-open : (rd : Reading) → shown rd ((123 ∷ []) ∷ ps) ≡ Shown.opening ∷ shown rd ps
  unfolding shown tokens standard_tokens tail mark and_then items
  shown-open Plain = refl
  shown-open Paragraphs = refl
  shown-open Standard = refl

  pub shown-close : (rd : Reading) → shown rd ((125 ∷ []) ∷ ps) ≡ Shown.closing ∷ shown rd ps
  unfolding shown tokens standard_tokens tail mark and_then items
  shown-close Plain = refl
  shown-close Paragraphs = refl
  shown-close Standard = refl

  pub shown-mute : (rd : Reading) → shown rd (mute ∷ ps) ≡ Shown.ignorable ∷ shown rd ps
  unfolding shown tokens standard_tokens escaped standard_escaped tail items
  shown-mute Plain = refl
  shown-mute Paragraphs = refl
  shown-mute Standard = refl

pub feed-flat : (rd : Reading) → Flat (items (tokens_by rd 0 (10 ∷ [])))
unfolding tokens standard_tokens tail mark and_then items
feed-flat Plain = none
feed-flat Paragraphs = none
feed-flat Standard = none

-- ---- a slice

whole-mark : (b : ℕ) → whole (mark b) ≡ true
unfolding mark whole
whole-mark b = go (eqb b 123) (eqb b 125)
  where
    go : (x y : Bool) → whole {E = Why} (cond x (Shown.opening ▸ end) (cond y (Shown.closing ▸ end) end)) ≡ true
    go true y = refl
    go false true = refl
    go false false = refl

tokens-mark : (rd : Reading) (p b : ℕ) (s : List ℕ) → is_mark b ≡ true → items (tokens rd p (b ∷ s)) ≡ items (mark b) ++ items (tokens rd (p + 1) s)
unfolding tokens
tokens-mark rd p b s m = rw m (items-then (mark b) (tokens rd (p + 1) s) (whole-mark b))

-- the second byte of a slice starts none
abbrev InnerBy : Reading → List ℕ → Type 0
InnerBy Plain s = Inner crate s
InnerBy Paragraphs s = Inner crate s
InnerBy Standard s = Inner standard s

abbrev InnersBy : Reading → List (List ℕ) → Type 0
InnersBy Plain ss = Inners crate ss
InnersBy Paragraphs ss = Inners crate ss
InnersBy Standard ss = Inners standard ss

inners-more : (rd : Reading) (s : List ℕ) (ss : List (List ℕ)) → InnersBy rd (s ∷ ss) → InnerBy rd s × InnersBy rd ss
inners-more Plain s ss i = i
inners-more Paragraphs s ss i = i
inners-more Standard s ss i = i

-- what begins with no bracket and no line feed
abbrev Calmly : List ℕ → Type 0
Calmly [] = Unit {0}
Calmly (b ∷ s) = is_mark b ≡ false

-- so it is behind such a byte of a slice
rest-calm : {Q : Type 0} (k : Cutting Q) (b : ℕ) (s : List ℕ) → is_mark b ≡ true → Inner k (b ∷ s) → Calmly s
rest-calm k b [] m i = tt
rest-calm k b (c ∷ s) m i = k.stops b c m i

rest-by : (rd : Reading) (b : ℕ) (s : List ℕ) → is_mark b ≡ true → InnerBy rd (b ∷ s) → Calmly s
rest-by Plain b s m i = rest-calm crate b s m i
rest-by Paragraphs b s m i = rest-calm crate b s m i
rest-by Standard b s m i = rest-calm standard b s m i

-- in standard reading it is text
tail-tokens : (p b : ℕ) (s : List ℕ) → is_mark b ≡ true → Inner standard (b ∷ s) → standard_tokens p s ≡ tail p s
unfolding standard_tokens tail standard
tail-tokens p b [] m i = refl
tail-tokens p b (c ∷ s) m i =
    let n : is_start c ≡ false = ap (λ (q : Behind). starts_standard q c) (sym (mark-behind b m)) ∙ i in
    let x : is_special c ≡ false = or_left (is_special c) (eqb c 13) n in
    let f : eqb c 13 ≡ false = or_right (is_special c) (eqb c 13) n in
    let a : eqb c 92 ≡ false = or_left (eqb c 92) _ x in
    let r = or_right (eqb c 92) _ x in
    let o : eqb c 123 ≡ false = or_left (eqb c 123) _ r in
    let w = or_right (eqb c 123) _ r in
    let d : eqb c 125 ≡ false = or_left (eqb c 125) _ w in
    let e : eqb c 10 ≡ false = or_right (eqb c 125) _ w in
    rw (a, o, d, e, f)

standard-mark : (p b : ℕ) (s : List ℕ) → is_mark b ≡ true
    → items (standard_tokens p (b ∷ s)) ≡ items (standard_tokens 0 (b ∷ [])) ++ items (tail (p + 1) s)
unfolding standard_tokens tail items
standard-mark p b s m = rw (mark-plain b m) (go (eqb b 123) (eqb b 125) (eqb b 10) m)
  where
    choice : ℕ → List ℕ → Bool → Bool → Bool → Stream Why Shown
    choice p s x y z = cond x (Shown.opening ▸ tail (p + 1) s) (cond y (Shown.closing ▸ tail (p + 1) s) (cond (z || eqb b 13) (tail (p + 1) s) (tail p (b ∷ s))))

    go : (x y z : Bool) → (x || y) || z ≡ true → items (choice p s x y z) ≡ items (choice 0 [] x y z) ++ items (tail (p + 1) s)
    go true y z m = refl
    go false true z m = refl
    go false false true m = refl
    go false false false m = absurd (false≢true m)

crate-mark : (rd : Reading) (p b : ℕ) (s : List ℕ) → is_mark b ≡ true
    → items (tokens rd p (b ∷ s)) ≡ items (tokens rd 0 (b ∷ [])) ++ items (tokens rd (p + 1) s)
crate-mark rd p b s m =
    let alone : items (tokens rd 0 (b ∷ [])) ≡ items (mark b) = tokens-mark rd 0 b [] m ∙ (unfold tokens items in append-nil (items (mark b))) in
    tokens-mark rd p b s m ∙ ap (λ (l : List Shown). l ++ items (tokens rd (p + 1) s)) (sym alone)

-- a bracket or a line feed, and what stands behind it in its slice
mark-shows : (rd : Reading) (p b : ℕ) (s : List ℕ) → is_mark b ≡ true → InnerBy rd (b ∷ s)
    → items (tokens_by rd p (b ∷ s)) ≡ items (tokens_by rd 0 (b ∷ [])) ++ items (tokens_by rd (p + 1) s)
mark-shows Plain p b s m i = crate-mark Plain p b s m
mark-shows Paragraphs p b s m i = crate-mark Paragraphs p b s m
mark-shows Standard p b s m i = standard-mark p b s m ∙ ap (λ (x : Stream Why Shown). items (standard_tokens 0 (b ∷ [])) ++ items x) (sym (tail-tokens (p + 1) b s m i))

none-shows : (rd : Reading) (p : ℕ) → bare_all (items (tokens_by rd p [])) ≡ bare_all []
unfolding tokens standard_tokens items
none-shows Plain p = refl
none-shows Paragraphs p = refl
none-shows Standard p = refl

module _ (rd : Reading) where
  -- a piece that is no bracket and no line feed shows the same wherever it stands
  rest-shows : (p : ℕ) (s : List ℕ) → Calmly s → bare_all (items (tokens_by rd p s)) ≡ bare_all (shown rd (part s))
  unfolding part shown
  rest-shows p [] h = none-shows rd p
  rest-shows p (b ∷ s) h = rw h (calm-shows (calm-tokens rd p 0 b s h) ∙ ap bare_all (sym (append-nil (items (tokens_by rd 0 (b ∷ s))))))

  -- a slice shows what its pieces show, wherever it stands
  slice-shows : (p : ℕ) (s : List ℕ) → InnerBy rd s → bare_all (items (tokens_by rd p s)) ≡ bare_all (shown rd (part s))
  unfolding shown part
  slice-shows p [] i = rest-shows p [] tt
  slice-shows p (b ∷ s) i = go (is_mark b) refl
    where
      go : (x : Bool) → is_mark b ≡ x → bare_all (items (tokens_by rd p (b ∷ s))) ≡ bare_all (shown rd (part (b ∷ s)))
      go true e =
          ap bare_all (mark-shows rd p b s e i)
          ∙ bare-append (items (tokens_by rd 0 (b ∷ []))) (items (tokens_by rd (p + 1) s))
          ∙ ap (λ (l : List Shown). bare_all (items (tokens_by rd 0 (b ∷ []))) ++ l) (rest-shows (p + 1) s (rest-by rd b s e i))
          ∙ sym (bare-append (items (tokens_by rd 0 (b ∷ []))) (shown rd (part s)))
          ∙ ap (λ (x : Bool). bare_all (shown rd (cond x ((b ∷ []) ∷ part s) ((b ∷ s) ∷ [])))) (sym e)
      go false e = rest-shows p (b ∷ s) e

  -- ---- slices

  pub shown-append : (a b : List (List ℕ)) → shown rd (a ++ b) ≡ shown rd a ++ shown rd b
  unfolding shown
  shown-append [] b = refl
  shown-append (p ∷ a) b = rw (shown-append a b, append_assoc)

  -- what the tokens of a stream show
  abbrev sight : Stream Refusal Token → List Shown
  sight s = bare_all (shown_by (items s))

  shown-each : (p n : ℕ) (s : Stream Why Shown) → shown_by (items (each (λ (w : Why). refusal_at w p) (token p n) s)) ≡ items s
  unfolding shown_by items each
  shown-each p n end = refl
  shown-each p n (stop r) = refl
  shown-each p n (t ▸ s) = ap (λ (l : List Shown). t ∷ l) (shown-each p n s)

  shown-located : (p : ℕ) (s : List ℕ) → shown_by (items (located rd p s)) ≡ items (tokens_by rd p s)
  unfolding located
  shown-located p s = shown-each p (length s) (tokens_by rd p s)

  shown-by-append : (a b : List Token) → shown_by (a ++ b) ≡ shown_by a ++ shown_by b
  unfolding shown_by
  shown-by-append [] b = refl
  shown-by-append (t ∷ a) b = ap (λ (l : List Shown). shown_in t ∷ l) (shown-by-append a b)

  -- a slice, and what is cut behind it
  then-shows : (p : ℕ) (s : List ℕ) (after : Stream Refusal Token) (ps : List (List ℕ)) → InnerBy rd s → whole (and_then (located rd p s) after) ≡ true
      → (whole after ≡ true → sight after ≡ bare_all (shown rd ps)) → sight (and_then (located rd p s) after) ≡ bare_all (shown rd (part s ++ ps))
  then-shows p s after ps i h k =
      let w = whole-then (located rd p s) after h in
      ap (λ (l : List Token). bare_all (shown_by l)) (items-then (located rd p s) after w.0)
      ∙ ap bare_all (shown-by-append (items (located rd p s)) (items after))
      ∙ bare-append (shown_by (items (located rd p s))) (shown_by (items after))
      ∙ ap (λ (l : List Shown). bare_all l ++ sight after) (shown-located p s)
      ∙ ap (λ (l : List Shown). l ++ sight after) (slice-shows p s i)
      ∙ ap (λ (l : List Shown). bare_all (shown rd (part s)) ++ l) (k w.1)
      ∙ sym (bare-append (shown rd (part s)) (shown rd ps))
      ∙ ap bare_all (sym (shown-append (part s) ps))

-- the last slice where it is not cut as the others
close-shows : (rd : Reading) → bare_all (shown rd (part (125 ∷ []) ++ [])) ≡ Shown.closing ∷ []
unfolding part shown tokens standard_tokens tail mark and_then items bare_all
close-shows Plain = refl
close-shows Paragraphs = refl
close-shows Standard = refl

last-shows : (rd : Reading) (p : ℕ) (s : List ℕ) → whole (last p s) ≡ true → sight rd (last p s) ≡ bare_all (shown rd (part s ++ []))
unfolding last whole
last-shows rd p [] h = absurd (false≢true h)
last-shows rd p (b ∷ []) h = go (eqb b 125) refl h
  where
    closed : (c : ℕ) → c ≡ 125 → Shown.closing ∷ [] ≡ bare_all (shown rd (part (c ∷ []) ++ []))
    closed c e = rw e (sym (close-shows rd))

    go : (x : Bool) → eqb b 125 ≡ x → whole (cond x (token p 1 Shown.closing ▸ end) (stop (refusal_at LastSlice p))) ≡ true
        → bare_all (shown_by (items (cond x (token p 1 Shown.closing ▸ end) (stop (refusal_at LastSlice p))))) ≡ bare_all (shown rd (part (b ∷ []) ++ []))
    go true e h = unfold items shown_by bare_all in closed b (eqb-true b 125 e)
    go false e h = absurd (unfold whole in false≢true h)
last-shows rd p (b ∷ c ∷ s) h = absurd (false≢true h)

-- slices that are cut without refusal show what their pieces show
module _ (rd : Reading) (f : (p : ℕ) (s : List ℕ) → last_by rd p s ≡ last p s) where
  slices-show : (p : ℕ) (ss : List (List ℕ)) → InnersBy rd ss → whole (all_slices rd p ss) ≡ true → sight rd (all_slices rd p ss) ≡ bare_all (shown rd (parts ss))
  unfolding all_slices parts
  slices-show p [] i h = unfold items shown_by shown in refl
  slices-show p (s ∷ []) i h = rw (f p s) (last-shows rd p s (rw (f p s) at h))
  slices-show p (s ∷ t ∷ ss) i h =
      let j = inners-more rd s (t ∷ ss) i in
      then-shows rd p s (all_slices rd (p + length s) (t ∷ ss)) (parts (t ∷ ss)) j.0 h (slices-show (p + length s) (t ∷ ss) j.1)

every-shows : (p : ℕ) (ss : List (List ℕ)) → Inners standard ss → whole (every p ss) ≡ true → sight Standard (every p ss) ≡ bare_all (shown Standard (parts ss))
unfolding every parts
every-shows p [] i h = unfold items shown_by shown in refl
every-shows p (s ∷ ss) i h =
    then-shows Standard p s (every (p + length s) ss) (parts ss) i.0 h (every-shows (p + length s) ss i.1)

-- a source that is closed is whole, and shows what it showed
behind-whole : (t : Token) (s : Stream Refusal Token) → whole (closed_behind t s) ≡ true → (whole s ≡ true) × (items (closed_behind t s) ≡ items s)
unfolding closed_behind whole items
behind-whole t end h = go (is_closing (shown_in t)) h
  where
    go : (x : Bool) → whole {A = Token} (cond x end (stop (refusal_at LastSlice (slice_of t)))) ≡ true
        → (true ≡ true) × (items {A = Token} (cond x end (stop (refusal_at LastSlice (slice_of t)))) ≡ [])
    go true h = (refl, refl)
    go false h = absurd (false≢true h)
behind-whole t (stop r) h = absurd (false≢true h)
behind-whole t (u ▸ s) h = let k = behind-whole u s h in (k.0, ap (λ (l : List Token). u ∷ l) k.1)

closing-whole : (s : Stream Refusal Token) → whole (closing s) ≡ true → (whole s ≡ true) × (items (closing s) ≡ items s)
unfolding closing whole items
closing-whole end h = (refl, refl)
closing-whole (stop r) h = absurd (false≢true h)
closing-whole (t ▸ s) h = let k = behind-whole t s h in (k.0, ap (λ (l : List Token). t ∷ l) k.1)

-- ---- slices that take in a line feed

-- a return with more behind it
return-inner : (s t : List ℕ) → is_return s ≡ true → Inner crate s → Inner crate (s ++ t)
return-inner [] t e h = absurd (false≢true e)
return-inner (a ∷ []) t e h = absurd (false≢true e)
return-inner (a ∷ b ∷ []) t e h = h
return-inner (a ∷ b ∷ c ∷ s) t e h = absurd (false≢true e)

take_inner : (s : List ℕ) (ts : List (List ℕ)) → Inner crate s → Inners crate ts → Inners crate (take_feed s ts)
take_inner s [] h k = (h, tt)
take_inner s (t ∷ ts) h k = go (is_return s && starts_with_feed t) refl
  where
    go : (b : Bool) → is_return s && starts_with_feed t ≡ b → Inners crate (cond b ((s ++ t) ∷ ts) (s ∷ t ∷ ts))
    go true e = (return-inner s t (and_left (is_return s) (starts_with_feed t) e) h, k.1)
    go false e = (h, k)

feeds-inner : (ss : List (List ℕ)) → Inners crate ss → Inners crate (with_feeds ss)
unfolding with_feeds
feeds-inner [] h = tt
feeds-inner (s ∷ ss) h = take_inner s (with_feeds ss) h.0 (feeds-inner ss h.1)

-- a tail that starts no slice is plain
tail-plain : (x : List ℕ) → Inner crate (10 ∷ x) → tokens Paragraphs 0 x ≡ plain 0 x
unfolding tokens plain lead crate
tail-plain [] h = refl
tail-plain (d ∷ x) h =
    let n : is_special d ≡ false = sym (and-true (is_special d)) ∙ h in
    let a : eqb d 92 ≡ false = or_left (eqb d 92) _ n in
    let r = or_right (eqb d 92) _ n in
    let b : eqb d 123 ≡ false = or_left (eqb d 123) _ r in
    let w = or_right (eqb d 123) _ r in
    let c : eqb d 125 ≡ false = or_left (eqb d 125) _ w in
    let e : eqb d 10 ≡ false = or_right (eqb d 125) _ w in
    rw (b, c, e, a)

-- a return that took in a line feed shows what the two show
module _ (x : List ℕ) (ts : List (List ℕ)) (h : Inner crate (10 ∷ x)) where
  taken-shows : bare_all (shown Paragraphs (part (92 ∷ 13 ∷ 10 ∷ x) ++ parts ts)) ≡ bare_all (shown Paragraphs (part (92 ∷ 13 ∷ []) ++ (part (10 ∷ x) ++ parts ts)))
  unfolding part shown tokens escaped other_by mark and_then items plain lead bare_all
  taken-shows =
      let ps : List Shown = shown Paragraphs (parts ts) in
      let e : bare_all (items (plain 3 x)) ≡ bare_all (shown Paragraphs (part x)) =
      calm-shows (calm-plain 3 0 x) ∙ ap (λ (s : Stream Why Shown). bare_all (items s)) (sym (tail-plain x h)) ∙ rest-shows Paragraphs 0 x (rest-calm crate 10 x refl h) in
      ap (λ (l : List Shown). Shown.line_break ∷ l)
      (bare-append (items (plain 3 x)) ps ∙ ap (λ (l : List Shown). l ++ bare_all ps) e ∙ sym (bare-append (shown Paragraphs (part x)) ps)
      ∙ ap bare_all (sym (shown-append Paragraphs (part x) (parts ts))))

take-shows : (s : List ℕ) (ts : List (List ℕ)) → Inners crate ts → bare_all (shown Paragraphs (parts (take_feed s ts))) ≡ bare_all (shown Paragraphs (part s ++ parts ts))
unfolding parts
take-shows s [] h = refl
take-shows s (t ∷ ts) h = go (is_return s && starts_with_feed t) refl
  where
    both : (s t : List ℕ) → Inner crate t → is_return s ≡ true → starts_with_feed t ≡ true
        → bare_all (shown Paragraphs (part (s ++ t) ++ parts ts)) ≡ bare_all (shown Paragraphs (part s ++ (part t ++ parts ts)))
    both [] t i e f = absurd (false≢true e)
    both (a ∷ []) t i e f = absurd (false≢true e)
    both (a ∷ b ∷ c ∷ s) t i e f = absurd (false≢true e)
    both (a ∷ b ∷ []) [] i e f = absurd (false≢true f)
    both (a ∷ b ∷ []) (c ∷ x) i e f =
        let p : a ≡ 92 = eqb-true a 92 (and_left (eqb a 92) (eqb b 13) e) in
        let q : b ≡ 13 = eqb-true b 13 (and_right (eqb a 92) (eqb b 13) e) in
        let r : c ≡ 10 = eqb-true c 10 f in
        rw (p, q, r) (taken-shows x ts (subst (λ (k : ℕ). Inner crate (k ∷ x)) r i))

    go : (b : Bool) → is_return s && starts_with_feed t ≡ b
        → bare_all (shown Paragraphs (parts (cond b ((s ++ t) ∷ ts) (s ∷ t ∷ ts)))) ≡ bare_all (shown Paragraphs (part s ++ (part t ++ parts ts)))
    go true e = both s t h.0 (and_left (is_return s) (starts_with_feed t) e) (and_right (is_return s) (starts_with_feed t) e)
    go false e = refl

feeds-show : (ss : List (List ℕ)) → Inners crate ss → bare_all (shown Paragraphs (parts (with_feeds ss))) ≡ bare_all (shown Paragraphs (parts ss))
unfolding with_feeds parts
feeds-show [] h = refl
feeds-show (s ∷ ss) h =
    take-shows s (with_feeds ss) (feeds-inner ss h.1)
    ∙ ap bare_all (shown-append Paragraphs (part s) (parts (with_feeds ss)))
    ∙ bare-append (shown Paragraphs (part s)) (shown Paragraphs (parts (with_feeds ss)))
    ∙ ap (λ (l : List Shown). bare_all (shown Paragraphs (part s)) ++ l) (feeds-show ss h.1)
    ∙ sym (bare-append (shown Paragraphs (part s)) (shown Paragraphs (parts ss)))
    ∙ ap bare_all (sym (shown-append Paragraphs (part s) (parts ss)))

-- ---- a source

-- the slices of a trimmed source that are cut without refusal
cut-shows : (rd : Reading) (p : ℕ) (s : List ℕ) → whole (cut_by rd p (slices_by rd s)) ≡ true
    → sight rd (cut_by rd p (slices_by rd s)) ≡ bare_all (shown rd (pieces rd s))
unfolding pieces crate standard
cut-shows Plain p s h = slices-show Plain (λ p s. refl) p (slices s) (all-inner crate s) h
cut-shows Paragraphs p s h =
    slices-show Paragraphs (λ p s. refl) p (with_feeds (slices s)) (feeds-inner (slices s) (all-inner crate s)) h
    ∙ feeds-show (slices s) (all-inner crate s)
cut-shows Standard p s h =
    let k = closing-whole (every p (standard_slices s)) h in
    ap (λ (l : List Token). bare_all (shown_by l)) k.1 ∙ every-shows p (standard_slices s) (all-inner standard s) k.0

module _ (rd : Reading) where
  pub stream-shows : (src : List ℕ) → whole (token_stream rd src) ≡ true
      → bare_all (shown_by (items (token_stream rd src))) ≡ bare_all (shown rd (pieces rd (trimmed src)))
  unfolding token_stream
  stream-shows src h = go (ltb 65536 (length src)) (any is_high src) h
    where
      go : (x y : Bool)
          → whole (cond x (stop (refusal SourceTooLong)) (cond y (stop (refusal NotAscii)) (cut_by rd (trim_start src) (slices_by rd (trimmed src))))) ≡ true
          → bare_all (shown_by (items (cond x (stop (refusal SourceTooLong)) (cond y (stop (refusal NotAscii)) (cut_by rd (trim_start src) (slices_by rd (trimmed src))))))) ≡ bare_all (shown rd (pieces rd (trimmed src)))
      go true y h = absurd (unfold whole in false≢true h)
      go false true h = absurd (unfold whole in false≢true h)
      go false false h = cut-shows rd (trim_start src) (trimmed src) h
