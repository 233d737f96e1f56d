-- The definitions of specs/Tokenize.antt, a law for each branch of the code, in the code's terms: callees' results are
-- variables, and what the callees promise of them are premises. Assumes nothing.
use mathlib.Core.Path.{◌≡◌, refl, sym, ap, ◌∙◌}
use mathlib.Core.List.{List, [], ◌∷◌}
use mathlib.Core.Bool.{Bool, true, false, cond}
use Prim.Native.Nat.{ℕ, ◌+◌, ◌-◌, ◌≤◌, ◌<◌}
use native.Mathlib.Omega.{arith}
use borrow.Author.Tests.{eq-eqb, ne_eqb, lt-ltb, le-ltb}
use lib.ListN.{length, get_or, take, drop, length-take, length-drop}
use lib.Seq.{take_all}
use lib.Dec.{eqb}
use Rattle.answers.specs.declared.Why.TheVariants.{HexShort, HexBad}
use Rattle.classes.specs.declared.Class.TheVariants.{White, WordEnd, InWord, Space, Numeral}
use Rattle.classes.specs.Bytes.{is_letter, in_class, lead, body}
use Rattle.numbers.specs.Numbers.{hex_pair, decimal}
use Rattle.readings.specs.declared.Reading.{Reading}
use Rattle.readings.specs.declared.Reading.TheVariants.{Plain, Paragraphs, Standard}
use Rattle.rooms.specs.Streams.{Stream, end, stop, ◌▸◌, and_then}
use Rattle.tokens.specs.Tokens.{Shown}
use Rattle.controls.specs.Controls.{shown_word, numbered}
use Rattle.tokenize.specs.Tokenize.{is_mark, is_escape, mark, plain, hex_value, hex_escape, line_break_and, named, bare_length, word_tail, word, other, behind_feed, returned, other_by, escaped, tokens}
use Rattle.answers.specs.declared.Why.{Why}
use Rattle.std.specs.Prelude.{Option, Some, None}

-- the bytes from a place on, as the code has them
abbrev pub part : ℕ → List ℕ → List ℕ
part k s = take (length s - k) (drop k s)

pub part-drop : (k : ℕ) (s : List ℕ) → part k s ≡ drop k s
part-drop k s = take_all (length s - k) (drop k s) (simp length-drop (omega arith))

no_byte : (s : List ℕ) → length s ≡ 0 → s ≡ []
no_byte [] h = refl
no_byte (b ∷ s) h = absurd (omega arith)

module _ (p : ℕ) (s : List ℕ) (k : ℕ) where
  pub plain-white : k ≡ lead (in_class White) s → k ≡ length s → plain p s ≡ end
  unfolding plain
  plain-white q h = rw (eq-eqb (lead (in_class White) s) (length s) (sym q ∙ h))

  pub plain-text : k ≡ lead (in_class White) s → (k ≡ length s → ⊥) → plain p s ≡ Shown.text p s ▸ end
  unfolding plain
  plain-text q h = rw (ne_eqb (lead (in_class White) s) (length s) (λ e. h (q ∙ e)))

  pub other_none : k ≡ lead (in_class Space) s → k < length s → other p s ≡ end
  unfolding other
  other_none q h = rw (← q, lt-ltb k (length s) h)

  pub other_text : k ≡ lead (in_class Space) s → length s ≤ k → other p s ≡ Shown.text p (92 ∷ s) ▸ end
  unfolding other
  other_text q h = rw (← q, le-ltb k (length s) h)

-- the text behind a word
pub tail_none : (p : ℕ) (s : List ℕ) → length s ≡ 0 → word_tail p s ≡ end
unfolding word_tail
tail_none p [] h = refl
tail_none p (b ∷ s) h = absurd (omega arith)

pub tail-plain : (p : ℕ) (s : List ℕ) (k : ℕ) → (length s ≡ 0 → ⊥) → k ≡ lead (in_class WordEnd) s → k < length s → word_tail p s ≡ plain p s
unfolding word_tail
tail-plain p [] k z q h = absurd (z refl)
tail-plain p (b ∷ s) k z q h = rw (← q, lt-ltb k (length (b ∷ s)) h)

pub tail-text : (p : ℕ) (s : List ℕ) (k : ℕ) → (length s ≡ 0 → ⊥) → k ≡ lead (in_class WordEnd) s → length s ≤ k → word_tail p s ≡ Shown.text p s ▸ end
unfolding word_tail
tail-text p [] k z q h = absurd (z refl)
tail-text p (b ∷ s) k z q h = rw (← q, le-ltb k (length (b ∷ s)) h)

-- one semicolon at the end
module _ (w : List ℕ) where
  pub bare-none : length w ≡ 0 → 0 ≡ bare_length w
  unfolding bare_length
  bare-none h = rw (no_byte w h)

  pub bare-semicolon : get_or w (length w - 1) 0 ≡ 59 → length w - 1 ≡ bare_length w
  unfolding bare_length
  bare-semicolon e = rw (eq-eqb (get_or w (length w - 1) 0) 59 e)

  pub bare-other : (get_or w (length w - 1) 0 ≡ 59 → ⊥) → length w ≡ bare_length w
  unfolding bare_length
  bare-other f = rw (ne_eqb (get_or w (length w - 1) 0) 59 f)

-- a word, without a number and with one
module _ (p : ℕ) (w : List ℕ) (k : ℕ) (q : k ≡ body (in_class Numeral) w) where
  pub named-bare : k ≡ length w → named p w ≡ shown_word p w None ▸ end
  unfolding named
  named-bare e = rw (eq-eqb (body (in_class Numeral) w) (length w) (sym q ∙ e))

  pub named-numbered : (k ≡ length w → ⊥) → named p w ≡ numbered p (take k w) (decimal (part k w))
  unfolding named
  named-numbered f = rw (← q, ne_eqb k (length w) f, part-drop k w)

module _ (p : ℕ) (s : List ℕ) (k e : ℕ) (q : k ≡ lead (in_class InWord) s) (z : e ≡ bare_length (take k s)) where
  pub word-parts : word p s ≡ and_then (named p (take e s)) (word_tail (p + 1 + (k + 1)) (part (k + 1) s))
  unfolding word
  word-parts = rw (← q, ← z, part-drop (k + 1) s)

  pub word-short : k ≡ length s → word p s ≡ and_then (named p (take e s)) end
  word-short h =
      let t : word_tail (p + 1 + (k + 1)) (part (k + 1) s) ≡ end = tail_none _ _ (simp (length-take, length-drop) (omega arith)) in
      word-parts ∙ ap (and_then (named p (take e s))) t

-- the hexadecimal escape
pub hex-short : (p : ℕ) (s : List ℕ) → length s < 2 → hex_escape p s ≡ stop HexShort
unfolding hex_escape
hex-short p [] h = refl
hex-short p (a ∷ []) h = refl
hex-short p (a ∷ b ∷ s) h = absurd (omega arith)

module _ (p : ℕ) where
  hex-at : (s : List ℕ) → 2 ≤ length s → hex_escape p s ≡ hex_value (hex_pair (get_or s 0 0) (get_or s 1 0)) (plain (p + 4) (part 2 s))
  unfolding hex_escape
  hex-at [] h = absurd (omega arith)
  hex-at (a ∷ []) h = absurd (omega arith)
  hex-at (a ∷ b ∷ s) h = rw (part-drop 2 (a ∷ b ∷ s))

  module _ (s : List ℕ) (h : 2 ≤ length s) (r : Option ℕ) (q : r ≡ hex_pair (get_or s 0 0) (get_or s 1 0)) where
    pub hex-bad : r ≡ None → hex_escape p s ≡ stop HexBad
    unfolding hex_value
    hex-bad b = hex-at s h ∙ ap (λ (v : Option ℕ). hex_value v (plain (p + 4) (part 2 s))) (sym q ∙ b)

    pub hex-is : (v : ℕ) → r ≡ Some v → hex_escape p s ≡ Shown.word 2 (Some v) ▸ plain (p + 4) (part 2 s)
    unfolding hex_value
    hex-is v b = hex-at s h ∙ ap (λ (v : Option ℕ). hex_value v (plain (p + 4) (part 2 s))) (sym q ∙ b)

pub break-at : (p : ℕ) (s : List ℕ) → line_break_and p s ≡ Shown.line_break ▸ plain (p + 2) s
unfolding line_break_and
break-at p s = refl

-- behind a backslash, by the byte that follows
pub escaped-none : (rd : Reading) (p : ℕ) (s : List ℕ) → length s ≡ 0 → escaped rd p s ≡ other p s
unfolding escaped
escaped-none rd p [] h = refl
escaped-none rd p (b ∷ s) h = absurd (omega arith)

module _ (rd : Reading) (p : ℕ) where
  abbrev choice : Bool → Bool → List ℕ → Stream Why Shown
  choice l t s =
      cond l (word p s)
      (cond t (Shown.text (p + 1) s ▸ end)
      (cond (eqb (get_or s 0 0) 39) (hex_escape p (part 1 s))
      (cond (eqb (get_or s 0 0) 10) (line_break_and p (part 1 s))
      (cond (eqb (get_or s 0 0) 42) (Shown.ignorable ▸ end) (other_by rd p s)))))

  escaped-at : (s : List ℕ) → (length s ≡ 0 → ⊥) → escaped rd p s ≡ choice (is_letter (get_or s 0 0)) (is_escape (get_or s 0 0)) s
  unfolding escaped
  escaped-at [] h = absurd (h refl)
  escaped-at (b ∷ s) h = rw (part-drop 1 (b ∷ s))

  module _ (s : List ℕ) (z : length s ≡ 0 → ⊥) (l : Bool) (v : l ≡ is_letter (get_or s 0 0)) where
    pub escaped-word : l ≡ true → escaped rd p s ≡ word p s
    escaped-word e = escaped-at s z ∙ ap (λ (t : Bool). choice t (is_escape (get_or s 0 0)) s) (sym v ∙ e)

    module _ (f : l ≡ false) (r : Bool) (q : r ≡ is_escape (get_or s 0 0)) where
      past-letter : (t : Bool) → r ≡ t → escaped rd p s ≡ choice false t s
      past-letter t e =
          escaped-at s z
          ∙ ap (λ (t : Bool). choice t (is_escape (get_or s 0 0)) s) (sym v ∙ f)
          ∙ ap (λ (t : Bool). choice false t s) (sym q ∙ e)

      pub escaped-text : r ≡ true → escaped rd p s ≡ Shown.text (p + 1) s ▸ end
      escaped-text e = past-letter true e

      pub escaped-hex : r ≡ false → get_or s 0 0 ≡ 39 → escaped rd p s ≡ hex_escape p (part 1 s)
      escaped-hex e b = past-letter false e ∙ rw (eq-eqb (get_or s 0 0) 39 b)

      module _ (e : r ≡ false) (x : get_or s 0 0 ≡ 39 → ⊥) where
        pub escaped-break : get_or s 0 0 ≡ 10 → escaped rd p s ≡ line_break_and p (part 1 s)
        escaped-break b = past-letter false e ∙ rw (ne_eqb (get_or s 0 0) 39 x, eq-eqb (get_or s 0 0) 10 b)

        module _ (y : get_or s 0 0 ≡ 10 → ⊥) where
          pub escaped-mark : get_or s 0 0 ≡ 42 → escaped rd p s ≡ Shown.ignorable ▸ end
          escaped-mark b = past-letter false e ∙ rw (ne_eqb (get_or s 0 0) 39 x, ne_eqb (get_or s 0 0) 10 y, eq-eqb (get_or s 0 0) 42 b)

          pub escaped-other : (get_or s 0 0 ≡ 42 → ⊥) → escaped rd p s ≡ other_by rd p s
          escaped-other b = past-letter false e ∙ rw (ne_eqb (get_or s 0 0) 39 x, ne_eqb (get_or s 0 0) 10 y, ne_eqb (get_or s 0 0) 42 b)

-- a bracket or a line feed
pub mark-open : (b : ℕ) → b ≡ 123 → mark b ≡ Shown.opening ▸ end
unfolding mark
mark-open b e = rw e

pub mark-close : (b : ℕ) → b ≡ 125 → mark b ≡ Shown.closing ▸ end
unfolding mark
mark-close b e = rw e

pub mark-none : (b : ℕ) → (b ≡ 123 → ⊥) → (b ≡ 125 → ⊥) → mark b ≡ end
unfolding mark
mark-none b f g = rw (ne_eqb b 123 f, ne_eqb b 125 g)

-- a slice, by its first byte
pub tokens_none : (rd : Reading) (p : ℕ) (s : List ℕ) → length s ≡ 0 → tokens rd p s ≡ end
unfolding tokens
tokens_none rd p [] h = refl
tokens_none rd p (b ∷ s) h = absurd (omega arith)

module _ (rd : Reading) (p : ℕ) where
  abbrev pick : Bool → List ℕ → Stream Why Shown
  pick t s = cond t (and_then (mark (get_or s 0 0)) (tokens rd (p + 1) (part 1 s))) (cond (eqb (get_or s 0 0) 92) (escaped rd p (part 1 s)) (plain p s))

  tokens-at : (s : List ℕ) → (length s ≡ 0 → ⊥) → tokens rd p s ≡ pick (is_mark (get_or s 0 0)) s
  unfolding tokens
  tokens-at [] h = absurd (h refl)
  tokens-at (b ∷ s) h = rw (part-drop 1 (b ∷ s))

  module _ (s : List ℕ) (z : length s ≡ 0 → ⊥) (r : Bool) (q : r ≡ is_mark (get_or s 0 0)) where
    by-mark : (t : Bool) → r ≡ t → tokens rd p s ≡ pick t s
    by-mark t e = tokens-at s z ∙ ap (λ (t : Bool). pick t s) (sym q ∙ e)

    pub tokens-mark : r ≡ true → tokens rd p s ≡ and_then (mark (get_or s 0 0)) (tokens rd (p + 1) (part 1 s))
    tokens-mark e = by-mark true e

    pub tokens-alone : r ≡ true → length s ≡ 1 → tokens rd p s ≡ and_then (mark (get_or s 0 0)) end
    tokens-alone e l = tokens-mark e ∙ ap (and_then (mark (get_or s 0 0))) (tokens_none rd (p + 1) (part 1 s) (simp (length-take, length-drop) (omega arith)))

    pub tokens-escaped : r ≡ false → get_or s 0 0 ≡ 92 → tokens rd p s ≡ escaped rd p (part 1 s)
    tokens-escaped f e = by-mark false f ∙ rw (eq-eqb (get_or s 0 0) 92 e)

    pub tokens-plain : r ≡ false → (get_or s 0 0 ≡ 92 → ⊥) → tokens rd p s ≡ plain p s
    tokens-plain f e = by-mark false f ∙ rw (ne_eqb (get_or s 0 0) 92 e)

-- the last rule, by the reading
module _ {rd : Reading} (p : ℕ) (s : List ℕ) where
  pub other-plain : rd ≡ Plain → other_by rd p s ≡ other p s
  unfolding other_by
  other-plain e = rw e

  pub other-paragraphs : rd ≡ Paragraphs → other_by rd p s ≡ returned p s
  unfolding other_by
  other-paragraphs e = rw e

  pub other-standard : rd ≡ Standard → other_by rd p s ≡ returned p s
  unfolding other_by
  other-standard e = rw e

pub return-none : (p : ℕ) (s : List ℕ) → length s ≡ 0 → returned p s ≡ other p s
return-none p [] h = refl
return-none p (b ∷ s) h = absurd (omega arith)

pub return-other : (p : ℕ) (s : List ℕ) → (length s ≡ 0 → ⊥) → (get_or s 0 0 ≡ 13 → ⊥) → returned p s ≡ other p s
return-other p [] h f = refl
return-other p (b ∷ s) h f = rw (ne_eqb b 13 f)

-- a carriage return, and what is behind it
pub return-break : (p : ℕ) (s : List ℕ) → (length s ≡ 0 → ⊥) → get_or s 0 0 ≡ 13 → returned p s ≡ Shown.line_break ▸ behind_feed (p + 2) (part 1 s)
return-break p [] h e = absurd (h refl)
return-break p (b ∷ s) h e = rw (eq-eqb b 13 e, part-drop 1 (b ∷ s))

pub feed-none : (p : ℕ) (s : List ℕ) → length s ≡ 0 → behind_feed p s ≡ plain p s
feed-none p [] h = refl
feed-none p (b ∷ s) h = absurd (omega arith)

pub feed-some : (p : ℕ) (s : List ℕ) → (length s ≡ 0 → ⊥) → get_or s 0 0 ≡ 10 → behind_feed p s ≡ plain (p + 1) (part 1 s)
feed-some p [] h e = absurd (h refl)
feed-some p (b ∷ s) h e = rw (eq-eqb b 10 e, part-drop 1 (b ∷ s))

pub feed-other : (p : ℕ) (s : List ℕ) → (length s ≡ 0 → ⊥) → (get_or s 0 0 ≡ 10 → ⊥) → behind_feed p s ≡ plain p s
feed-other p [] h f = refl
feed-other p (b ∷ s) h f = rw (ne_eqb b 10 f)
