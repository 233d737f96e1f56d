-- The definitions of specs/Standard.antt, a law for each branch of the code, in the code's terms: callees' results are variables, and what
-- the callees promise of them are premises. Assumes nothing.
use mathlib.Core.Path.{◌≡◌, refl, sym, ap, ◌∙◌}
use mathlib.Core.List.{List, [], ◌∷◌}
use mathlib.Core.Bool.{Bool, true, false, cond, ◌||◌, false≢true}
use Prim.Native.Nat.{ℕ, zero, suc, ◌+◌, ◌-◌, ◌≤◌, ◌<◌}
use native.Mathlib.Omega.{arith}
use borrow.Author.Tests.{eq-eqb, ne_eqb}
use lib.ListN.{length, get_or, take, drop, length-drop}
use lib.Seq.{take_all}
use lib.Dec.{eqb}
use Rattle.answers.specs.declared.Why.{Why}
use Rattle.answers.specs.declared.Why.TheVariants.{HexShort, HexBad}
use Rattle.classes.specs.declared.Class.TheVariants.{Alpha, Digit}
use Rattle.classes.specs.Bytes.{is_alpha, in_class, lead}
use Rattle.classes.proofs.Runs.{or_left, or_right}
use Rattle.numbers.specs.Numbers.{hex_pair, decimal}
use Rattle.rooms.specs.Streams.{Stream, end, stop, ◌▸◌, and_then}
use Rattle.tokens.specs.declared.Kind.TheVariants as kinds
use Rattle.tokens.specs.declared.Record.{Record}
use Rattle.tokens.specs.Tokens.{Shown, kind_number, bare_record, symbol_record, record_of}
use Rattle.tokens.proofs.Records.{symbol-record, ignorable-record, opening-record, closing-record}
use Rattle.controls.specs.Controls.{shown_word, numbered}
use Rattle.standard.specs.Standard.{leads, tail, is_escape, number_from, number_length, named, word, hex_value, hex_escape, break_length, line_break_and, symbol_of, bracket_of, escaped, tokens}
use Rattle.std.specs.Prelude.{Option, Some, None, option_copied, slice_get}
use Rattle.std.specs.Option.{option_eq}
use denote.Bor.{Bor}
use mir.Val.{bool_byte}

-- the bytes from a place on, as the code has them
abbrev pub part : ℕ → List ℕ → List ℕ
part k s = take (length s - k) (drop k s)

pub part-drop : (k : ℕ) (s : List ℕ) → part k s ≡ drop k s
part-drop k s = take_all (length s - k) (drop k s) (simp length-drop (omega arith))

-- a byte in front
pub leads-first : (b : ℕ) (s : List ℕ) (o : Option (Bor ℕ)) (p : Bor ℕ) → option_copied o ≡ slice_get s 0 → p.now ≡ b
    → bool_byte (option_eq (λ (x y : Bor ℕ). eqb x.now y.now) o (Some p)) ≡ leads b s
unfolding leads
leads-first b [] None p e q = refl
leads-first b [] (Some x) p e q = absurd (cc)
leads-first b (c ∷ s) None p e q = absurd (cc)
leads-first b (c ∷ s) (Some x) p e q =
    let h : x.now ≡ c = cc in
    rw (h, q) (go (eqb c b))
  where
    go : (t : Bool) → bool_byte t ≡ cond t 1 0
    go true = refl
    go false = refl

pub leads-within : (b : ℕ) (s : List ℕ) → leads b s ≤ length s
unfolding leads
leads-within b [] = omega arith
leads-within b (c ∷ s) = go (eqb c b)
  where
    go : (t : Bool) → cond t 1 0 ≤ suc (length s)
    go true = omega arith
    go false = omega arith

-- a number's bytes
module _ (s : List ℕ) (m d : ℕ) (p : m ≡ leads 45 s) (q : d ≡ lead (in_class Digit) (part m s)) where
  number-at : number_length s ≡ number_from m d
  unfolding number_length
  number-at = rw (← p, q, part-drop m s)

  from-none : (d : ℕ) → d ≡ 0 → 0 ≡ number_from m d
  from-none d e = rw e

  from_some : (d : ℕ) → (d ≡ 0 → ⊥) → m + d ≡ number_from m d
  from_some zero f = absurd (f refl)
  from_some (suc d) f = refl

  pub number-none : d ≡ 0 → 0 ≡ number_length s
  number-none e = from-none d e ∙ sym number-at

  pub number-some : (d ≡ 0 → ⊥) → m + d ≡ number_length s
  number-some f = from_some d f ∙ sym number-at

-- text, if there is any
pub tail_none : (p : ℕ) (s : List ℕ) → length s ≡ 0 → tail p s ≡ end
unfolding tail
tail_none p [] h = refl
tail_none p (b ∷ s) h = absurd (omega arith)

pub tail-text : (p : ℕ) (s : List ℕ) → (length s ≡ 0 → ⊥) → tail p s ≡ Shown.text p s ▸ end
unfolding tail
tail-text p [] z = absurd (z refl)
tail-text p (b ∷ s) z = refl

-- a word, without a number and with one
module _ (p : ℕ) (name : List ℕ) where
  pub named-bare : (s : List ℕ) → length s ≡ 0 → named p name s ≡ shown_word p name None ▸ end
  unfolding named
  named-bare [] h = refl
  named-bare (b ∷ s) h = absurd (omega arith)

  pub named-numbered : (s : List ℕ) → (length s ≡ 0 → ⊥) → named p name s ≡ numbered p name (decimal s)
  unfolding named
  named-numbered [] z = absurd (z refl)
  named-numbered (b ∷ s) z = refl

-- a word and what is behind it: k letters, d bytes of a number, j spaces
module _ (p : ℕ) (s : List ℕ) (k d j : ℕ) (q : k ≡ lead (in_class Alpha) s) (r : d ≡ number_length (part k s)) where
  pub word-parts : j ≡ leads 32 (part (k + d) s)
      → word p s ≡ and_then (named p (take k s) (take (k + d - k) (drop k s))) (tail (p + 1 + (k + d + j)) (part (k + d + j) s))
  unfolding word
  word-parts t =
      let n : d ≡ number_length (drop k s) = rw (part-drop k s) at r in
      let u : j ≡ leads 32 (drop (k + d) s) = rw (part-drop (k + d) s) at t in
      let l : k + d - k ≡ d = omega arith in
      rw (← q, ← n, ← u, l, part-drop (k + d + j) s)

-- the hexadecimal escape
pub hex-short : (p : ℕ) (s : List ℕ) → length s < 2 → hex_escape p s ≡ stop HexShort
unfolding hex_escape
hex-short p [] h = refl
hex-short p (a ∷ []) h = refl
hex-short p (a ∷ b ∷ s) h = absurd (omega arith)

module _ (p : ℕ) where
  hex-at : (s : List ℕ) → 2 ≤ length s → hex_escape p s ≡ hex_value (hex_pair (get_or s 0 0) (get_or s 1 0)) (tail (p + 4) (part 2 s))
  unfolding hex_escape
  hex-at [] h = absurd (omega arith)
  hex-at (a ∷ []) h = absurd (omega arith)
  hex-at (a ∷ b ∷ s) h = rw (part-drop 2 (a ∷ b ∷ s))

  module _ (s : List ℕ) (h : 2 ≤ length s) (r : Option ℕ) (q : r ≡ hex_pair (get_or s 0 0) (get_or s 1 0)) where
    pub hex-bad : r ≡ None → hex_escape p s ≡ stop HexBad
    unfolding hex_value
    hex-bad b = hex-at s h ∙ ap (λ (v : Option ℕ). hex_value v (tail (p + 4) (part 2 s))) (sym q ∙ b)

    pub hex-is : (v : ℕ) → r ≡ Some v → hex_escape p s ≡ Shown.symbol 39 (Some v) ▸ tail (p + 4) (part 2 s)
    unfolding hex_value
    hex-is v b = hex-at s h ∙ ap (λ (v : Option ℕ). hex_value v (tail (p + 4) (part 2 s))) (sym q ∙ b)

-- a line break
module _ (p b : ℕ) (s : List ℕ) where
  pub break-return : (k : ℕ) → b ≡ 13 → k ≡ leads 10 s → line_break_and p (break_length b s) s ≡ Shown.line_break ▸ tail (p + 2 + k) (part k s)
  unfolding break_length line_break_and
  break-return k e q = rw (eq-eqb b 13 e, ← q, part-drop k s)

  pub break-feed : (b ≡ 13 → ⊥) → line_break_and p (break_length b s) s ≡ Shown.line_break ▸ tail (p + 2) s
  unfolding break_length line_break_and
  break-feed f =
      let z : p + 2 + 0 ≡ p + 2 = omega arith in
      rw (ne_eqb b 13 f, z)

-- the record of a symbol or a bracket, by its byte
module _ {r : Record} (b : ℕ) where
  pub symbol-mark : b ≡ 42 → r ≡ bare_record (kind_number kinds.Ignorable) → r ≡ record_of (symbol_of b)
  unfolding symbol_of
  symbol-mark e h = rw (eq-eqb b 42 e) (ignorable-record h)

  pub symbol-other : (b ≡ 42 → ⊥) → r ≡ symbol_record b None → r ≡ record_of (symbol_of b)
  unfolding symbol_of
  symbol-other f h = rw (ne_eqb b 42 f) (symbol-record b None h)

  pub bracket-opening : b ≡ 123 → r ≡ bare_record (kind_number kinds.Opening) → r ≡ record_of (bracket_of b)
  unfolding bracket_of
  bracket-opening e h = rw (eq-eqb b 123 e) (opening-record h)

  pub bracket-closing : (b ≡ 123 → ⊥) → r ≡ bare_record (kind_number kinds.Closing) → r ≡ record_of (bracket_of b)
  unfolding bracket_of
  bracket-closing f h = rw (ne_eqb b 123 f) (closing-record h)

-- a choice between two items in front of one stream
either : (t : Bool) (x y : Shown) (a : Stream Why Shown) → cond t (x ▸ a) (y ▸ a) ≡ cond t x y ▸ a
either true x y a = refl
either false x y a = refl

-- behind a backslash, by the byte that follows
pub escaped-none : (p : ℕ) (s : List ℕ) → length s ≡ 0 → escaped p s ≡ Shown.symbol 0 None ▸ end
unfolding escaped
escaped-none p [] h = refl
escaped-none p (b ∷ s) h = absurd (omega arith)

module _ (p : ℕ) where
  abbrev choice : Bool → Bool → Bool → List ℕ → Stream Why Shown
  choice l t u s =
      let b = get_or s 0 0 in
      cond l (word p s)
      (cond t (Shown.text (p + 1) s ▸ end)
      (cond (eqb b 39) (hex_escape p (part 1 s))
      (cond u (line_break_and p (break_length b (part 1 s)) (part 1 s))
      (cond (eqb b 42) (Shown.ignorable ▸ tail (p + 2) (part 1 s))
      (Shown.symbol b None ▸ tail (p + 2) (part 1 s))))))

  escaped-at : (s : List ℕ) → (length s ≡ 0 → ⊥)
      → escaped p s ≡ choice (is_alpha (get_or s 0 0)) (is_escape (get_or s 0 0)) (eqb (get_or s 0 0) 10 || eqb (get_or s 0 0) 13) s
  unfolding escaped
  escaped-at [] z = absurd (z refl)
  escaped-at (b ∷ s) z = rw (part-drop 1 (b ∷ s))

  module _ (s : List ℕ) (z : length s ≡ 0 → ⊥) (l : Bool) (v : l ≡ is_alpha (get_or s 0 0)) where
    pub escaped-word : l ≡ true → escaped p s ≡ word p s
    escaped-word e = escaped-at s z ∙ ap (λ (t : Bool). choice t (is_escape (get_or s 0 0)) (eqb (get_or s 0 0) 10 || eqb (get_or s 0 0) 13) s) (sym v ∙ e)

    module _ (f : l ≡ false) (r : Bool) (q : r ≡ is_escape (get_or s 0 0)) where
      past-letter : (t : Bool) → r ≡ t → escaped p s ≡ choice false t (eqb (get_or s 0 0) 10 || eqb (get_or s 0 0) 13) s
      past-letter t e =
          escaped-at s z
          ∙ ap (λ (t : Bool). choice t (is_escape (get_or s 0 0)) (eqb (get_or s 0 0) 10 || eqb (get_or s 0 0) 13) s) (sym v ∙ f)
          ∙ ap (λ (t : Bool). choice false t (eqb (get_or s 0 0) 10 || eqb (get_or s 0 0) 13) s) (sym q ∙ e)

      pub escaped-text : r ≡ true → escaped p s ≡ tail (p + 1) s
      escaped-text e = past-letter true e ∙ sym (tail-text (p + 1) s z)

      module _ (e : r ≡ false) where
        pub escaped-hex : get_or s 0 0 ≡ 39 → escaped p s ≡ hex_escape p (part 1 s)
        escaped-hex b = past-letter false e ∙ rw (eq-eqb (get_or s 0 0) 39 b)

        module _ (x : get_or s 0 0 ≡ 39 → ⊥) where
          past-hex : (u : Bool) → eqb (get_or s 0 0) 10 || eqb (get_or s 0 0) 13 ≡ u → escaped p s ≡ choice false false u s
          past-hex u y = past-letter false e ∙ ap (λ (t : Bool). choice false false t s) y

          pub escaped-break : eqb (get_or s 0 0) 10 || eqb (get_or s 0 0) 13 ≡ true → escaped p s ≡ line_break_and p (break_length (get_or s 0 0) (part 1 s)) (part 1 s)
          escaped-break y = past-hex true y ∙ rw (ne_eqb (get_or s 0 0) 39 x)

          pub escaped-symbol : eqb (get_or s 0 0) 10 || eqb (get_or s 0 0) 13 ≡ false → escaped p s ≡ symbol_of (get_or s 0 0) ▸ tail (p + 2) (part 1 s)
          unfolding symbol_of
          escaped-symbol y = past-hex false y ∙ rw (ne_eqb (get_or s 0 0) 39 x) (either (eqb (get_or s 0 0) 42) _ _ (tail (p + 2) (part 1 s)))

-- a slice, by its first byte
pub tokens_none : (p : ℕ) (s : List ℕ) → length s ≡ 0 → tokens p s ≡ end
unfolding tokens
tokens_none p [] h = refl
tokens_none p (b ∷ s) h = absurd (omega arith)

module _ (p : ℕ) where
  abbrev brackets : Bool → Bool → Bool → List ℕ → Stream Why Shown
  brackets x y u s =
      cond x (Shown.opening ▸ tail (p + 1) (part 1 s)) (cond y (Shown.closing ▸ tail (p + 1) (part 1 s)) (cond u (tail (p + 1) (part 1 s)) (tail p s)))

  abbrev pick : Bool → List ℕ → Stream Why Shown
  pick u s = cond (eqb (get_or s 0 0) 92) (escaped p (part 1 s)) (brackets (eqb (get_or s 0 0) 123) (eqb (get_or s 0 0) 125) u s)

  tokens-at : (s : List ℕ) → (length s ≡ 0 → ⊥) → tokens p s ≡ pick (eqb (get_or s 0 0) 10 || eqb (get_or s 0 0) 13) s
  unfolding tokens
  tokens-at [] z = absurd (z refl)
  tokens-at (b ∷ s) z = rw (part-drop 1 (b ∷ s))

  module _ (s : List ℕ) (z : length s ≡ 0 → ⊥) where
    pub tokens-escaped : get_or s 0 0 ≡ 92 → tokens p s ≡ escaped p (part 1 s)
    tokens-escaped e = tokens-at s z ∙ rw (eq-eqb (get_or s 0 0) 92 e)

    module _ (f : get_or s 0 0 ≡ 92 → ⊥) where
      past-escaped : (u : Bool) → eqb (get_or s 0 0) 10 || eqb (get_or s 0 0) 13 ≡ u → tokens p s ≡ brackets (eqb (get_or s 0 0) 123) (eqb (get_or s 0 0) 125) u s
      past-escaped u y = tokens-at s z ∙ ap (λ (t : Bool). pick t s) y ∙ rw (ne_eqb (get_or s 0 0) 92 f)

      pub tokens-bracket : eqb (get_or s 0 0) 123 || eqb (get_or s 0 0) 125 ≡ true → tokens p s ≡ bracket_of (get_or s 0 0) ▸ tail (p + 1) (part 1 s)
      unfolding bracket_of
      tokens-bracket e = past-escaped _ refl ∙ go (eqb (get_or s 0 0) 123) (eqb (get_or s 0 0) 125) (eqb (get_or s 0 0) 10 || eqb (get_or s 0 0) 13) e
        where
          go : (x y u : Bool) → x || y ≡ true → brackets x y u s ≡ cond x Shown.opening Shown.closing ▸ tail (p + 1) (part 1 s)
          go true y u e = refl
          go false true u e = refl
          go false false u e = absurd (false≢true e)

      module _ (g : eqb (get_or s 0 0) 123 || eqb (get_or s 0 0) 125 ≡ false) where
        past-brackets : (u : Bool) → eqb (get_or s 0 0) 10 || eqb (get_or s 0 0) 13 ≡ u → tokens p s ≡ cond u (tail (p + 1) (part 1 s)) (tail p s)
        past-brackets u y = past-escaped u y ∙ rw (or_left (eqb (get_or s 0 0) 123) _ g, or_right (eqb (get_or s 0 0) 123) _ g)

        pub tokens-raw : eqb (get_or s 0 0) 10 || eqb (get_or s 0 0) 13 ≡ true → tokens p s ≡ tail (p + 1) (part 1 s)
        tokens-raw y = past-brackets true y

        pub tokens-text : eqb (get_or s 0 0) 10 || eqb (get_or s 0 0) 13 ≡ false → tokens p s ≡ tail p s
        tokens-text y = past-brackets false y
