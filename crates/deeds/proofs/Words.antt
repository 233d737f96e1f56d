-- What the token that words start with does, one law for each way through the code.
--     at-..         the token that words start with, by whether the walk passes over what stands behind it
--     kind-..       that token by its kind
--     gave-ended    and what its run gives, if it is no `u` word and something is left of it
--     brace-yes, -no, count-one, -text   whether it is a brace, and how many characters it is
-- Assumes nothing.
use mathlib.Core.Path.{◌≡◌, refl, sym, ap, ◌∙◌}
use mathlib.Core.List.{List, [], ◌∷◌}
use mathlib.Core.Bool.{Bool, true, false, cond, ◌&&◌, true≢false}
use Prim.Native.Nat.{ℕ, zero, suc, ◌<◌, ◌≤◌}
use native.Mathlib.Omega.{arith}
use borrow.Author.Tests.{lt-ltb, le-ltb, ltb-true, eqb-true}
use lib.ListN.{length, get_or, drop}
use lib.Dec.{eqb, ltb}
use Rattle.readings.specs.declared.Reading.{Reading}
use Rattle.tokens.specs.declared.item.Item.TheVariants.{Text, Opening, Closing, LineBreak, Ignorable, Word, Unknown, Symbol}
use Rattle.tokens.specs.Tokens.{Shown}
use Rattle.tokens.specs.declared.Kind.{Kind}
use Rattle.tokens.specs.declared.Kind.TheVariants as kinds
use Rattle.tokens.specs.Items.{kind_at, item_at, item_of, word_item, number_at, shown_of, part}
use Rattle.tokens.proofs.Items.{item_by, item-by-kind}
use Rattle.std.specs.Prelude.{◌⊎◌}
use Rattle.std.proofs.Common.{inl, inr}
use Rattle.settings.specs.Fields.{Setting}
use Rattle.settings.specs.Effects.{Effect, effect, painter_word, paragraph_word, character_word, ending_word, indent_word}
use Rattle.settings.specs.Effects as does
use Rattle.units.specs.declared.Run.{Run}
use Rattle.units.specs.declared.Gave.{Gave}
use Rattle.machine.specs.Machine.{Deed, parts, ended, gave, is_brace, counts, tells_rest, left, is_passed, owing}
use Rattle.machine.proofs.Left.{is_telling, left-told}
use Rattle.classes.proofs.Runs.{and_left, and_right}
use Rattle.deeds.specs.Deeds.{doing, symbol_effect, token_deed}
use Rattle.deeds.specs.Turns.{deed_at}
use Rattle.std.specs.Prelude.{Option}

-- ---- the token that words start with

module _ (rd : Reading) (src ws : List ℕ) where
  -- where the walk passes over a group, and where it does not
  pub at-group : (h : ℕ) → 0 < h → parts ≡ deed_at rd src ws h
  unfolding deed_at
  at-group h z = rw (lt-ltb 0 h z)

  pub at-token : (h : ℕ) → h ≤ 0 → token_deed rd (shown_of src (item_at ws)) ≡ deed_at rd src ws h
  unfolding deed_at
  at-token h z = rw (le-ltb 0 h z)

  -- by its kind
  abbrev by_kind : Kind → Deed Setting
  by_kind k = token_deed rd (shown_of src (item_by k ws))

  pub kind-deed : {k : Kind} → kind_at ws ≡ k → by_kind k ≡ token_deed rd (shown_of src (item_at ws))
  kind-deed e = ap (λ i. token_deed rd (shown_of src i)) (item-by-kind ws e)

  pub kind-symbol : kind_at ws ≡ kinds.Symbol → doing (symbol_effect (get_or ws 1 0) (number_at ws)) ≡ token_deed rd (shown_of src (item_at ws))
  kind-symbol e = kind-deed e

  -- a word's item: an unknown one does nothing, as words that are none of 01's effects
  word-item : (w p n : ℕ) (num : Option ℕ) → (b : Bool) → eqb w 49 ≡ b → cond (eqb w 2) (Deed.unit num) (doing (effect rd w num)) ≡ token_deed rd (shown_of src (cond b (Unknown p n num) (Word w num)))
  unfolding effect painter_word paragraph_word character_word ending_word indent_word
  word-item w p n num true q = rw (eqb-true w 49 q)
  word-item w p n num false q = refl

  word-deed : cond (eqb (get_or ws 1 0) 2) (Deed.unit (number_at ws)) (doing (effect rd (get_or ws 1 0) (number_at ws))) ≡ by_kind kinds.Word
  word-deed = word-item (get_or ws 1 0) (get_or ws 4 0) (get_or ws 5 0) (number_at ws) (eqb (get_or ws 1 0) 49) refl

  pub kind-word : kind_at ws ≡ kinds.Word → cond (eqb (get_or ws 1 0) 2) (Deed.unit (number_at ws)) (doing (effect rd (get_or ws 1 0) (number_at ws))) ≡ token_deed rd (shown_of src (item_at ws))
  kind-word e = word-deed ∙ kind-deed e

  pub unit-at : (h : ℕ) → (eqb (get_or ws 0 0) 5 && eqb (get_or ws 1 0) 2) ≡ true → (0 < h → get_or ws 0 0 ≡ 1) → Deed.unit (number_at ws) ≡ deed_at rd src ws h
  unit-at h c l =
      let k : get_or ws 0 0 ≡ 5 = eqb-true (get_or ws 0 0) 5 (and_left (eqb (get_or ws 0 0) 5) (eqb (get_or ws 1 0) 2) c) in
      let w : get_or ws 1 0 ≡ 2 = eqb-true (get_or ws 1 0) 2 (and_right (eqb (get_or ws 0 0) 5) (eqb (get_or ws 1 0) 2) c) in
      let u : Deed.unit (number_at ws) ≡ cond (eqb (get_or ws 1 0) 2) (Deed.unit (number_at ws)) (doing (effect rd (get_or ws 1 0) (number_at ws))) = rw w refl in
      u ∙ kind-word (rw k refl) ∙ at-token h (no-group k l)
    where
      no-group : get_or ws 0 0 ≡ 5 → (0 < h → get_or ws 0 0 ≡ 1) → h ≤ 0
      no-group k l = go h l
        where
          go : (n : ℕ) → (0 < n → get_or ws 0 0 ≡ 1) → n ≤ 0
          go zero m = omega arith
          go (suc n) m = let o : get_or ws 0 0 ≡ 1 = m (omega arith) in absurd (omega arith)

-- ---- a token that is no `u` word ends the run

is_unit : Deed Setting → Bool
is_unit (Deed.unit num) = true
is_unit Deed.opens = false
is_unit Deed.closes = false
is_unit (Deed.sets ss) = false
is_unit (Deed.says bs) = false
is_unit (Deed.tells bs) = false
is_unit (Deed.refuses why) = false
is_unit Deed.parts = false
is_unit (Deed.stops why) = false
is_unit Deed.passes = false

module _ (step : Run → Option ℕ → Gave) (run : Run) where
  gave-other : (d : Deed Setting) → is_unit d ≡ false → is_passed d ≡ false → ended run ≡ gave step run d
  unfolding gave is_unit
  gave-other (Deed.unit num) e p = absurd (true≢false e)
  gave-other Deed.passes e p = absurd (true≢false p)
  gave-other Deed.opens e p = refl
  gave-other Deed.closes e p = refl
  gave-other (Deed.sets ss) e p = refl
  gave-other (Deed.says bs) e p = refl
  gave-other (Deed.tells bs) e p = refl
  gave-other (Deed.refuses why) e p = refl
  gave-other Deed.parts e p = refl
  gave-other (Deed.stops why) e p = refl

owing-other : (owes : ℕ) (d : Deed Setting) → is_unit d ≡ false → owing owes d ≡ 0
unfolding is_unit
owing-other owes (Deed.unit num) e = absurd (true≢false e)
owing-other owes Deed.passes e = refl
owing-other owes Deed.opens e = refl
owing-other owes Deed.closes e = refl
owing-other owes (Deed.sets ss) e = refl
owing-other owes (Deed.says bs) e = refl
owing-other owes (Deed.tells bs) e = refl
owing-other owes (Deed.refuses why) e = refl
owing-other owes Deed.parts e = refl
owing-other owes (Deed.stops why) e = refl

-- so does what is left of it
rest-other : (l : List ℕ) → is_unit (tells_rest l) ≡ false
unfolding is_unit
rest-other [] = refl
rest-other (b ∷ l) = refl

left_other : (n : ℕ) (d : Deed Setting) → is_unit d ≡ false → is_unit (left n d) ≡ false
unfolding left is_unit
left_other zero d e = e
left_other (suc n) (Deed.tells bs) e = rest-other (drop (suc n) bs)
left_other (suc n) (Deed.unit num) e = refl
left_other (suc n) Deed.opens e = refl
left_other (suc n) Deed.closes e = refl
left_other (suc n) (Deed.sets ss) e = refl
left_other (suc n) (Deed.says bs) e = refl
left_other (suc n) (Deed.refuses why) e = refl
left_other (suc n) Deed.parts e = refl
left_other (suc n) (Deed.stops why) e = refl
left_other (suc n) Deed.passes e = refl

doing-other : (e : Effect) → is_unit (doing e) ≡ false
unfolding is_unit
doing-other (does.sets ss) = refl
doing-other (does.says c) = refl
doing-other (does.refuses why) = refl

module _ (rd : Reading) (src : List ℕ) (w p n : ℕ) (num : Option ℕ) where
  word-other : (u : Bool) → eqb w 2 ≡ u → u ≡ false → (x : Bool) → is_unit (token_deed rd (shown_of src (cond x (Unknown p n num) (Word w num)))) ≡ false
  unfolding is_unit
  word-other u q f true = refl
  word-other u q f false = rw (q, f) (doing-other (effect rd w num))

  item-other : (a b c d e f : Bool) → (e && eqb w 2) ≡ false
      → is_unit (token_deed rd (shown_of src (cond a Opening (cond b Closing (cond c LineBreak (cond d Ignorable (cond e (word_item w num p n) (cond f (Symbol w num) (Text p n))))))))) ≡ false
  unfolding is_unit
  item-other true b c d e f h = refl
  item-other false true c d e f h = refl
  item-other false false true d e f h = refl
  item-other false false false true e f h = refl
  item-other false false false false true f h = word-other (eqb w 2) refl h (eqb w 49)
  item-other false false false false false true h = doing-other (symbol_effect w num)
  item-other false false false false false false h = refl

module _ (rd : Reading) (src ws : List ℕ) (h : ℕ) where
  deed-other : (eqb (get_or ws 0 0) 5 && eqb (get_or ws 1 0) 2) ≡ false → is_unit (deed_at rd src ws h) ≡ false
  unfolding deed_at item_at item_of is_unit
  deed-other q = at (ltb 0 h)
    where
      at : (b : Bool) → is_unit (cond b parts (token_deed rd (shown_of src (item_at ws)))) ≡ false
      at true = refl
      at false = item-other rd src (get_or ws 1 0) (get_or ws 4 0) (get_or ws 5 0) (number_at ws) (eqb (get_or ws 0 0) 1) (eqb (get_or ws 0 0) 2) (eqb (get_or ws 0 0) 3)
          (eqb (get_or ws 0 0) 4) (eqb (get_or ws 0 0) 5) (eqb (get_or ws 0 0) 6) q

  -- only a `u` word owes characters
  pub owes-other : (owes : ℕ) → (eqb (get_or ws 0 0) 5 && eqb (get_or ws 1 0) 2) ≡ false → owing owes (deed_at rd src ws h) ≡ 0
  owes-other owes q = owing-other owes (deed_at rd src ws h) (deed-other q)

  pub gave-ended : (n : ℕ) (step : Run → Option ℕ → Gave) (run : Run) → (eqb (get_or ws 0 0) 5 && eqb (get_or ws 1 0) 2) ≡ false → is_passed (left n (deed_at rd src ws h)) ≡ false
      → ended run ≡ gave step run (left n (deed_at rd src ws h))
  gave-ended n step run q p = gave-other step run (left n (deed_at rd src ws h)) (left_other n (deed_at rd src ws h) (deed-other q)) p

-- ---- how many characters a token is

-- neither a word's effect nor a symbol's is a brace; each is one character
doing-flat : (e : Effect) → (is_brace (doing e) ≡ false) × (counts (doing e) ≡ 1)
doing-flat (does.sets ss) = (refl, refl)
doing-flat (does.says c) = (refl, refl)
doing-flat (does.refuses why) = (refl, refl)

word_flat : (rd : Reading) (w : ℕ) (num : Option ℕ) (u : Bool) → (is_brace (cond u (Deed.unit num) (doing (effect rd w num))) ≡ false) × (counts (cond u (Deed.unit num) (doing (effect rd w num))) ≡ 1)
word_flat rd w num true = (refl, refl)
word_flat rd w num false = doing-flat (effect rd w num)

module _ (rd : Reading) (src ws : List ℕ) where
  abbrev deed : Deed Setting
  deed = token_deed rd (shown_of src (item_at ws))

  brace_of : Kind → Bool
  brace_of kinds.Text = false
  brace_of kinds.Opening = true
  brace_of kinds.Closing = true
  brace_of kinds.LineBreak = false
  brace_of kinds.Ignorable = false
  brace_of kinds.Word = false
  brace_of kinds.Symbol = false

  word-flat : (is_brace (by_kind rd src ws kinds.Word) ≡ false) × (counts (by_kind rd src ws kinds.Word) ≡ 1)
  word-flat = rw (← word-deed rd src ws) (word_flat rd (get_or ws 1 0) (number_at ws) (eqb (get_or ws 1 0) 2))

  brace-by : (k : Kind) → brace_of k ≡ is_brace (by_kind rd src ws k)
  unfolding brace_of
  brace-by kinds.Text = refl
  brace-by kinds.Opening = refl
  brace-by kinds.Closing = refl
  brace-by kinds.LineBreak = refl
  brace-by kinds.Ignorable = refl
  brace-by kinds.Word = sym word-flat.0
  brace-by kinds.Symbol = sym (doing-flat (symbol_effect (get_or ws 1 0) (number_at ws))).0

  -- a kind that is no text and no brace
  one-by : (k : Kind) → (k ≡ kinds.Text → ⊥) → brace_of k ≡ false → 1 ≡ counts (by_kind rd src ws k)
  unfolding brace_of
  one-by kinds.Text n e = absurd (n refl)
  one-by kinds.Opening n e = absurd (true≢false e)
  one-by kinds.Closing n e = absurd (true≢false e)
  one-by kinds.LineBreak n e = refl
  one-by kinds.Ignorable n e = refl
  one-by kinds.Word n e = sym word-flat.1
  one-by kinds.Symbol n e = sym (doing-flat (symbol_effect (get_or ws 1 0) (number_at ws))).1

  brace-kind : brace_of (kind_at ws) ≡ is_brace deed
  brace-kind = brace-by (kind_at ws) ∙ ap is_brace (kind-deed rd src ws refl)

  -- a group that is passed over is a brace
  no-group : (m : ℕ) → is_brace (deed_at rd src ws m) ≡ false → m ≤ 0
  unfolding deed_at
  no-group zero e = omega arith
  no-group (suc m) e = let t : ltb 0 (suc m) ≡ true = lt-ltb 0 (suc m) (omega arith) in absurd (true≢false (rw t at e))

  module _ (h : ℕ) (l : 0 < h → get_or ws 0 0 ≡ 1) where
    brace-at : brace_of (kind_at ws) ≡ is_brace (deed_at rd src ws h)
    unfolding deed_at brace_of
    brace-at = go (ltb 0 h) refl
      where
        go : (t : Bool) → ltb 0 h ≡ t → brace_of (kind_at ws) ≡ is_brace (cond t parts deed)
        go true e = rw (l (ltb-true 0 h e)) refl
        go false e = brace-kind

    pub brace-yes : (kind_at ws ≡ kinds.Opening) ⊎ (kind_at ws ≡ kinds.Closing) → true ≡ is_brace (deed_at rd src ws h)
    unfolding brace_of
    brace-yes (inl e) = rw e at brace-at
    brace-yes (inr e) = rw e at brace-at

    pub brace-no : (kind_at ws ≡ kinds.Opening → ⊥) → (kind_at ws ≡ kinds.Closing → ⊥) → false ≡ is_brace (deed_at rd src ws h)
    unfolding brace_of
    brace-no o c = no (kind_at ws) o c ∙ brace-at
      where
        no : (k : Kind) → (k ≡ kinds.Opening → ⊥) → (k ≡ kinds.Closing → ⊥) → false ≡ brace_of k
        no kinds.Text o c = refl
        no kinds.Opening o c = absurd (o refl)
        no kinds.Closing o c = absurd (c refl)
        no kinds.LineBreak o c = refl
        no kinds.Ignorable o c = refl
        no kinds.Word o c = refl
        no kinds.Symbol o c = refl

    module _ (n : is_brace (deed_at rd src ws h) ≡ false) where
      -- so no group is passed over
      deed-here : {k : Kind} → kind_at ws ≡ k → by_kind rd src ws k ≡ deed_at rd src ws h
      deed-here e = kind-deed rd src ws e ∙ at-token rd src ws h (no-group h n)

      pub count-one : (kind_at ws ≡ kinds.Text → ⊥) → 1 ≡ counts (deed_at rd src ws h)
      count-one t = one-by (kind_at ws) t (brace-at ∙ n) ∙ ap counts (deed-here refl)

      pub count-text : kind_at ws ≡ kinds.Text → length (part src (get_or ws 4 0) (get_or ws 5 0)) ≡ counts (deed_at rd src ws h)
      count-text e = ap counts (deed-here e)

-- ---- a word or a symbol is no text

doing-telling : (e : Effect) → is_telling (doing e) ≡ false
doing-telling (does.sets ss) = refl
doing-telling (does.says c) = refl
doing-telling (does.refuses why) = refl

word-telling : (rd : Reading) (w : ℕ) (num : Option ℕ) (u : Bool) → is_telling (cond u (Deed.unit num) (doing (effect rd w num))) ≡ false
word-telling rd w num true = refl
word-telling rd w num false = doing-telling (effect rd w num)

pub act-telling : (rd : Reading) (src ws : List ℕ) (h : ℕ) → h ≤ 0 → (kind_at ws ≡ kinds.Word) ⊎ (kind_at ws ≡ kinds.Symbol) → is_telling (deed_at rd src ws h) ≡ false
act-telling rd src ws h z (inl e) = rw (← at-token rd src ws h z, ← kind-word rd src ws e) (word-telling rd (get_or ws 1 0) (number_at ws) (eqb (get_or ws 1 0) 2))
act-telling rd src ws h z (inr e) = rw (← at-token rd src ws h z, ← kind-symbol rd src ws e) (doing-telling (symbol_effect (get_or ws 1 0) (number_at ws)))

-- ---- no token is one that is passed over, by itself

doing-read : (e : Effect) → is_passed (doing e) ≡ false
doing-read (does.sets ss) = refl
doing-read (does.says c) = refl
doing-read (does.refuses why) = refl

token-read : (rd : Reading) (t : Shown) → is_passed (token_deed rd t) ≡ false
token-read rd Shown.opening = refl
token-read rd Shown.closing = refl
token-read rd Shown.line_break = refl
token-read rd Shown.ignorable = refl
token-read rd (Shown.text p bs) = refl
token-read rd (Shown.word w num) = go (eqb w 2)
  where
    go : (u : Bool) → is_passed (cond u (Deed.unit num) (doing (effect rd w num))) ≡ false
    go true = refl
    go false = doing-read (effect rd w num)
token-read rd (Shown.unknown p bs num) = refl
token-read rd (Shown.symbol b num) = doing-read (symbol_effect b num)

pub never-passed : (rd : Reading) (src ws : List ℕ) (h : ℕ) → is_passed (deed_at rd src ws h) ≡ false
unfolding deed_at
never-passed rd src ws h = go (ltb 0 h)
  where
    go : (t : Bool) → is_passed (cond t parts (token_deed rd (shown_of src (item_at ws)))) ≡ false
    go true = refl
    go false = token-read rd (shown_of src (item_at ws))

-- ---- the rest of a text

pub kind-rest : (rd : Reading) (src ws : List ℕ) (h n : ℕ) → h ≤ 0 → kind_at ws ≡ kinds.Text → is_passed (left n (deed_at rd src ws h)) ≡ false
    → {bs bytes : List ℕ} → bytes ≡ part src (get_or ws 4 0) (get_or ws 5 0) → bs ≡ drop n bytes → Deed.tells bs ≡ left n (deed_at rd src ws h)
kind-rest rd src ws h n z t p e f =
    ap Deed.tells (f ∙ ap (drop n) e) ∙ left-told n (part src (get_or ws 4 0) (get_or ws 5 0)) (deed_at rd src ws h) (kind-deed rd src ws t ∙ at-token rd src ws h z) p
