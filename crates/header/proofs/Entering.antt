-- A group, by what its bracket begins.
--     opens-yes, -no                        whether a token is an opening bracket, by its kind
--     fonts-read, fonts-bad                 a font table: read, refused by its own
--     colours-read, -bad                    a colour table, the same
--     enter-nothing, -hide, -fonts, -colours   what the bracket begins, one law for each
-- Assumes nothing.
use mathlib.Core.Path.{◌≡◌, refl, sym, ap, ◌∙◌}
use mathlib.Core.List.{List}
use mathlib.Core.Bool.{Bool, true, false, cond}
use Prim.Native.Nat.{ℕ, ◌*◌, ◌≤◌}
use native.Mathlib.Omega.{arith}
use lib.Dec.{eqb}
use lib.ListN.{length, get_or, take}
use Rattle.answers.specs.declared.Refusal.{Refusal}
use Rattle.answers.specs.Answers.{Found, found, refused}
use Rattle.rooms.proofs.Streams.{ok_err}
use Rattle.tokens.specs.Tokens.{Token, token_words, shown_by}
use Rattle.tokens.specs.declared.item.Item.TheVariants.{Word, Unknown}
use Rattle.tokens.specs.declared.Kind.{Kind}
use Rattle.tokens.specs.declared.Kind.TheVariants as kinds
use Rattle.tokens.specs.Items.{kind_at, number_at, item_at, shown_all, tokens_all}
use Rattle.tokens.proofs.Items.{item_by, item-by-kind, tokens-take, tokens-shown}
use Rattle.rooms.proofs.Clearing.{overlaid-front}
use Rattle.fonts.specs.Rows.{Font, table_words, ReadFonts}
use Rattle.fonts.specs.Fonts.{fonts}
use Rattle.colours.specs.Colours.{colours, ReadColours}
use Rattle.walk.specs.declared.Aim.{Aim}
use Rattle.walk.specs.declared.Aim.TheVariants.{Nothing, Hide, Fonts, Colours}
use Rattle.walk.specs.Walk.{aim, extent, group, table_word, font_table, colour_table}
use Rattle.walk.proofs.Walk.{group-word}
use Rattle.header.specs.declared.group.Entered.{Entered}
use Rattle.header.specs.Entering.{Tables, with_fonts, with_colours, read_step, onto}
use Rattle.header.specs.Entering.{opens, Holds, passed, FontsMet, ColoursMet, Met, Enters}
use Rattle.std.specs.Prelude.{Result, Ok, Err, Option}

module _ (ws : List ℕ) where
  pub opens-yes : kind_at ws ≡ kinds.Opening → true ≡ opens (item_at ws)
  opens-yes e = ap opens (item-by-kind ws e)

  pub opens-no : (kind_at ws ≡ kinds.Opening → ⊥) → false ≡ opens (item_at ws)
  opens-no h = go (kind_at ws) h ∙ ap opens (item-by-kind ws refl)
    where
      word : (u : Bool) (p n : ℕ) (num : Option ℕ) → false ≡ opens (cond u (Unknown p n num) (Word (get_or ws 1 0) num))
      word true p n num = refl
      word false p n num = refl

      go : (k : Kind) → (k ≡ kinds.Opening → ⊥) → false ≡ opens (item_by k ws)
      go kinds.Text n = refl
      go kinds.Opening n = absurd (n refl)
      go kinds.Closing n = refl
      go kinds.LineBreak n = refl
      go kinds.Ignorable n = refl
      go kinds.Word n = word (eqb (get_or ws 1 0) 49) (get_or ws 4 0) (get_or ws 5 0) (number_at ws)
      go kinds.Symbol n = refl

done-done : (n m : ℕ) → ◌≡◌ {A = Result ℕ Refusal} (Ok n) (Ok m) → n ≡ m
done-done n m e = cc

refused-refused : (q r : Refusal) → ◌≡◌ {A = Result ℕ Refusal} (Err q) (Err r) → q ≡ r
refused-refused q r e = cc

-- how long a group is, by what its tokens show
group-length : (src t : List ℕ) (n : ℕ) {h : ℕ} → h ≡ extent 1 (shown_all src n t) → h ≡ extent 1 (shown_by (tokens_all src n t))
group-length src t n e = e ∙ ap (extent 1) (sym (tokens-shown src n t))

-- the words of a group are its tokens
group-words : (src t : List ℕ) (n : ℕ) {h : ℕ} → h ≡ extent 1 (shown_all src n t) → h ≤ n → tokens_all src h (take (h * token_words) t) ≡ group (tokens_all src n t)
group-words src t n {h} e l = sym (tokens-take src h n t l) ∙ ap (λ (k : ℕ). take k (tokens_all src n t)) (group-length src t n e)

module _ (src t : List ℕ) (n : ℕ) {late : Bool} (limit held : ℕ) (room : List ℕ) where
  module _ (l : late ≡ false) {h : ℕ} (a : h ≡ extent 1 (shown_all src n t)) (b : h ≤ n) (o : Result ℕ Refusal) where
    module _ (room₀ : List ℕ) (r : ReadFonts (fonts limit (tokens_all src h (take (h * token_words) t))) room₀ o room) where
      fonts-told : ReadFonts (fonts limit (group (tokens_all src n t))) room₀ o room
      fonts-told = rw (← (group-words src t n a b)) r

      pub fonts-read : {k : ℕ} → o ≡ Ok k
          → FontsMet late (table_word (tokens_all src n t)) (fonts limit (group (tokens_all src n t))) held (extent 1 (shown_by (tokens_all src n t))) (onto k held h) room × (h ≤ n)
      fonts-read {k} e = (rw l (go (fonts limit (group (tokens_all src n t))) (rw e at fonts-told)), b)
        where
          go : (x : Found (List Font)) → ReadFonts x room₀ (Ok k) room → FontsMet false (table_word (tokens_all src n t)) x held (extent 1 (shown_by (tokens_all src n t))) (onto k held h) room
          go (found fs) y = let d : k ≡ length fs = done-done k (length fs) y.0 in (rw (d, ← (group-length src t n a)) refl, rw y.1 (overlaid-front (table_words fs) room₀))
          go (refused q) y = absurd (ok_err y)

      pub fonts-bad : {q : Refusal} → o ≡ Err q
          → FontsMet late (table_word (tokens_all src n t)) (fonts limit (group (tokens_all src n t))) held (extent 1 (shown_by (tokens_all src n t))) (Err q) room × (0 ≤ n)
      fonts-bad {q} e = (rw l (go (fonts limit (group (tokens_all src n t))) (rw e at fonts-told)), omega arith)
        where
          go : (x : Found (List Font)) → ReadFonts x room₀ (Err q) room → FontsMet false (table_word (tokens_all src n t)) x held (extent 1 (shown_by (tokens_all src n t))) (Err q) room
          go (found fs) y = absurd (ok_err (sym y.0))
          go (refused p) y = ap Err (refused-refused q p y)

    module _ (room₀ : List ℕ) (r : ReadColours (colours limit (tokens_all src h (take (h * token_words) t))) room₀ o room) where
      colours-told : ReadColours (colours limit (group (tokens_all src n t))) room₀ o room
      colours-told = rw (← (group-words src t n a b)) r

      pub colours-read : {k : ℕ} → o ≡ Ok k → ColoursMet late (table_word (tokens_all src n t)) (colours limit (group (tokens_all src n t))) held (extent 1 (shown_by (tokens_all src n t))) (onto held k h) room
      colours-read {k} e = rw l (go (colours limit (group (tokens_all src n t))) (rw e at colours-told))
        where
          go : (x : Found (List ℕ)) → ReadColours x room₀ (Ok k) room → ColoursMet false (table_word (tokens_all src n t)) x held (extent 1 (shown_by (tokens_all src n t))) (onto held k h) room
          go (found cs) y = let d : k ≡ length cs = done-done k (length cs) y.0 in (rw (d, ← (group-length src t n a)) refl, rw y.1 (overlaid-front cs room₀))
          go (refused q) y = absurd (ok_err y)

      pub colours-bad : {q : Refusal} → o ≡ Err q → ColoursMet late (table_word (tokens_all src n t)) (colours limit (group (tokens_all src n t))) held (extent 1 (shown_by (tokens_all src n t))) (Err q) room
      colours-bad {q} e = rw l (go (colours limit (group (tokens_all src n t))) (rw e at colours-told))
        where
          go : (x : Found (List ℕ)) → ReadColours x room₀ (Err q) room → ColoursMet false (table_word (tokens_all src n t)) x held (extent 1 (shown_by (tokens_all src n t))) (Err q) room
          go (found cs) y = absurd (ok_err (sym y.0))
          go (refused p) y = ap Err (refused-refused q p y)

-- the tokens behind a bracket, and the rooms before and after
module _ (f c : ℕ) (src ws : List ℕ) (n nf nc : ℕ) (fs cs : List ℕ) {a : Aim} (q : a ≡ aim (shown_all src n ws)) where
  abbrev ts : List Token
  ts = tokens_all src n ws

  e : a ≡ aim (shown_by ts)
  e = q ∙ ap aim (sym (tokens-shown src n ws))

  same_tables : (h : ℕ) (s : Tables) → Holds s nf nc fs cs → Met (found s) h (onto nf nc h) fs cs
  same_tables h s k = (rw (k.font_count, k.colour_count) refl, k.font_front, k.colour_front)

  pub enter-nothing : a ≡ Nothing → Enters f c ts nf nc fs cs (onto nf nc 0) fs cs × (0 ≤ n)
  enter-nothing d = ((λ t s k. rw (sym e ∙ d) (same_tables 0 s k)), omega arith)

  pub enter-hide : a ≡ Hide → {h : ℕ} → h ≡ extent 1 (shown_all src n ws) → h ≤ n → Enters f c ts nf nc fs cs (onto nf nc h) fs cs × (h ≤ n)
  enter-hide d {h} x l = ((λ t s k. rw (sym e ∙ d, ← (group-length src ws n x)) (same_tables h s k)), l)

  module _ {late : Bool} (r : Result Entered Refusal) where
    pub enter-fonts : (fs' : List ℕ) → a ≡ Fonts late → FontsMet late (table_word ts) (fonts f (group ts)) nc (extent 1 (shown_by ts)) r fs' × (passed r ≤ n)
        → Enters f c ts nf nc fs cs r fs' cs × (passed r ≤ n)
    enter-fonts fs' d m = ((λ t s k. rw (sym e ∙ d) (by-late late s k m.0)), m.1)
      where
        go : (x : Found (List Font)) (s : Tables) → Holds s nf nc fs cs → FontsMet false (table_word ts) x nc (extent 1 (shown_by ts)) r fs' → Met (with_fonts s x) (extent 1 (shown_by ts)) r fs' cs
        go (found gs) s k y = (rw (← k.colour_count) y.0, y.1, k.colour_front)
        go (refused q) s k y = y

        by-late : (t : Bool) (s : Tables) → Holds s nf nc fs cs → FontsMet t (table_word ts) (fonts f (group ts)) nc (extent 1 (shown_by ts)) r fs'
            → Met (read_step f c (font_table t (group ts)) s) (extent 1 (shown_by ts)) r fs' cs
        by-late true s k y = rw (group-word ts) y
        by-late false s k y = go (fonts f (group ts)) s k y

    pub enter-colours : (cs' : List ℕ) → a ≡ Colours late → ColoursMet late (table_word ts) (colours c (group ts)) nf (extent 1 (shown_by ts)) r cs' × (passed r ≤ n)
        → Enters f c ts nf nc fs cs r fs cs' × (passed r ≤ n)
    enter-colours cs' d m = ((λ t s k. rw (sym e ∙ d) (by-late late s k m.0)), m.1)
      where
        go : (x : Found (List ℕ)) (s : Tables) → Holds s nf nc fs cs → ColoursMet false (table_word ts) x nf (extent 1 (shown_by ts)) r cs' → Met (with_colours s x) (extent 1 (shown_by ts)) r fs cs'
        go (found gs) s k y = (rw (← k.font_count) y.0, k.font_front, y.1)
        go (refused q) s k y = y

        by-late : (t : Bool) (s : Tables) → Holds s nf nc fs cs → ColoursMet t (table_word ts) (colours c (group ts)) nf (extent 1 (shown_by ts)) r cs'
            → Met (read_step f c (colour_table t (group ts)) s) (extent 1 (shown_by ts)) r fs cs'
        by-late true s k y = rw (group-word ts) y
        by-late false s k y = go (colours c (group ts)) s k y
