-- The loop over a letter's tokens, in the terms of the code.
--     walking_start, -stay, -on, -bad, -end   one law for each way through the loop
-- Assumes nothing.
use mathlib.Core.Path.{◌≡◌, refl, sym, ap, ◌∙◌}
use mathlib.Core.List.{List}
use mathlib.Core.Bool.{Bool, true, false, false≢true}
use Prim.Native.Nat.{ℕ, ◌+◌, ◌-◌, ◌*◌, ◌≤◌, ◌<◌}
use native.Mathlib.Omega.{arith}
use lib.ListN.{length, get_or, drop, length-take, length-drop}
use Rattle.answers.specs.declared.Refusal.{Refusal}
use Rattle.answers.specs.Answers.{Found, found, refused}
use Rattle.rooms.specs.Rooms.{table_limit}
use Rattle.tokens.specs.Tokens.{Token, token, shown_words, token_words, shown_by}
use Rattle.tokens.specs.declared.item.Item.{Item}
use Rattle.tokens.specs.declared.item.Item.TheVariants.{Text, Opening, Closing, LineBreak, Ignorable, Word, Unknown, Symbol}
use Rattle.tokens.specs.Items.{item_at, shown_of, slice_at, token_at, tokens_all}
use Rattle.tokens.proofs.Items.{rest, words-less, tokens_none, tokens-some, tokens-drop}
use Rattle.fonts.specs.Rows.{table_words, font_words}
use Rattle.walk.specs.Walk.{aim, entered, entered_length, step_of, passed_by, walk}
use Rattle.walk.proofs.Walk.{walk_end, walk-one}
use Rattle.header.specs.declared.group.Entered.{Entered}
use Rattle.header.specs.Entering.{Tables, read_step, onto}
use Rattle.header.specs.Header.{no_tables, tables_from, tables, InFronts, counted}
use Rattle.header.specs.Entering.{opens, Holds, passed, Met, Enters}
use Rattle.header.proofs.Tables.{tables-refused}
use Rattle.colours.specs.Colours.{colour_words}
use Rattle.std.specs.Prelude.{Result, Err}
use Rattle.rooms.proofs.Streams.{ok-same}

-- what the whole letter gives
abbrev whole : List ℕ → List ℕ → ℕ → List ℕ → List ℕ → Found Tables
whole src tokens count fs cs = tables (table_limit font_words (length fs)) (table_limit colour_words (length cs)) (walk (tokens_all src count tokens))

-- what the steps of tokens make of tables
abbrev onward : List ℕ → List ℕ → Found Tables → List Token → Found Tables
onward fs cs x ts = tables_from (table_limit font_words (length fs)) (table_limit colour_words (length cs)) x (walk ts)

-- the tokens behind the first
abbrev behind : List ℕ → ℕ → List ℕ → List Token
behind src n t = tokens_all src (n - 1) (rest t token_words)

-- what one token makes of tables, those behind it given; what a group does, and how far it goes
abbrev stepped : List ℕ → List ℕ → Token → List Token → Tables → Found Tables
stepped fs cs x ts s = read_step (table_limit font_words (length fs)) (table_limit colour_words (length cs)) (step_of x ts) s

abbrev group_step : List ℕ → List ℕ → Token → List Token → Tables → Found Tables
group_step fs cs t ts s = read_step (table_limit font_words (length fs)) (table_limit colour_words (length cs)) (entered (aim (shown_by ts)) t ts) s

abbrev group_length : List Token → ℕ
group_length ts = entered_length (aim (shown_by ts)) (shown_by ts)

-- a token by its item, with the slice that its words have
abbrev token_by : List ℕ → List ℕ → Item → Token
token_by src t i = token (slice_at t) (get_or t (shown_words + 1) 0) (shown_of src i)

-- what is left, from the tables in the rooms, gives the whole result
pub record Walking (src tokens : List ℕ) (count : ℕ) (fonts₀ colours₀ fs cs t : List ℕ) (n nf nc : ℕ) : Type 0 where
  pub state : Tables
  pub words : n * token_words ≤ length t
  pub few : n ≤ 65536
  pub fonts_long : length fs ≡ length fonts₀
  pub colours_long : length cs ≡ length colours₀
  pub holds : Holds state nf nc fs cs
  pub left : onward fonts₀ colours₀ (found state) (tokens_all src n t) ≡ whole src tokens count fonts₀ colours₀

pub walking_start : (src tokens : List ℕ) (count : ℕ) (fs cs : List ℕ) → (count * token_words ≤ length tokens) × (count ≤ 65536)
    → Walking src tokens count fs cs fs cs tokens count 0 0
unfolding table_words
walking_start src tokens count fs cs h =
    record {
      state = no_tables;
      words = h.0;
      few = h.1;
      fonts_long = refl;
      colours_long = refl;
      holds = record { font_count = refl; colour_count = refl; font_front = refl; colour_front = refl };
      left = refl;
    }

opening_of : (i : Item) → opens i ≡ true → i ≡ Opening
opening_of Opening e = refl
opening_of Closing e = absurd (false≢true e)
opening_of LineBreak e = absurd (false≢true e)
opening_of Ignorable e = absurd (false≢true e)
opening_of (Text p n) e = absurd (false≢true e)
opening_of (Word w num) e = absurd (false≢true e)
opening_of (Unknown p n num) e = absurd (false≢true e)
opening_of (Symbol b num) e = absurd (false≢true e)

-- the step of a token that is no opening bracket
passes : (f c : ℕ) (s : Tables) (src t : List ℕ) (ts : List Token) (i : Item) → opens i ≡ false
    → tables_from f c (read_step f c (step_of (token_by src t i) ts) s) (walk (drop (passed_by (shown_of src i) (shown_by ts)) ts)) ≡ tables_from f c (found s) (walk ts)
passes f c s src t ts Opening e = absurd (false≢true (sym e))
passes f c s src t ts Closing e = refl
passes f c s src t ts LineBreak e = refl
passes f c s src t ts Ignorable e = refl
passes f c s src t ts (Text p n) e = refl
passes f c s src t ts (Word w num) e = refl
passes f c s src t ts (Unknown p n num) e = refl
passes f c s src t ts (Symbol b num) e = refl

on-bad : {a b h : ℕ} {q : Refusal} → onto a b h ≡ Err q → ⊥
on-bad e = let z : ◌≡◌ {A = ℕ} 0 1 = cc in omega arith

bad-bad : (q r : Refusal) → ◌≡◌ {A = Result Entered Refusal} (Err q) (Err r) → q ≡ r
bad-bad q r e = cc

-- the words of the tokens behind the first h
words-behind : (n h : ℕ) (ws : List ℕ) → n * token_words ≤ length ws → h ≤ n → (n - h) * token_words ≤ length (rest ws (h * token_words))
words-behind n h ws k l = simp (length-take, length-drop) (omega arith)

module _ {a b h a' b' h' : ℕ} (e : onto a b h ≡ onto a' b' h') where
  on-fonts : a ≡ a'
  on-fonts = ap (λ (x : Entered). x.fonts) (ok-same _ _ e)

  on-colours : b ≡ b'
  on-colours = ap (λ (x : Entered). x.colours) (ok-same _ _ e)

  on-passed : h ≡ h'
  on-passed = ap (λ (x : Entered). x.passed) (ok-same _ _ e)

module _ {src tokens : List ℕ} {count : ℕ} {fonts₀ colours₀ fs cs t : List ℕ} {n nf nc : ℕ}
    (w : Walking src tokens count fonts₀ colours₀ fs cs t n nf nc) where
  -- no token is left
  pub walking-end : n ≤ 0 → InFronts (whole src tokens count fonts₀ colours₀) (counted nf nc) fs cs
  unfolding tables_from
  walking-end z =
      let e : found w.state ≡ whole src tokens count fonts₀ colours₀ = rw (tokens_none src n t z, walk_end) at w.left in
      rw (← e) (rw (w.holds.font_count, w.holds.colour_count) refl, w.holds.font_front, w.holds.colour_front)

  module _ (z : 0 < n) {b : Bool} (o : b ≡ opens (item_at t)) where
    one_on : (i : Item) → item_at t ≡ i
        → onward fonts₀ colours₀ (stepped fonts₀ colours₀ (token_by src t i) (behind src n t) w.state) (drop (passed_by (shown_of src i) (shown_by (behind src n t))) (behind src n t))
        ≡ whole src tokens count fonts₀ colours₀
    unfolding tables_from
    one_on i e = rw (← e) (rw (tokens-some src n t z, walk-one (token_at src t) (behind src n t)) at w.left)

    -- a token that is no opening bracket
    pub walking-stay : b ≡ false → Walking src tokens count fonts₀ colours₀ fs cs (rest t token_words) (n - 1) nf nc
    walking-stay e =
        record {
          state = w.state;
          words = words-less n t w.words;
          few = let k : n ≤ 65536 = w.few in omega arith;
          fonts_long = w.fonts_long;
          colours_long = w.colours_long;
          holds = w.holds;
          left = sym (passes _ _ w.state src t (behind src n t) (item_at t) (sym o ∙ e)) ∙ one_on (item_at t) refl;
        }

    -- an opening bracket, and what entering its group answered
    module _ (y : b ≡ true) (r : Result Entered Refusal) (fs' cs' : List ℕ)
        (m : Enters (table_limit font_words (length fs)) (table_limit colour_words (length cs)) (behind src n t) nf nc fs cs r fs' cs' × (passed r ≤ n - 1)) where
      module _ {f c h : ℕ} (e : r ≡ onto f c h) where
        on-within : h ≤ n - 1
        on-within = rw e at m.1

      into : onward fonts₀ colours₀ (group_step fonts₀ colours₀ (token_by src t Opening) (behind src n t) w.state) (drop (group_length (behind src n t)) (behind src n t))
          ≡ whole src tokens count fonts₀ colours₀
      into = one_on Opening (opening_of (item_at t) (sym o ∙ y))

      answered : Met (group_step fonts₀ colours₀ (token_by src t Opening) (behind src n t) w.state) (group_length (behind src n t)) r fs' cs'
      answered = rw (w.fonts_long, w.colours_long) at (m.0 (token_by src t Opening) w.state w.holds)

      pub walking-bad : {q : Refusal} → r ≡ Err q → InFronts (whole src tokens count fonts₀ colours₀) (Err q) fs' cs'
      walking-bad {q} e = go (group_step fonts₀ colours₀ (token_by src t Opening) (behind src n t) w.state) (rw e at answered) into
        where
          go : (x : Found Tables) → Met x (group_length (behind src n t)) (Err q) fs' cs'
              → onward fonts₀ colours₀ x (drop (group_length (behind src n t)) (behind src n t)) ≡ whole src tokens count fonts₀ colours₀
              → InFronts (whole src tokens count fonts₀ colours₀) (Err q) fs' cs'
          go (found s) u v = absurd (on-bad (sym u.0))
          go (refused p) u v =
              let d : refused p ≡ whole src tokens count fonts₀ colours₀ = sym (tables-refused _ _ p _) ∙ v in
              rw (← d) (ap Err (bad-bad q p u))

      pub walking_on : length fs' ≡ length fs → length cs' ≡ length cs → {f c h : ℕ} → r ≡ onto f c h
          → Walking src tokens count fonts₀ colours₀ fs' cs' (rest (rest t token_words) (h * token_words)) (n - 1 - h) f c
      walking_on kf kc {f} {c} {h} e = go (group_step fonts₀ colours₀ (token_by src t Opening) (behind src n t) w.state) (rw e at answered) into
        where
          l : h ≤ n - 1
          l = on-within e

          go : (x : Found Tables) → Met x (group_length (behind src n t)) (onto f c h) fs' cs'
              → onward fonts₀ colours₀ x (drop (group_length (behind src n t)) (behind src n t)) ≡ whole src tokens count fonts₀ colours₀
              → Walking src tokens count fonts₀ colours₀ fs' cs' (rest (rest t token_words) (h * token_words)) (n - 1 - h) f c
          go (found s) u v =
              record {
                state = s;
                words = words-behind (n - 1) h (rest t token_words) (words-less n t w.words) l;
                few = let j : n ≤ 65536 = w.few in omega arith;
                fonts_long = kf ∙ w.fonts_long;
                colours_long = kc ∙ w.colours_long;
                holds = record { font_count = on-fonts u.0; colour_count = on-colours u.0; font_front = u.1; colour_front = u.2 };
                left = rw (← (tokens-drop src h (n - 1) (rest t token_words) l), on-passed u.0) v;
              }
          go (refused p) u v = absurd (on-bad u)
