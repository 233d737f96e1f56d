-- Groups that the walk passes over, and what the token does that words start with.
--     group-.., passed-..      how many tokens the walk passes over behind a bracket, and behind a token
--     act-parts, act-kept      a token by whether the walk passes over what stands behind it
--     at-step                  the token that words start with, by the same
-- Assumes nothing.
use mathlib.Core.Path.{◌≡◌, refl, ◌∙◌}
use mathlib.Core.List.{List, [], ◌∷◌}
use mathlib.Core.Bool.{Bool, true, false, cond}
use Prim.Native.Nat.{ℕ, zero, suc, ◌-◌, ◌<◌, ◌≤◌}
use native.Mathlib.Omega.{arith}
use borrow.Author.Tests.{ltb-true, ltb-false, ne_eqb, eqb-true, eqb-false}
use lib.ListN.{get_or}
use lib.Dec.{eqb, ltb}
use Rattle.readings.specs.declared.Reading.{Reading}
use Rattle.tokens.specs.declared.item.Item.TheVariants.{Text, Closing, LineBreak, Ignorable, Word, Unknown, Symbol}
use Rattle.tokens.specs.Tokens.{Shown, Token, slice_of, shown_in, token_words, shown_by}
use Rattle.tokens.specs.Items.{item_at, item_of, number_at, shown_of, shown_all, slice_at, token_at}
use Rattle.tokens.proofs.Items.{rest, shown-some}
use Rattle.walk.specs.declared.Aim.{Aim}
use Rattle.walk.specs.declared.Aim.TheVariants.{Nothing, Hide, Fonts, Colours}
use Rattle.walk.specs.Walk.{aim_from, aim, level, extent, entered, entered_length, step_by, step_of, passed_by}
use Rattle.machine.specs.Machine.{at, parts}
use Rattle.deeds.specs.Deeds.{token_deed}
use Rattle.body.specs.Body.{act_of}
use Rattle.deeds.specs.Turns.{deed_at}

-- groups
module _ (ts : List Shown) {a : Aim} where
  pub group-none : a ≡ aim ts → a ≡ Nothing → 0 ≡ entered_length (aim ts) ts
  group-none e f = rw (← e, f)

  pub group-hidden : {r : ℕ} → a ≡ aim ts → a ≡ Hide → r ≡ extent 1 ts → r ≡ entered_length (aim ts) ts
  group-hidden e f g = g ∙ rw (← e, f)

  pub group-fonts : {r : ℕ} {late : Bool} → a ≡ aim ts → a ≡ Fonts late → r ≡ extent 1 ts → r ≡ entered_length (aim ts) ts
  group-fonts e f g = g ∙ rw (← e, f)

  pub group-colours : {r : ℕ} {late : Bool} → a ≡ aim ts → a ≡ Colours late → r ≡ extent 1 ts → r ≡ entered_length (aim ts) ts
  group-colours e f g = g ∙ rw (← e, f)

-- the first of the tokens behind a bracket
module _ (src ws : List ℕ) (n : ℕ) where
  pub group-end : n ≡ 0 → 0 ≡ entered_length (aim (shown_all src n ws)) (shown_all src n ws)
  unfolding shown_all aim_from
  group-end e = rw e refl

  -- a text or a bracket
  aim-plain : (k w has num p c : ℕ) (ts : List Shown) → k < 3 → aim_from false (shown_of src (item_of k w has num p c) ∷ ts) ≡ Nothing
  unfolding aim_from item_of
  aim-plain k w has num p c ts l = go k l
    where
      go : (j : ℕ) → j < 3 → aim_from false (shown_of src (item_of j w has num p c) ∷ ts) ≡ Nothing
      go zero l = refl
      go (suc zero) l = refl
      go (suc (suc zero)) l = refl
      go (suc (suc (suc j))) l = absurd (omega arith)

  pub group-plain : (n ≡ 0 → ⊥) → get_or ws 0 0 < 3 → 0 ≡ entered_length (aim (shown_all src n ws)) (shown_all src n ws)
  unfolding item_at
  group-plain z l =
      let s : shown_all src n ws ≡ shown_of src (item_at ws) ∷ shown_all src (n - 1) (rest ws token_words) = shown-some src n ws (omega arith) in
      rw (s, aim-plain (get_or ws 0 0) (get_or ws 1 0) (get_or ws 2 0) (get_or ws 3 0) (get_or ws 4 0) (get_or ws 5 0) (shown_all src (n - 1) (rest ws token_words)) l) refl

-- the first token, and those that the walk passes over behind it
module _ (src ws : List ℕ) (ts : List Shown) where
  pub passed_none : (get_or ws 0 0 ≡ 1 → ⊥) → 0 ≡ passed_by (shown_of src (item_at ws)) ts
  unfolding item_at item_of
  passed_none n = rw (ne_eqb (get_or ws 0 0) 1 n) (go (eqb (get_or ws 0 0) 2) (eqb (get_or ws 0 0) 3) (eqb (get_or ws 0 0) 4) (eqb (get_or ws 0 0) 5) (eqb (get_or ws 1 0) 49) (eqb (get_or ws 0 0) 6))
    where
      go : (b c d e u f : Bool)
          → 0 ≡ passed_by (shown_of src (cond b Closing (cond c LineBreak (cond d Ignorable (cond e (cond u (Unknown (get_or ws 4 0) (get_or ws 5 0) (number_at ws)) (Word (get_or ws 1 0) (number_at ws))) (cond f (Symbol (get_or ws 1 0) (number_at ws)) (Text (get_or ws 4 0) (get_or ws 5 0)))))))) ts
      go true c d e u f = refl
      go false true d e u f = refl
      go false false true e u f = refl
      go false false false true true f = refl
      go false false false true false f = refl
      go false false false false u true = refl
      go false false false false u false = refl

  -- where some are passed over, the first is an opening bracket
  pub passed-open : {h : ℕ} → h ≡ passed_by (shown_of src (item_at ws)) ts → 0 < h → get_or ws 0 0 ≡ 1
  passed-open {h} e z = go (eqb (get_or ws 0 0) 1) refl
    where
      go : (b : Bool) → eqb (get_or ws 0 0) 1 ≡ b → get_or ws 0 0 ≡ 1
      go true q = eqb-true (get_or ws 0 0) 1 q
      go false q = let o : 0 ≡ passed_by (shown_of src (item_at ws)) ts = passed_none (eqb-false (get_or ws 0 0) 1 q) in absurd (omega (arith, o, e, z))

  pub passed-group : (r : ℕ) → get_or ws 0 0 ≡ 1 → r ≡ entered_length (aim ts) ts → r ≡ passed_by (shown_of src (item_at ws)) ts
  unfolding item_at item_of
  passed-group r e h = h ∙ rw e refl

-- a group that has tokens ends behind them
extent-some : (t : Shown) (ts : List Shown) → 0 < extent 1 (t ∷ ts)
unfolding extent
extent-some t ts = go (eqb (level t 1) 0)
  where
    go : (u : Bool) → 0 < cond u 1 (suc (extent (level t 1) ts))
    go true = omega arith
    go false = omega arith

-- what a bracket begins, by how many tokens are passed over
module _ (rd : Reading) where
  entered-parts : (t : Token) (ts : List Token) (a : Aim) → 0 < entered_length a (shown_by ts) → at 0 parts ≡ act_of rd (entered a t ts)
  entered-parts t ts Nothing h = absurd (omega arith)
  entered-parts t ts Hide h = refl
  entered-parts t ts (Fonts late) h = refl
  entered-parts t ts (Colours late) h = refl

  entered-some : (t u : Token) (ts : List Token) (a : Aim) → entered_length a (shown_by (u ∷ ts)) ≤ 0 → at (slice_of t) (token_deed rd (shown_in t)) ≡ act_of rd (entered a t (u ∷ ts))
  unfolding shown_by
  entered-some t u ts Nothing h = refl
  entered-some t u ts Hide h = let s = extent-some (shown_in u) (shown_by ts) in absurd (omega arith)
  entered-some t u ts (Fonts late) h = let s = extent-some (shown_in u) (shown_by ts) in absurd (omega arith)
  entered-some t u ts (Colours late) h = let s = extent-some (shown_in u) (shown_by ts) in absurd (omega arith)

  entered-kept : (t : Token) (ts : List Token) → entered_length (aim (shown_by ts)) (shown_by ts) ≤ 0 → at (slice_of t) (token_deed rd (shown_in t)) ≡ act_of rd (entered (aim (shown_by ts)) t ts)
  unfolding aim_from shown_by
  entered-kept t [] h = refl
  entered-kept t (u ∷ ts) h = entered-some t u ts (aim (shown_by (u ∷ ts))) h

  act-parts : (x : Shown) (t : Token) (ts : List Token) {h : ℕ} → 0 < h → h ≡ passed_by x (shown_by ts) → at 0 parts ≡ act_of rd (step_by x t ts)
  act-parts Shown.opening t ts z e = entered-parts t ts (aim (shown_by ts)) (rw e at z)
  act-parts Shown.closing t ts z e = absurd (omega arith)
  act-parts Shown.line_break t ts z e = absurd (omega arith)
  act-parts Shown.ignorable t ts z e = absurd (omega arith)
  act-parts (Shown.text p bs) t ts z e = absurd (omega arith)
  act-parts (Shown.word w num) t ts z e = absurd (omega arith)
  act-parts (Shown.unknown p bs num) t ts z e = absurd (omega arith)
  act-parts (Shown.symbol b num) t ts z e = absurd (omega arith)

  act-kept : (x : Shown) (t : Token) (ts : List Token) {h : ℕ} → h ≤ 0 → h ≡ passed_by x (shown_by ts) → at (slice_of t) (token_deed rd (shown_in t)) ≡ act_of rd (step_by x t ts)
  act-kept Shown.opening t ts z e = entered-kept t ts (rw e at z)
  act-kept Shown.closing t ts z e = refl
  act-kept Shown.line_break t ts z e = refl
  act-kept Shown.ignorable t ts z e = refl
  act-kept (Shown.text p bs) t ts z e = refl
  act-kept (Shown.word w num) t ts z e = refl
  act-kept (Shown.unknown p bs num) t ts z e = refl
  act-kept (Shown.symbol b num) t ts z e = refl

-- the act of the token that words start with: what is passed over has no place
module _ (rd : Reading) (src ws : List ℕ) where
  pub at-step : (ts : List Token) (h : ℕ) → h ≡ passed_by (shown_of src (item_at ws)) (shown_by ts)
      → at (cond (ltb 0 h) 0 (slice_at ws)) (deed_at rd src ws h) ≡ act_of rd (step_of (token_at src ws) ts)
  unfolding deed_at
  at-step ts h e = go (ltb 0 h) refl
    where
      go : (b : Bool) → ltb 0 h ≡ b → at (cond b 0 (slice_at ws)) (cond b parts (token_deed rd (shown_of src (item_at ws)))) ≡ act_of rd (step_of (token_at src ws) ts)
      go true q = act-parts rd (shown_of src (item_at ws)) (token_at src ws) ts (ltb-true 0 h q) e
      go false q = act-kept rd (shown_of src (item_at ws)) (token_at src ws) ts (ltb-false 0 h q) e
