-- What the body says: pieces that a stored block can be made of.
--     walk_fine           the walk keeps tokens as they are
--     acts-fine           what they do: texts are whole, and settings keep the ranges of a row
--     left-fine           so does what is left of it where characters are passed over
--     moved-sound         so all rows of the stack keep them
--     machine-storable    and all that is said is such a piece, what a run of units gives too, since any number is written as a character
--     body-storable       the pieces of the body
-- Assumes nothing.
use mathlib.Core.Path.{◌≡◌, refl, sym, ap, ◌∙◌}
use mathlib.Core.List.{List, [], ◌∷◌, ◌++◌, append-nil}
use mathlib.Core.Bool.{Bool, true, false, cond}
use Prim.Native.Nat.{ℕ, zero, suc, ◌<◌}
use native.Mathlib.Omega.{arith}
use lib.ListN.{length, drop}
use lib.Dec.{eqb}
use Rattle.answers.specs.declared.Refusal.{Refusal}
use Rattle.answers.specs.declared.Why.TheVariants.{TooDeep}
use Rattle.answers.specs.Answers.{Fate, becomes, fails}
use Rattle.classes.specs.Bytes.{any, is_high}
use Rattle.rooms.specs.Streams.{Stream, end}
use Rattle.rooms.proofs.Streams.{Each}
use Rattle.tokens.specs.Tokens.{Shown, Token, shown_in, shown_by, value_of}
use Rattle.tokens.specs.WordNumbers as words
use Rattle.utf8.specs.Utf8.{is_scalar, utf8, written}
use Rattle.utf8.proofs.Utf8.{length-written}
use Rattle.units.specs.declared.Run.{Run}
use Rattle.units.specs.declared.Gave.{Gave}
use Rattle.units.specs.Units.{before, values}
use Rattle.wellformed.specs.WellFormed.{is_utf8}
use Rattle.wellformed.proofs.WellFormed.{utf8-empty, utf8-ascii, utf8-one}
use Rattle.readings.specs.declared.Reading.{Reading}
use Rattle.readings.specs.declared.Reading.TheVariants.{Plain}
use Rattle.styles.specs.Styles.{style_words, flush}
use Rattle.fields.specs.Fields.{in_range}
use Rattle.blocks.specs.Pages.{Piece}
use Rattle.walk.specs.declared.Aim.{Aim}
use Rattle.walk.specs.declared.Aim.TheVariants.{Nothing, Hide, Fonts, Colours}
use Rattle.walk.specs.Walk.{aim, Step, kept, hidden, font_table, colour_table, entered, step_by, steps_at, left_at, passed_by}
use Rattle.walk.specs.Walk.{walk_from, walk}
use Rattle.settings.specs.Fields.{Setting, fresh_row}
use Rattle.settings.specs.Effects.{Effect, effect}
use Rattle.settings.specs.Effects as does
use Rattle.machine.specs.Stack.{stack_limit, moved, stack_of}
use Rattle.machine.specs.Machine.{Deed, Act, at, opens, closes, sets, says, tells, unit, refuses, parts, stops, passes}
use Rattle.machine.specs.Machine.{ended, gave, texts_of, tells_rest, left, owed_behind, written_all}
use Rattle.machine.specs.Machine.{◌▸▸◌, onward, settle, move_of, spoken, said, step_of, owes_of, machine}
use Rattle.runs.specs.Runs.{rows, steps_by}
use Rattle.deeds.specs.Deeds.{doing, symbol_effect, token_deed}
use Rattle.body.specs.Body.{act_of, acts, body}
use Rattle.roundtrips.specs.Trips.{Words}
use Rattle.previews.proofs.Tokens.{All, low-drop, Fine, FineIn}
use Rattle.previews.proofs.States.{Sound, SoundEffect, fresh-sound, all_sound, either, effect-sound, sound-range, sound-words, sound-flush}
use Rattle.std.specs.Prelude.{Option}

-- ---- the walk

abbrev FineStep : Step → Type 0
FineStep (kept t) = FineIn t
FineStep hidden = Unit {0}
FineStep (font_table late ts) = Unit {0}
FineStep (colour_table late ts) = Unit {0}

module _ (t : Token) (ts : List Token) (h : FineIn t) where
  entered-fine : (a : Aim) → FineStep (entered a t ts)
  entered-fine Nothing = h
  entered-fine Hide = tt
  entered-fine (Fonts late) = tt
  entered-fine (Colours late) = tt

  step-fine : (x : Shown) → FineStep (step_by x t ts)
  step-fine Shown.opening = entered-fine (aim (shown_by ts))
  step-fine Shown.closing = h
  step-fine Shown.line_break = h
  step-fine Shown.ignorable = h
  step-fine (Shown.text p bs) = h
  step-fine (Shown.word w num) = h
  step-fine (Shown.unknown p bs num) = h
  step-fine (Shown.symbol b num) = h

walk_fine : (ts : List Token) (w : ℕ) → All FineIn ts → All FineStep (walk_from w ts)
unfolding walk_from
walk_fine [] w h = tt
walk_fine (t ∷ ts) w h = go w (λ k. walk_fine ts k h.1)
  where
    go : (w : ℕ) → ((k : ℕ) → All FineStep (walk_from k ts)) → All FineStep (steps_at w t ts ++ walk_from (left_at w (shown_in t) (shown_by ts)) ts)
    go zero more = (step-fine t ts h.0 (shown_in t), more (passed_by (shown_in t) (shown_by ts)))
    go (suc k) more = more k

-- ---- texts

-- "Text is not empty, whole UTF-8"
pub record Whole (bs : List ℕ) : Type 0 where
  pub some : 0 < length bs
  pub utf8 : is_utf8 bs ≡ true

one-utf8 : (c : ℕ) → is_scalar c ≡ true → is_utf8 (utf8 c) ≡ true
one-utf8 c h = ap is_utf8 (sym (append-nil (utf8 c))) ∙ utf8-one c [] h ∙ utf8-empty

-- a character; what is none is written as U+FFFD
written-utf8 : (c : ℕ) → is_utf8 (written c) ≡ true
unfolding written
written-utf8 c = go (is_scalar c) refl
  where
    go : (t : Bool) → is_scalar c ≡ t → is_utf8 (cond t (utf8 c) (utf8 65533)) ≡ true
    go true e = one-utf8 c e
    go false e = one-utf8 65533 refl

written-whole : (c : ℕ) → Whole (written c)
written-whole c = record { some = (length-written c).0; utf8 = written-utf8 c }

written_all-whole : (cs : List ℕ) → All Whole (written_all cs)
unfolding written_all
written_all-whole [] = tt
written_all-whole (c ∷ cs) = (written-whole c, written_all-whole cs)

both-whole : (a b : List (List ℕ)) → All Whole a → All Whole b → All Whole (a ++ b)
both-whole [] b h k = k
both-whole (x ∷ a) b h k = (h.0, both-whole a b h.1 k)

module _ (rd : Reading) where
  -- ---- what a token does

  -- settings that keep the ranges of a row, text that is whole; a text of the source has no byte above 127, so that what is left of it is whole too
  abbrev FineDeed : Deed Setting → Type 0
  FineDeed (sets ss) = (r : List ℕ) → Sound rd r → Sound rd (settle rows ss r)
  FineDeed (says bs) = Whole bs
  FineDeed (tells bs) = (0 < length bs) × (any is_high bs ≡ false)
  FineDeed opens = Unit {0}
  FineDeed closes = Unit {0}
  FineDeed (unit num) = Unit {0}
  FineDeed (refuses why) = Unit {0}
  FineDeed parts = Unit {0}
  FineDeed (stops why) = Unit {0}
  FineDeed passes = Unit {0}

  -- at whatever place
  abbrev FineAct : Act Setting → Type 0
  FineAct (at p d) = FineDeed d

  doing-fine : (e : Effect) → SoundEffect rd e → FineDeed (doing e)
  doing-fine (does.sets ss) h = h
  doing-fine (does.says c) h = written-whole c
  doing-fine (does.refuses why) h = tt

  line_low : any is_high (10 ∷ []) ≡ false
  unfolding any
  line_low = refl

  word-fine : (w : ℕ) (num : Option ℕ) → value_of num < 4294967296 → FineDeed (token_deed rd (Shown.word w num))
  word-fine w num h = go (eqb w words.unicode)
    where
      go : (t : Bool) → FineDeed (cond t (unit num) (doing (effect rd w num)))
      go true = tt
      go false = doing-fine (effect rd w num) (effect-sound rd w num h)

  symbol-fine : (b : ℕ) (num : Option ℕ) → FineDeed (token_deed rd (Shown.symbol b num))
  unfolding symbol_effect
  symbol-fine b num =
      doing-fine (symbol_effect b num)
      (either rd (eqb b 39) _ _ tt (either rd (eqb b 126) _ _ tt (either rd (eqb b 95) _ _ tt (either rd (eqb b 45) _ _ tt (all_sound rd [] tt)))))

  token-fine : (t : Shown) → Fine t → FineDeed (token_deed rd t)
  token-fine Shown.opening h = tt
  token-fine Shown.closing h = tt
  token-fine Shown.line_break h = record { some = omega arith; utf8 = utf8-ascii (10 ∷ []) line_low }
  token-fine Shown.ignorable h = tt
  token-fine (Shown.text p bs) h = h
  token-fine (Shown.word w num) h = word-fine w num h
  token-fine (Shown.unknown p bs num) h = all_sound rd [] tt
  token-fine (Shown.symbol b num) h = symbol-fine b num

  act-fine : (s : Step) → FineStep s → FineAct (act_of rd s)
  act-fine (kept t) h = token-fine (shown_in t) h
  act-fine hidden h = tt
  act-fine (font_table late ts) h = tt
  act-fine (colour_table late ts) h = tt

  acts-fine : (ss : List Step) → All FineStep ss → All FineAct (acts rd ss)
  unfolding acts
  acts-fine [] h = tt
  acts-fine (s ∷ ss) h = (act-fine s h.0, acts-fine ss h.1)

  -- what is left of it: of a text its end, if there is one
  rest-fine : (l : List ℕ) → any is_high l ≡ false → FineDeed (tells_rest l)
  rest-fine [] h = tt
  rest-fine (b ∷ l) h = (omega arith, h)

  left-fine : (n : ℕ) (d : Deed Setting) → FineDeed d → FineDeed (left n d)
  unfolding left
  left-fine zero d h = h
  left-fine (suc n) (tells bs) h = rest-fine (drop (suc n) bs) (low-drop (suc n) bs h.1)
  left-fine (suc n) opens h = tt
  left-fine (suc n) closes h = tt
  left-fine (suc n) parts h = tt
  left-fine (suc n) passes h = tt
  left-fine (suc n) (sets ss) h = tt
  left-fine (suc n) (says bs) h = tt
  left-fine (suc n) (unit num) h = tt
  left-fine (suc n) (refuses why) h = tt
  left-fine (suc n) (stops why) h = tt

  -- ---- the stack

  opened-sound : (top : List ℕ) (rest : List (List ℕ)) → Sound rd top → All (Sound rd) rest
      → All (Sound rd) (stack_of (moved fresh_row (top ∷ rest) (move_of rows opens)))
  unfolding moved
  opened-sound top rest h k = go (eqb (suc (length rest)) stack_limit)
    where
      go : (t : Bool) → All (Sound rd) (stack_of (cond t (fails TooDeep) (becomes (top ∷ top ∷ rest))))
      go true = tt
      go false = (h, (h, k))

  moved-sound : (st : List (List ℕ)) (d : Deed Setting) → All (Sound rd) st → FineDeed d → All (Sound rd) (stack_of (moved fresh_row st (move_of rows d)))
  unfolding moved
  moved-sound [] opens h g = (fresh-sound rd, tt)
  moved-sound [] closes h g = tt
  moved-sound [] (sets ss) h g = tt
  moved-sound [] (says bs) h g = tt
  moved-sound [] (tells bs) h g = tt
  moved-sound [] (unit num) h g = tt
  moved-sound [] (refuses why) h g = tt
  moved-sound [] parts h g = tt
  moved-sound [] (stops why) h g = tt
  moved-sound [] passes h g = tt
  moved-sound (top ∷ rest) opens h g = opened-sound top rest h.0 h.1
  moved-sound (top ∷ rest) closes h g = h.1
  moved-sound (top ∷ rest) (sets ss) h g = (g top h.0, h.1)
  moved-sound (top ∷ rest) (says bs) h g = h
  moved-sound (top ∷ rest) (tells bs) h g = h
  moved-sound (top ∷ rest) (unit num) h g = h
  moved-sound (top ∷ rest) (refuses why) h g = tt
  moved-sound (top ∷ rest) parts h g = h
  moved-sound (top ∷ rest) (stops why) h g = tt
  moved-sound (top ∷ rest) passes h g = h

  -- ---- what is said

  -- a piece that a stored block can be made of
  pub record Storable (x : Piece) : Type 0 where
    pub range : in_range x.style ≡ true
    pub words : Words (style_words x.style)
    pub text : Whole x.bytes
    pub bare : rd ≡ Plain → flush x.style ≡ true

  spoken-storable : (top : List ℕ) (texts : List (List ℕ)) → Sound rd top → All Whole texts → All Storable (spoken rows top texts)
  unfolding spoken
  spoken-storable top [] h k = tt
  spoken-storable top (bs ∷ texts) h k =
      (record { range = sound-range rd top h; words = sound-words rd top h; bare = sound-flush rd top h; text = k.0 }, spoken-storable top texts h k.1)

  own-whole : (d : Deed Setting) → FineDeed d → All Whole (texts_of d)
  own-whole (says bs) h = (h, tt)
  own-whole (tells bs) h = (record { some = h.0; utf8 = utf8-ascii bs h.1 }, tt)
  own-whole opens h = tt
  own-whole closes h = tt
  own-whole (sets ss) h = tt
  own-whole (unit num) h = tt
  own-whole (refuses why) h = tt
  own-whole parts h = tt
  own-whole (stops why) h = tt
  own-whole passes h = tt

  said-storable : (st : List (List ℕ)) (g : Gave) (d : Deed Setting) → All (Sound rd) st → FineDeed d → All Storable (said rows st g d)
  unfolding said
  said-storable [] g d h k = tt
  said-storable (top ∷ rest) g d h k =
      spoken-storable top (written_all (values g) ++ texts_of d) h.0
      (both-whole (written_all (values g)) (texts_of d) (written_all-whole (values g)) (own-whole d k))

  front-storable : (xs : List Piece) (more : Stream Refusal Piece) → All Storable xs → Each Storable more → Each Storable (xs ▸▸ more)
  unfolding ◌▸▸◌
  front-storable [] more h k = k
  front-storable (x ∷ xs) more h k = (h.0, front-storable xs more h.1 k)

  onward-storable : (p : ℕ) (m : Fate (List (List ℕ))) (more : Stream Refusal Piece) → Each Storable more → Each Storable (onward p m more)
  onward-storable p (becomes st) more h = h
  onward-storable p (fails why) more h = tt

  machine-storable : (st : List (List ℕ)) (run : Run) (n : ℕ) (ds : List (Act Setting)) → All (Sound rd) st → All FineAct ds
      → Each Storable (machine rows (steps_by rd) st run n ds)
  unfolding machine
  machine-storable st run n [] h k = front-storable (said rows st (ended run) parts) end (said-storable st (ended run) parts h tt) tt
  machine-storable st run n (at p d ∷ ds) h k =
      let e : Deed Setting = left n d in
      let f : FineDeed e = left-fine n d k.0 in
      let g : Gave = gave (step_of (steps_by rd) st) run e in
      let m : Fate (List (List ℕ)) = moved fresh_row st (move_of rows e) in
      let behind : ℕ = owed_behind (owes_of (steps_by rd) st) n d in
      let more : Stream Refusal Piece = machine rows (steps_by rd) (stack_of m) g.run behind ds in
      front-storable (said rows st g e) (onward p m more) (said-storable st g e h f)
      (onward-storable p m more (machine-storable (stack_of m) g.run behind ds (moved-sound st e h f) k.1))

  pub body-storable : (ts : List Token) → All FineIn ts → Each Storable (body rd (walk ts))
  unfolding body
  body-storable ts h =
      machine-storable (fresh_row ∷ []) before 0 (acts rd (walk ts)) (fresh-sound rd, tt) (acts-fine (walk ts) (walk_fine ts 0 h))
