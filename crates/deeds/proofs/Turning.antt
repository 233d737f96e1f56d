-- One token: what the code answers is where the token leads.
--     turns-quiet, turns-bare        a token without text; one that finds no state
--     turns-text, turns-unit         text that was laid; a `u` word
--     turns-full, turns-behind       a token behind the run that it ended: no room for what that owes, or what the token does then
--     turns_as, -word, -step         by what the words of a token say
-- Assumes nothing.
use mathlib.Core.Path.{◌≡◌, refl, sym, ap, ◌∙◌}
use mathlib.Core.List.{List, [], ◌∷◌}
use mathlib.Core.Bool.{Bool, true, false, cond, ◌&&◌}
use Prim.Native.Nat.{ℕ, ◌-◌, ◌<◌, ◌≤◌}
use native.Mathlib.Omega.{arith}
use borrow.Author.Tests.{eqb-true}
use lib.ListN.{length, get_or}
use lib.Dec.{eqb}
use Rattle.answers.specs.declared.Why.{Why}
use Rattle.answers.specs.declared.Why.TheVariants.{NoState}
use Rattle.answers.specs.Answers.{refusal, becomes}
use Rattle.readings.specs.declared.Reading.{Reading}
use Rattle.tokens.specs.Items.{item_at, shown_of, number_at}
use Rattle.settings.specs.Fields.{Setting, fresh_row, style_of}
use Rattle.settings.specs.Fields as field
use Rattle.settings.specs.declared.Act.{Act}
use Rattle.settings.specs.Effects.{Effect, effect, meaning, painter_word, paragraph_word, character_word, ending_word, indent_word}
use Rattle.settings.specs.Effects as does
use Rattle.utf8.specs.Utf8.{written, utf8}
use Rattle.units.specs.declared.Run.{Run}
use Rattle.units.specs.declared.Gave.{Gave}
use Rattle.units.specs.Units.{before, nothing, values}
use Rattle.machine.specs.Stack.{moved, held}
use Rattle.machine.specs.Machine.{Deed, parts, ended, gave, texts_of, left, is_passed, written_all, move_of, settle, spoken, said, step_of}
use Rattle.machine.proofs.Left.{is_telling, left-read}
use Rattle.machine.proofs.Stack.{held-top}
use Rattle.blocks.specs.declared.Page.{Page}
use Rattle.blocks.specs.Laying.{Laying, on, off, roomed, add_of, Ready}
use Rattle.runs.specs.Runs.{rows, step_by, steps_by, laid_all}
use Rattle.deeds.specs.Deeds.{doing, token_deed}
use Rattle.deeds.specs.Turns.{deed_at, effect_at, moved_by, stays_by, Deep, Took, turned, turn_of, Turns}
use Rattle.runs.proofs.Saying.{laid-off, laid-append, said-none, said-own, said-ended, said-text, told_text, said-values}
use Rattle.deeds.proofs.Moves.{took-keep, took-parts}
use Rattle.tokens.specs.Items.{kind_at}
use Rattle.tokens.specs.declared.Kind.TheVariants as kinds
use Rattle.tokens.proofs.Items.{kind-number}
use Rattle.std.specs.Prelude.{◌⊎◌}
use Rattle.std.proofs.Common.{inl, inr}
use Rattle.deeds.proofs.Words.{at-token, kind-word, kind-symbol, act-telling, unit-at}
use Rattle.std.specs.Prelude.{Result, Ok, Err, Option}

-- ---- a token that says nothing

module _ (states : List (List ℕ)) (depth : ℕ) {r : Result ℕ Why} {states' : List (List ℕ)} {page : Page} {b t : List ℕ} {w v : ℕ} (d : Deed Setting)
    (k : Took r states' (moved fresh_row (held [] states depth) (move_of rows d))) (h : Ready page w v) where
  pub turns-quiet : texts_of d ≡ [] → Turns r states' before page b t w v (turn_of (held [] states depth) page b t (ended before) d)
  unfolding turn_of laid_all
  turns-quiet e = record {
    does = rw (k.does, said-own (held [] states depth) d e) refl;
    deep = k.deep;
    all = k.all;
    ready = h;
  }

  pub turns-bare : depth ≡ 0 → (g : Gave) {run : Run} → run ≡ g.run → Turns r states' run page b t w v (turn_of (held [] states depth) page b t g d)
  unfolding turn_of laid_all held
  turns-bare z g e = record {
    does = rw (k.does, e, z, said-none g d) refl;
    deep = k.deep;
    all = k.all;
    ready = h;
  }

-- a word's act
module _ (states : List (List ℕ)) (depth : ℕ) {r : Result ℕ Why} {states' : List (List ℕ)} {page : Page} {b t : List ℕ} {w v : ℕ} (a : Act)
    (k : Took r states' (moved fresh_row (held [] states depth) (move_of rows (doing (meaning a))))) (h : Ready page w v) where
  pub turns-act : texts_of (doing (meaning a)) ≡ [] → Turns r states' before page b t w v (turn_of (held [] states depth) page b t (ended before) (doing (meaning a)))
  turns-act e = turns-quiet states depth (doing (meaning a)) k h e

-- a `u` word that finds no state
pub turns_stopped : (rd : Reading) (states : List (List ℕ)) (depth : ℕ) → length states ≡ 64 → depth ≡ 0 → {page : Page} {b t : List ℕ} {w v : ℕ} → Ready page w v → (run : Run) (num : Option ℕ)
    → Turns (Err NoState) states run page b t w v (turn_of (held [] states depth) page b t (step_of (steps_by rd) (held [] states depth) run num) (Deed.unit num))
unfolding turn_of laid_all held moved said
turns_stopped rd states depth all z h run num = record {
  does = rw z refl;
  deep = omega arith;
  all = all;
  ready = h;
}

-- a token that is passed over
is-passed : (d : Deed Setting) → is_passed d ≡ true → d ≡ Deed.passes
is-passed Deed.passes e = refl
is-passed (Deed.unit num) e = cc
is-passed Deed.opens e = cc
is-passed Deed.closes e = cc
is-passed (Deed.sets ss) e = cc
is-passed (Deed.says bs) e = cc
is-passed (Deed.tells bs) e = cc
is-passed (Deed.refuses why) e = cc
is-passed Deed.parts e = cc
is-passed (Deed.stops why) e = cc

said-passed : (st : List (List ℕ)) (run : Run) → said rows st (nothing run) Deed.passes ≡ []
unfolding said values written_all spoken
said-passed [] run = refl
said-passed (top ∷ rest) run = refl

pub turns-passed : (states : List (List ℕ)) (depth : ℕ) → length states ≡ 64 → depth ≤ 64 → {page : Page} {b t : List ℕ} {w v : ℕ} → Ready page w v
    → (step : Run → Option ℕ → Gave) (run : Run) (d : Deed Setting) → is_passed d ≡ true
    → Turns (Ok depth) states run page b t w v (turn_of (held [] states depth) page b t (gave step run d) d)
unfolding turn_of laid_all gave
turns-passed states depth all deep h step run d e =
    let q : d ≡ Deed.passes = is-passed d e in
    record {
      does = rw (q, said-passed (held [] states depth) run, ← (took-parts states depth all deep).does) refl;
      deep = deep;
      all = all;
      ready = h;
    }

-- ---- text that was laid, and the stack that stays

-- what a room answers, and what it was asked
room-turns : (room : Result Unit Why) (st : List (List ℕ)) (states : List (List ℕ)) (depth : ℕ) (p : Page) (b t : List ℕ) (run : Run) {l : Laying} → roomed room p b t ≡ l
    → st ≡ held [] states depth → turned (on p b t) (moved_by (stays_by room depth) states) run ≡ turned l (becomes st) run
room-turns (Ok u) st states depth p b t run e q = rw (← e, q) refl
room-turns (Err why) st states depth p b t run e q = rw (← e) refl

room-deep : (room : Result Unit Why) (depth : ℕ) → depth ≤ 64 → Deep (stays_by room depth)
room-deep (Ok u) depth l = l
room-deep (Err why) depth l = omega arith

module _ (states : List (List ℕ)) (depth : ℕ) (all : length states ≡ 64) (z : 0 < depth) (deep : depth ≤ 64) (room : Result Unit Why) (page page' : Page) (b t b' t' : List ℕ)
    {w v : ℕ} (h : Ready page' w v) where
  pub turns-text : {r : Result ℕ Why} → r ≡ stays_by room depth → (bytes : List ℕ)
      → roomed room page' b' t' ≡ add_of page (style_of (get_or states (depth - 1) [])) bytes b t
      → Turns r states before page' b' t' w v (turn_of (held [] states depth) page b t (ended before) (Deed.says bytes))
  unfolding turn_of
  turns-text i bytes e = record {
    does = rw (i, said-text states depth z page b t bytes, ← (took-keep states depth all z deep).does)
        (room-turns room (held [] states depth) states depth page' b' t' before e refl);
    deep = rw i (room-deep room depth deep);
    all = all;
    ready = h;
  }

  pub turns-tell : {r : Result ℕ Why} → r ≡ stays_by room depth → (bytes : List ℕ)
      → roomed room page' b' t' ≡ add_of page (style_of (get_or states (depth - 1) [])) bytes b t
      → Turns r states before page' b' t' w v (turn_of (held [] states depth) page b t (ended before) (Deed.tells bytes))
  unfolding turn_of
  turns-tell i bytes e = record {
    does = rw (i, told_text states depth z page b t bytes, ← (took-keep states depth all z deep).does)
        (room-turns room (held [] states depth) states depth page' b' t' before e refl);
    deep = rw i (room-deep room depth deep);
    all = all;
    ready = h;
  }

  pub turns-break : {r : Result ℕ Why} → r ≡ stays_by room depth → roomed room page' b' t' ≡ add_of page (style_of (get_or states (depth - 1) [])) (written 10) b t
      → Turns r states before page' b' t' w v (turn_of (held [] states depth) page b t (ended before) (Deed.says (10 ∷ [])))
  unfolding written utf8
  turns-break i e = turns-text i (10 ∷ []) e

  pub turns-says : {r : Result ℕ Why} → r ≡ stays_by room depth → (c : ℕ)
      → roomed room page' b' t' ≡ add_of page (style_of (get_or states (depth - 1) [])) (written c) b t
      → {e : Effect} → e ≡ does.says c → Turns r states before page' b' t' w v (turn_of (held [] states depth) page b t (ended before) (doing e))
  turns-says i c e q = rw q (turns-text i (written c) e)

  pub turns-unit : {r : Result ℕ Why} → r ≡ stays_by room depth → (rd : Reading) (run : Run) (num : Option ℕ) {run' : Run}
      → roomed room page' b' t' ≡ laid_all (on page b t) (spoken rows (get_or states (depth - 1) []) (written_all (values (step_by rd (get_or (get_or states (depth - 1) []) field.skip 0) run num))))
      → run' ≡ (step_by rd (get_or (get_or states (depth - 1) []) field.skip 0) run num).run
      → Turns r states run' page' b' t' w v (turn_of (held [] states depth) page b t (step_of (steps_by rd) (held [] states depth) run num) (Deed.unit num))
  unfolding turn_of
  turns-unit i rd run num {run'} e f =
      let s : step_by rd (get_or (get_or states (depth - 1) []) field.skip 0) run num ≡ step_of (steps_by rd) (held [] states depth) run num = rw (held-top [] states depth z) in
      let g : Gave = step_of (steps_by rd) (held [] states depth) run num in
      let q : roomed room page' b' t' ≡ laid_all (on page b t) (said rows (held [] states depth) g (Deed.unit num)) =
      rw (said-values states depth z page b t g (Deed.unit num) refl, ← s) e in
      let f' : run' ≡ g.run = rw s at f in
      record {
        does = rw (i, f', ← (took-keep states depth all z deep).does) (room-turns room (held [] states depth) states depth page' b' t' g.run q refl);
        deep = rw i (room-deep room depth deep);
        all = all;
        ready = h;
      }

-- ---- behind the run that a token ended

module _ (st : List (List ℕ)) (p : Page) (b t : List ℕ) (run : Run) (d : Deed Setting) (g : Gave) (e : ended run ≡ g) where
  pub turns-full : (why : Why) → off (refusal why) ≡ laid_all (on p b t) (said rows st (ended run) parts)
      → {states : List (List ℕ)} → length states ≡ 64 → (run' : Run) {page : Page} {b' t' : List ℕ} {w v : ℕ} → Ready page w v
      → Turns (Err why) states run' page b' t' w v (turn_of st p b t g d)
  unfolding turn_of
  turns-full why l all run' h = record {
    does = let x : laid_all (on p b t) (said rows st (ended run) d) ≡ off (refusal why) =
        ap (laid_all (on p b t)) (said-ended st run d)
        ∙ sym (laid-append (on p b t) (said rows st (ended run) parts) (said rows st (ended before) d))
        ∙ ap (λ (y : Laying). laid_all y (said rows st (ended before) d)) (sym l)
        ∙ laid-off (refusal why) (said rows st (ended before) d) in
        rw (← e, x) refl;
    deep = omega arith;
    all = all;
    ready = h;
  }

  pub turns-behind : (p' : Page) (b' t' : List ℕ) → on p' b' t' ≡ laid_all (on p b t) (said rows st (ended run) parts)
      → {r : Result ℕ Why} {states : List (List ℕ)} {run' : Run} {page : Page} {b'' t'' : List ℕ} {w v : ℕ} → run' ≡ before
      → Turns r states before page b'' t'' w v (turn_of st p' b' t' (ended before) d) → Turns r states run' page b'' t'' w v (turn_of st p b t g d)
  unfolding turn_of
  turns-behind p' b' t' l {run' = run'} q k =
      let x : laid_all (on p' b' t') (said rows st (ended before) d) ≡ laid_all (on p b t) (said rows st (ended run) d) =
      ap (λ (y : Laying). laid_all y (said rows st (ended before) d)) l
      ∙ laid-append (on p b t) (said rows st (ended run) parts) (said rows st (ended before) d)
      ∙ ap (laid_all (on p b t)) (sym (said-ended st run d)) in
      record {
        does = rw (q, ← e, ← x) k.does;
        deep = k.deep;
        all = k.all;
        ready = k.ready;
      }

-- ---- by what the words of a token say

-- a token is another's like
pub turns_as : (st : List (List ℕ)) (p : Page) (b t : List ℕ) (d d' : Deed Setting) → d ≡ d' → {r : Result ℕ Why} {states : List (List ℕ)} {run : Run} {page : Page} {b' t' : List ℕ} {w v : ℕ}
    → Turns r states run page b' t' w v (turn_of st p b t (ended before) d) → Turns r states run page b' t' w v (turn_of st p b t (ended before) d')
turns_as st p b t d d' e h = rw (← e) h

-- behind its run a `u` word does no more than words that do nothing
unit-turn : (st : List (List ℕ)) (p : Page) (b t : List ℕ) (num : Option ℕ) → turn_of st p b t (ended before) (Deed.sets []) ≡ turn_of st p b t (ended before) (Deed.unit num)
unfolding turn_of said settle
unit-turn [] p b t num = refl
unit-turn (top ∷ rest) p b t num = refl

word-turn : (rd : Reading) (st : List (List ℕ)) (p : Page) (b t : List ℕ) (w : ℕ) (num : Option ℕ) (u : Bool) → eqb w 2 ≡ u
    → turn_of st p b t (ended before) (doing (effect rd w num)) ≡ turn_of st p b t (ended before) (cond u (Deed.unit num) (doing (effect rd w num)))
unfolding effect painter_word paragraph_word character_word ending_word indent_word
word-turn rd st p b t w num true q = rw (eqb-true w 2 q) (unit-turn st p b t num)
word-turn rd st p b t w num false q = refl

-- a word, or a symbol, by its effect
act-turn : (rd : Reading) (src ws : List ℕ) (st : List (List ℕ)) (p : Page) (b t : List ℕ) → (kind_at ws ≡ kinds.Word) ⊎ (kind_at ws ≡ kinds.Symbol)
    → turn_of st p b t (ended before) (doing (effect_at rd ws)) ≡ turn_of st p b t (ended before) (token_deed rd (shown_of src (item_at ws)))
unfolding effect_at
act-turn rd src ws st p b t (inl e) = rw (kind-number ws e tt) (word-turn rd st p b t (get_or ws 1 0) (number_at ws) (eqb (get_or ws 1 0) 2) refl
    ∙ ap (turn_of st p b t (ended before)) (kind-word rd src ws e))
act-turn rd src ws st p b t (inr e) = rw (kind-number ws e tt) (ap (turn_of st p b t (ended before)) (kind-symbol rd src ws e))

-- it is read: what is left of it is all of it, or behind its run no more than that
doing-turn : (st : List (List ℕ)) (p : Page) (b t : List ℕ) (n : ℕ) (d : Deed Setting) → is_telling d ≡ false → is_passed (left n d) ≡ false
    → turn_of st p b t (ended before) d ≡ turn_of st p b t (ended before) (left n d)
doing-turn st p b t n d e q = ap (turn_of st p b t (ended before)) (left-read n d d refl e q)

pub turns-act-at : (rd : Reading) (src ws : List ℕ) (st : List (List ℕ)) (p : Page) (b t : List ℕ) (h n : ℕ) → h ≤ 0 → (kind_at ws ≡ kinds.Word) ⊎ (kind_at ws ≡ kinds.Symbol)
    → is_passed (left n (deed_at rd src ws h)) ≡ false → (a : Act) → meaning a ≡ effect_at rd ws
    → {r : Result ℕ Why} {states : List (List ℕ)} {run : Run} {page : Page} {b' t' : List ℕ} {w v : ℕ}
    → Turns r states run page b' t' w v (turn_of st p b t (ended before) (doing (meaning a)))
    → Turns r states run page b' t' w v (turn_of st p b t (ended before) (left n (deed_at rd src ws h)))
turns-act-at rd src ws st p b t h n z k x a f g =
    let d : Deed Setting = deed_at rd src ws h in
    let q : turn_of st p b t (ended before) (doing (meaning a)) ≡ turn_of st p b t (ended before) (left n d) =
    ap (λ (y : Effect). turn_of st p b t (ended before) (doing y)) f
    ∙ act-turn rd src ws st p b t k
    ∙ ap (turn_of st p b t (ended before)) (at-token rd src ws h z)
    ∙ doing-turn st p b t n d (act-telling rd src ws h z k) x in
    rw (← q) g

-- a `u` word
pub turns-step : (rd : Reading) (src ws : List ℕ) (st : List (List ℕ)) (p : Page) (b t : List ℕ) (h n : ℕ) → (eqb (get_or ws 0 0) 5 && eqb (get_or ws 1 0) 2) ≡ true → (0 < h → get_or ws 0 0 ≡ 1)
    → is_passed (left n (deed_at rd src ws h)) ≡ false → (run₀ : Run) {num : Option ℕ} → num ≡ number_at ws
    → {r : Result ℕ Why} {states : List (List ℕ)} {run : Run} {page : Page} {b' t' : List ℕ} {w v : ℕ}
    → Turns r states run page b' t' w v (turn_of st p b t (step_of (steps_by rd) st run₀ num) (Deed.unit num))
    → Turns r states run page b' t' w v (turn_of st p b t (gave (step_of (steps_by rd) st) run₀ (left n (deed_at rd src ws h))) (left n (deed_at rd src ws h)))
unfolding gave
turns-step rd src ws st p b t h n c l x run₀ {num} e g =
    let q : Deed.unit num ≡ left n (deed_at rd src ws h) = left-read n (Deed.unit num) (deed_at rd src ws h) (ap Deed.unit e ∙ unit-at rd src ws h c l) refl x in
    rw (← q) g
