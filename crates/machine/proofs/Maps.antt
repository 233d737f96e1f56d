-- States of two kinds that go the same way: what is said in the one is what is said in the other, changed.
--     map_deed, map_act       a deed, and an act, with each of its settings changed
--     deed_of                the deed of an act
--     Carries, Follows      states carried over: a fresh one, a setting done, and what is said; and what a `u` token does in them
--     settle-map            then settings are carried over,
--     moved-map, all_map    what a token does to the stack, and what tokens do,
--     machine-map           and what is said, token by token: the same refusals at the same places, each item changed
--     start-map             from the start
-- Assumes nothing.
use mathlib.Core.Path.{◌≡◌, refl, sym, ap, ◌∙◌}
use mathlib.Core.List.{List, [], ◌∷◌, ◌++◌, map}
use mathlib.Core.Bool.{Bool, true, false, cond}
use Prim.Native.Nat.{ℕ, zero, suc}
use lib.ListN.{length, length-map, drop}
use lib.Dec.{eqb}
use Rattle.answers.specs.declared.Why.TheVariants.{TooDeep}
use Rattle.answers.specs.declared.Refusal.{Refusal}
use Rattle.answers.specs.Answers.{Fate, becomes, fails}
use Rattle.rooms.specs.Streams.{Stream, end, each}
use Rattle.units.specs.declared.Run.{Run}
use Rattle.units.specs.declared.Gave.{Gave}
use Rattle.units.specs.Units.{before, values}
use Rattle.machine.specs.Stack.{stack_limit, moved, stack_of}
use Rattle.machine.specs.Moves.{next, moved_from}
use Rattle.machine.specs.Machine.{States, Steps, Deed, opens, closes, sets, says, tells, unit, refuses, parts, stops, passes, Act, at}
use Rattle.machine.specs.Machine.{ended, gave, texts_of, tells_rest, left, owing, owed_behind, written_all, ◌▸▸◌, onward, settle, move_of, spoken, said, step_of, owes_of, machine, start}
use Rattle.std.specs.Prelude.{Option}

-- a deed with each of its settings changed
abbrev pub map_deed : {S S' : Type 0} → (S → S') → Deed S → Deed S'
map_deed g opens = opens
map_deed g closes = closes
map_deed g (sets ss) = sets (map g ss)
map_deed g (says bs) = says bs
map_deed g (tells bs) = tells bs
map_deed g (unit n) = unit n
map_deed g (refuses why) = refuses why
map_deed g parts = parts
map_deed g (stops why) = stops why
map_deed g passes = passes

abbrev pub map_act : {S S' : Type 0} → (S → S') → Act S → Act S'
map_act g (at p d) = at p (map_deed g d)

abbrev pub deed_of : {S : Type 0} → Act S → Deed S
deed_of (at p d) = d

-- what becomes of a stack, changed
abbrev pub map_fate : {R R' : Type 0} → (R → R') → Fate (List R) → Fate (List R')
map_fate h (becomes st) = becomes (map h st)
map_fate h (fails why) = fails why

-- a stream with each of its items changed, and the same end
abbrev pub map_said : {E E' : Type 0} → (E → E') → Stream Refusal E → Stream Refusal E'
map_said e s = each (λ (r : Refusal). r) e s

-- states carried over by h, settings by g, what is said by e
pub record Carries {R S E R' S' E' : Type 0} (a : States R S E) (b : States R' S' E') (h : R → R') (g : S → S') (e : E → E') : Type 0 where
  pub freshes : h a.fresh ≡ b.fresh
  pub puts : (s : S) (r : R) → h (a.put s r) ≡ b.put (g s) (h r)
  pub speaks : (r : R) (bs : List ℕ) → e (a.say r bs) ≡ b.say (h r) bs

-- a `u` token does the same in both
pub record Follows {R R' : Type 0} (a : Steps R) (b : Steps R') (h : R → R') : Type 0 where
  pub steps : (r : R) (run : Run) (num : Option ℕ) → a.step r run num ≡ b.step (h r) run num
  pub owes : (r : R) → a.owes r ≡ b.owes (h r)

-- ---- without states

module _ {R R' : Type 0} (h : R → R') where
  fate-cond : (t : Bool) (x y : Fate (List R)) → map_fate h (cond t x y) ≡ cond t (map_fate h x) (map_fate h y)
  fate-cond true x y = refl
  fate-cond false x y = refl

  stack-map : (x : Fate (List R)) → map h (stack_of x) ≡ stack_of (map_fate h x)
  stack-map (becomes st) = refl
  stack-map (fails why) = refl

  onward-map : {E E' : Type 0} (e : E → E') (p : ℕ) (x : Fate (List R)) (s : Stream Refusal E) → map_said e (onward p x s) ≡ onward p (map_fate h x) (map_said e s)
  unfolding each
  onward-map e p (becomes st) s = refl
  onward-map e p (fails why) s = refl

front-map : {E E' : Type 0} (e : E → E') (xs : List E) (s : Stream Refusal E) → map_said e (xs ▸▸ s) ≡ map e xs ▸▸ map_said e s
unfolding each ◌▸▸◌
front-map e [] s = refl
front-map e (x ∷ xs) s = rw (front-map e xs s)

module _ {S S' : Type 0} (g : S → S') where
  gave-map : (step : Run → Option ℕ → Gave) (run : Run) (d : Deed S) → gave step run d ≡ gave step run (map_deed g d)
  unfolding gave
  gave-map step run opens = refl
  gave-map step run closes = refl
  gave-map step run (sets ss) = refl
  gave-map step run (says bs) = refl
  gave-map step run (tells bs) = refl
  gave-map step run (unit n) = refl
  gave-map step run (refuses why) = refl
  gave-map step run parts = refl
  gave-map step run (stops why) = refl
  gave-map step run passes = refl

  texts-map : (d : Deed S) → texts_of d ≡ texts_of (map_deed g d)
  texts-map opens = refl
  texts-map closes = refl
  texts-map (sets ss) = refl
  texts-map (says bs) = refl
  texts-map (tells bs) = refl
  texts-map (unit n) = refl
  texts-map (refuses why) = refl
  texts-map parts = refl
  texts-map (stops why) = refl
  texts-map passes = refl

  -- what is passed over of a deed does not depend on its settings
  rest-map : (bs : List ℕ) → tells_rest {S = S'} bs ≡ map_deed g (tells_rest bs)
  rest-map [] = refl
  rest-map (b ∷ bs) = refl

  left-map : (n : ℕ) (d : Deed S) → left n (map_deed g d) ≡ map_deed g (left n d)
  unfolding left
  left-map zero d = refl
  left-map (suc n) opens = refl
  left-map (suc n) closes = refl
  left-map (suc n) (sets ss) = refl
  left-map (suc n) (says bs) = refl
  left-map (suc n) (tells bs) = rest-map (drop (suc n) bs)
  left-map (suc n) (unit m) = refl
  left-map (suc n) (refuses why) = refl
  left-map (suc n) parts = refl
  left-map (suc n) (stops why) = refl
  left-map (suc n) passes = refl

  owing-map : (owes : ℕ) (d : Deed S) → owing owes d ≡ owing owes (map_deed g d)
  owing-map owes opens = refl
  owing-map owes closes = refl
  owing-map owes (sets ss) = refl
  owing-map owes (says bs) = refl
  owing-map owes (tells bs) = refl
  owing-map owes (unit m) = refl
  owing-map owes (refuses why) = refl
  owing-map owes parts = refl
  owing-map owes (stops why) = refl
  owing-map owes passes = refl

  owed-map : (owes n : ℕ) (d : Deed S) → owed_behind owes n d ≡ owed_behind owes n (map_deed g d)
  unfolding owed_behind
  owed-map owes zero d = owing-map owes d
  owed-map owes (suc n) opens = refl
  owed-map owes (suc n) closes = refl
  owed-map owes (suc n) (sets ss) = refl
  owed-map owes (suc n) (says bs) = refl
  owed-map owes (suc n) (tells bs) = refl
  owed-map owes (suc n) (unit m) = refl
  owed-map owes (suc n) (refuses why) = refl
  owed-map owes (suc n) parts = refl
  owed-map owes (suc n) (stops why) = refl
  owed-map owes (suc n) passes = refl

-- ---- states carried over

module _ {R S E R' S' E' : Type 0} {a : States R S E} {b : States R' S' E'} {h : R → R'} {g : S → S'} {e : E → E'} (c : Carries a b h g e) where
  pub settle-map : (ss : List S) (r : R) → h (settle a ss r) ≡ settle b (map g ss) (h r)
  unfolding settle
  settle-map [] r = refl
  settle-map (s ∷ ss) r = settle-map ss (a.put s r) ∙ ap (settle b (map g ss)) (c.puts s r)

  pub moved-map : (st : List R) (d : Deed S) → map_fate h (moved a.fresh st (move_of a d)) ≡ moved b.fresh (map h st) (move_of b (map_deed g d))
  unfolding moved
  moved-map [] opens = ap (λ (x : R'). becomes (x ∷ [])) c.freshes
  moved-map (top ∷ rest) opens =
      fate-cond h (eqb (suc (length rest)) stack_limit) (fails TooDeep) (becomes (top ∷ top ∷ rest))
      ∙ ap (λ (n : ℕ). cond (eqb (suc n) stack_limit) (fails TooDeep) (becomes (h top ∷ h top ∷ map h rest))) (sym (length-map rest h))
  moved-map [] closes = refl
  moved-map (top ∷ rest) closes = refl
  moved-map [] (sets ss) = refl
  moved-map (top ∷ rest) (sets ss) = ap (λ (x : R'). becomes (x ∷ map h rest)) (settle-map ss top)
  moved-map [] (says bs) = refl
  moved-map (top ∷ rest) (says bs) = refl
  moved-map [] (tells bs) = refl
  moved-map (top ∷ rest) (tells bs) = refl
  moved-map [] (unit n) = refl
  moved-map (top ∷ rest) (unit n) = refl
  moved-map [] (refuses why) = refl
  moved-map (top ∷ rest) (refuses why) = refl
  moved-map st parts = refl
  moved-map st (stops why) = refl
  moved-map st passes = refl

  next_map : (x : Fate (List R)) (d : Deed S) → map_fate h (next a.fresh x (move_of a d)) ≡ next b.fresh (map_fate h x) (move_of b (map_deed g d))
  next_map (becomes st) d = moved-map st d
  next_map (fails why) d = refl

  pub all_map : (x : Fate (List R)) (acts : List (Act S))
      → map_fate h (moved_from a.fresh x (map (λ (y : Act S). move_of a (deed_of y)) acts))
      ≡ moved_from b.fresh (map_fate h x) (map (λ (y : Act S'). move_of b (deed_of y)) (map (map_act g) acts))
  unfolding moved_from
  all_map x [] = refl
  all_map x (at p d ∷ acts) =
      all_map (next a.fresh x (move_of a d)) acts
      ∙ ap (λ (z : Fate (List R')). moved_from b.fresh z (map (λ (y : Act S'). move_of b (deed_of y)) (map (map_act g) acts))) (next_map x d)

  spoken-map : (top : R) (texts : List (List ℕ)) → map e (spoken a top texts) ≡ spoken b (h top) texts
  unfolding spoken
  spoken-map top [] = refl
  spoken-map top (bs ∷ texts) = rw (c.speaks top bs, spoken-map top texts)

  said-map : (st : List R) (v : Gave) (d : Deed S) → map e (said a st v d) ≡ said b (map h st) v (map_deed g d)
  unfolding said
  said-map [] v d = refl
  said-map (top ∷ rest) v d =
      spoken-map top (written_all (values v) ++ texts_of d)
      ∙ ap (λ (t : List (List ℕ)). spoken b (h top) (written_all (values v) ++ t)) (texts-map g d)

-- ---- token by token

module _ {R R' : Type 0} {a : Steps R} {b : Steps R'} {h : R → R'} (f : Follows a b h) where
  step_map : (st : List R) (run : Run) (num : Option ℕ) → step_of a st run num ≡ step_of b (map h st) run num
  step_map [] run num = refl
  step_map (top ∷ rest) run num = f.steps top run num

  owes-map : (st : List R) → owes_of a st ≡ owes_of b (map h st)
  owes-map [] = refl
  owes-map (top ∷ rest) = f.owes top

  -- what a token gives to a run, with its settings changed or not
  met-map : {S : Type 0} (st : List R) (run : Run) (d : Deed S) → gave (step_of a st) run d ≡ gave (step_of b (map h st)) run d
  unfolding gave
  met-map st run opens = refl
  met-map st run closes = refl
  met-map st run (sets ss) = refl
  met-map st run (says bs) = refl
  met-map st run (tells bs) = refl
  met-map st run (unit n) = step_map st run n
  met-map st run (refuses why) = refl
  met-map st run parts = refl
  met-map st run (stops why) = refl
  met-map st run passes = refl

module _ {R S E R' S' E' : Type 0} {a : States R S E} {b : States R' S' E'} {h : R → R'} {g : S → S'} {e : E → E'} (c : Carries a b h g e)
    {sa : Steps R} {sb : Steps R'} (f : Follows sa sb h) where
  pub machine-map : (st : List R) (run : Run) (n : ℕ) (acts : List (Act S)) → map_said e (machine a sa st run n acts) ≡ machine b sb (map h st) run n (map (map_act g) acts)
  unfolding machine each
  machine-map st run n [] = front-map e (said a st (ended run) parts) end ∙ ap (λ (l : List E'). l ▸▸ end) (said-map c st (ended run) parts)
  machine-map st run n (at p d ∷ acts) =
      let d' : Deed S = left n d in
      let v : Gave = gave (step_of sa st) run d' in
      let x : Fate (List R) = moved a.fresh st (move_of a d') in
      let m : ℕ = owed_behind (owes_of sa st) n d in
      front-map e (said a st v d') (onward p x (machine a sa (stack_of x) v.run m acts))
      ∙ rw (
        onward-map h e p x,
        machine-map (stack_of x) v.run m acts,
        stack-map h x,
        moved-map c st d',
        said-map c st v d',
        met-map f st run d',
        gave-map g (step_of sb (map h st)) run d',
        owes-map f st,
        owed-map g (owes_of sb (map h st)) n d,
        left-map g n d,
      )

  pub start-map : (acts : List (Act S)) → map_said e (start a sa acts) ≡ start b sb (map (map_act g) acts)
  start-map acts = machine-map (a.fresh ∷ []) before 0 acts ∙ ap (λ (x : R'). machine b sb (x ∷ []) before 0 (map (map_act g) acts)) c.freshes
