-- The machine says no more than there are tokens: each token says one thing, and what a run of units still owes was kept back by
-- one of its tokens.
--     Few                      a token that says no more than it may
--     step-few, standard-few   a unit, as 01 has it and by 02, A1
--     ended-few                what ends a run
--     machine-few              all tokens, if each `u` token says no more than it may
-- Assumes nothing.
use mathlib.Core.Path.{◌≡◌, refl, ap}
use mathlib.Core.List.{List, [], ◌∷◌, ◌++◌}
use mathlib.Core.Bool.{Bool, true, false, cond, ◌&&◌}
use Prim.Native.Nat.{ℕ, suc, ◌+◌, ◌≤◌}
use native.Mathlib.Omega.{arith}
use lib.Dec.{leb, ltb}
use lib.ListN.{length, length-append}
use Rattle.answers.specs.declared.Refusal.{Refusal}
use Rattle.answers.specs.Answers.{Fate, becomes, fails}
use Rattle.rooms.specs.Streams.{Stream, end, items}
use Rattle.units.specs.declared.Run.{Run}
use Rattle.units.specs.declared.Gave.{Gave}
use Rattle.units.specs.Units.{unit_of, is_high, is_low, alone, pair, skip_count, nothing, taken, taken_any, met, met_any, step, standard_step, values}
use Rattle.machine.specs.Stack.{moved, stack_of}
use Rattle.machine.specs.Machine.{States, Steps, Deed, opens, closes, sets, says, tells, unit, refuses, parts, stops, passes, Act, at}
use Rattle.machine.specs.Machine.{ended, gave, texts_of, left, owed_behind, written_all, ◌▸▸◌, onward, move_of, spoken, said, step_of, owes_of, machine}
use Rattle.std.specs.Prelude.{Option, Some, None}

-- what a run still owes
abbrev pub owed : Run → ℕ
owed run = cond (ltb 0 run.high) 1 0

one-most : (b : Bool) → cond b 1 0 ≤ 1
one-most true = omega arith
one-most false = omega arith

abbrev pub Few : Run → Gave → Type 0
Few run g = length (values g) + owed g.run ≤ 1 + owed run

pub nothing-few : (run after : Run) → after.high ≡ run.high → Few run (nothing after)
unfolding values
nothing-few run after e = rw e (omega arith)

pub taken-few : (run : Run) (u : ℕ) → Few run (taken run u)
unfolding taken values
taken-few run u = go (ltb 0 run.high) (is_low u) (is_high u)
  where
    kept : Bool → Bool → Bool → Gave
    kept l w h =
        cond (l && w) (record { run = record { begun = true; skipped = 0; high = 0 }; lost = false; value = Some (pair run.high u) })
        (cond h (record { run = record { begun = true; skipped = 0; high = u }; lost = l; value = None })
        (record { run = record { begun = true; skipped = 0; high = 0 }; lost = l; value = Some (alone u) }))

    go : (l w h : Bool) → length (values (kept l w h)) + owed (kept l w h).run ≤ 1 + cond l 1 0
    go true true h = omega arith
    go true false true = let k = one-most (ltb 0 u) in omega arith
    go true false false = omega arith
    go false w true = let k = one-most (ltb 0 u) in omega arith
    go false w false = omega arith

met-few : (skip : ℕ) (run : Run) (u : ℕ) → Few run (met skip run u)
unfolding met
met-few skip run u = go (run.begun && (leb u 255 && ltb run.skipped (skip_count skip)))
  where
    go : (t : Bool) → Few run (cond t (nothing (record { begun = true; skipped = run.skipped + 1; high = run.high })) (taken run u))
    go true = nothing-few run (record { begun = true; skipped = run.skipped + 1; high = run.high }) refl
    go false = taken-few run u

any-few : (skip : ℕ) (run : Run) (us : List ℕ) → Few run (met_any skip run us)
unfolding met_any
any-few skip run [] = nothing-few run run refl
any-few skip run (u ∷ us) = met-few skip run u

pub step-few : (skip : ℕ) (run : Run) (num : Option ℕ) → Few run (step skip run num)
unfolding step
step-few skip run num = any-few skip run (unit_of num)

pub ended-few : (run : Run) → length (values (ended run)) ≡ owed run
unfolding values
ended-few run = go (ltb 0 run.high)
  where
    go : (b : Bool) → length {A = ℕ} (cond b (65533 ∷ []) [] ++ []) ≡ cond b 1 0
    go true = refl
    go false = refl

any-standard : (run : Run) (us : List ℕ) → Few run (taken_any run us)
unfolding taken_any
any-standard run [] = let h = ended-few run in omega arith
any-standard run (u ∷ us) = taken-few run u

pub standard-few : (run : Run) (num : Option ℕ) → Few run (standard_step run num)
unfolding standard_step
standard-few run num = any-standard run (unit_of num)

-- a token, with its own text
gave-few : {S : Type 0} (step : Run → Option ℕ → Gave) → ((run : Run) (num : Option ℕ) → Few run (step run num))
    → (run : Run) (d : Deed S) → length (values (gave step run d)) + length (texts_of d) + owed (gave step run d).run ≤ 1 + owed run
unfolding gave
gave-few step few run (unit num) = let h = few run num in omega arith
gave-few step few run passes = let h = nothing-few run run refl in omega arith
gave-few step few run (says bs) = let h = ended-few run in omega arith
gave-few step few run (tells bs) = let h = ended-few run in omega arith
gave-few step few run opens = let h = ended-few run in omega arith
gave-few step few run closes = let h = ended-few run in omega arith
gave-few step few run (sets ss) = let h = ended-few run in omega arith
gave-few step few run (refuses why) = let h = ended-few run in omega arith
gave-few step few run parts = let h = ended-few run in omega arith
gave-few step few run (stops why) = let h = ended-few run in omega arith

length-written : (cs : List ℕ) → length (written_all cs) ≡ length cs
unfolding written_all
length-written [] = refl
length-written (c ∷ cs) = ap suc (length-written cs)

front_items : {F E : Type 0} (xs : List E) (s : Stream F E) → items (xs ▸▸ s) ≡ xs ++ items s
unfolding ◌▸▸◌ items
front_items [] s = refl
front_items (x ∷ xs) s = ap (λ (l : List _). x ∷ l) (front_items xs s)

module _ {R S E : Type 0} (states : States R S E) where
  length-spoken : (top : R) (texts : List (List ℕ)) → length (spoken states top texts) ≡ length texts
  unfolding spoken
  length-spoken top [] = refl
  length-spoken top (bs ∷ texts) = ap suc (length-spoken top texts)

  said-most : (st : List R) (g : Gave) (d : Deed S) → length (said states st g d) ≤ length (values g) + length (texts_of d)
  unfolding said
  said-most [] g d = omega arith
  said-most (top ∷ rest) g d =
      let a = length-spoken top (written_all (values g) ++ texts_of d) in
      let b = length-append (written_all (values g)) (texts_of d) in
      let c = length-written (values g) in
      omega arith

  onward-few : (p : ℕ) (m : Fate (List R)) (more : Stream Refusal E) → length (items (onward p m more)) ≤ length (items more)
  unfolding items
  onward-few p (becomes st) more = omega arith
  onward-few p (fails why) more = omega arith

  module _ (steps : Steps R) (few : (r : R) (run : Run) (num : Option ℕ) → Few run (steps.step r run num)) where
    step-of : (st : List R) (run : Run) (num : Option ℕ) → Few run (step_of steps st run num)
    step-of [] run num = nothing-few run run refl
    step-of (top ∷ rest) run num = few top run num

    pub machine-few : (st : List R) (run : Run) (n : ℕ) (acts : List (Act S)) → length (items (machine states steps st run n acts)) ≤ length acts + owed run
    unfolding machine items
    machine-few st run n [] =
        let xs : List E = said states st (ended run) parts in
        let z : Stream Refusal E = end in
        let a = ap length (front_items xs z) in
        let b = length-append xs [] in
        let c = said-most st (ended run) parts in
        let d = ended-few run in
        omega arith
    machine-few st run n (at p d ∷ acts) =
        let e : Deed S = left n d in
        let g : Gave = gave (step_of steps st) run e in
        let m : Fate (List R) = moved states.fresh st (move_of states e) in
        let k : ℕ = owed_behind (owes_of steps st) n d in
        let more : Stream Refusal E = machine states steps (stack_of m) g.run k acts in
        let xs : List E = said states st g e in
        let a = ap length (front_items xs (onward p m more)) in
        let b = length-append xs (items (onward p m more)) in
        let c = said-most st g e in
        let f = gave-few (step_of steps st) (step-of st) run e in
        let o = onward-few p m more in
        let h = machine-few (stack_of m) g.run k acts in
        omega arith
