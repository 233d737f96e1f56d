-- The places of acts, and those of refusals.
--     unplaced, unplaced_all                an act, and acts, without their places
--     bare_refusal, bare                    a refusal, and a stream's, without its place
--     machine-unplaced, start-unplaced     places say nothing but where a refusal is met: without them the machine says the same
--     ActAt, ActsAt, StopsAt               a property of the place of each act, and of the place that a refusal carries
--     machine-places, start-places         what is true of the places of all acts is true of the place of a refusal
-- Assumes nothing.
use mathlib.Core.Path.{◌≡◌, refl, ap}
use mathlib.Core.List.{List, [], ◌∷◌}
use Prim.Native.Nat.{ℕ, zero, suc}
use lib.ListN.{drop}
use Rattle.answers.specs.declared.Refusal.{Refusal}
use Rattle.answers.specs.Answers.{Fate, becomes, fails, Told}
use Rattle.answers.proofs.Refusals.{at_zero, told_at}
use Rattle.rooms.specs.Streams.{Stream, end, stop, ◌▸◌, each}
use Rattle.units.specs.declared.Run.{Run}
use Rattle.units.specs.declared.Gave.{Gave}
use Rattle.units.specs.Units.{before}
use Rattle.machine.specs.Stack.{moved, stack_of}
use Rattle.machine.specs.Machine.{States, Steps, Deed, opens, closes, sets, says, tells, unit, refuses, parts, stops, passes, Act, at}
use Rattle.machine.specs.Machine.{ended, gave, tells_rest, left, owed_behind, ◌▸▸◌, onward, move_of, said, step_of, owes_of, machine, start}

abbrev pub unplaced : {S : Type 0} → Act S → Act S
unplaced (at p d) = at 0 d

abbrev pub unplaced_all : {S : Type 0} → List (Act S) → List (Act S)
unplaced_all [] = []
unplaced_all (a ∷ acts) = unplaced a ∷ unplaced_all acts

abbrev pub bare_refusal : Refusal → Refusal
bare_refusal r = record { why = r.why; place = 0 }

abbrev pub bare : {E : Type 0} → Stream Refusal E → Stream Refusal E
bare {E} s = each bare_refusal (λ (x : E). x) s

-- what only parts its neighbours, or is passed over, is never refused, and needs no place
abbrev pub ActAt : {S : Type 0} → (ℕ → Type 0) → Act S → Type 0
ActAt P (at p parts) = Unit {0}
ActAt P (at p opens) = P p
ActAt P (at p closes) = P p
ActAt P (at p (sets ss)) = P p
ActAt P (at p (says bs)) = P p
ActAt P (at p (tells bs)) = P p
ActAt P (at p (unit num)) = P p
ActAt P (at p (refuses why)) = P p
ActAt P (at p (stops why)) = P p
ActAt P (at p passes) = Unit {0}

abbrev pub ActsAt : {S : Type 0} → (ℕ → Type 0) → List (Act S) → Type 0
ActsAt P [] = Unit {0}
ActsAt P (a ∷ acts) = ActAt P a × ActsAt P acts

abbrev pub StopsAt : {E : Type 0} → (ℕ → Type 0) → Stream Refusal E → Type 0
StopsAt P end = Unit {0}
StopsAt P (stop r) = Told P r
StopsAt P (x ▸ s) = StopsAt P s

front-bare : {E : Type 0} (xs : List E) (s : Stream Refusal E) → xs ▸▸ bare s ≡ bare (xs ▸▸ s)
unfolding each ◌▸▸◌
front-bare [] s = refl
front-bare (x ∷ xs) s = ap (λ (t : Stream Refusal _). x ▸ t) (front-bare xs s)

onward-bare : {R E : Type 0} (p : ℕ) (x : Fate (List R)) (s : Stream Refusal E) → onward 0 x (bare s) ≡ bare (onward p x s)
unfolding each
onward-bare p (becomes st) s = refl
onward-bare p (fails why) s = ap (λ (r : Refusal). stop r) (at_zero why)

module _ {E : Type 0} (P : ℕ → Type 0) where
  front-stops : (xs : List E) (s : Stream Refusal E) → StopsAt P s → StopsAt P (xs ▸▸ s)
  unfolding ◌▸▸◌
  front-stops [] s h = h
  front-stops (x ∷ xs) s h = front-stops xs s h

  onward_stops : {R : Type 0} (p : ℕ) (x : Fate (List R)) (s : Stream Refusal E) → P p → StopsAt P s → StopsAt P (onward p x s)
  onward_stops p (becomes st) s here more = more
  onward_stops p (fails why) s here more = told_at P why p here

-- what is left of an act stands where the act does
rest_at : (S : Type 0) (P : ℕ → Type 0) (p : ℕ) (l : List ℕ) → P p → ActAt {S = S} P (at p (tells_rest l))
rest_at S P p [] h = tt
rest_at S P p (b ∷ l) h = h

left_at : {S : Type 0} (P : ℕ → Type 0) (n p : ℕ) (d : Deed S) → ActAt P (at p d) → ActAt P (at p (left n d))
unfolding left
left_at P zero p d h = h
left_at P (suc n) p parts h = tt
left_at P (suc n) p opens h = h
left_at P (suc n) p closes h = h
left_at P (suc n) p (tells bs) h = rest_at _ P p (drop (suc n) bs) h
left_at P (suc n) p (sets ss) h = tt
left_at P (suc n) p (says bs) h = tt
left_at P (suc n) p (unit num) h = tt
left_at P (suc n) p (refuses why) h = tt
left_at P (suc n) p (stops why) h = tt
left_at P (suc n) p passes h = tt

module _ {R S E : Type 0} (states : States R S E) (steps : Steps R) where
  pub machine-unplaced : (st : List R) (run : Run) (n : ℕ) (acts : List (Act S))
      → machine states steps st run n (unplaced_all acts) ≡ each bare_refusal (λ (x : E). x) (machine states steps st run n acts)
  unfolding machine each
  machine-unplaced st run n [] = front-bare (said states st (ended run) parts) end
  machine-unplaced st run n (at p d ∷ acts) =
      let e : Deed S = left n d in
      let g : Gave = gave (step_of steps st) run e in
      let x : Fate (List R) = moved states.fresh st (move_of states e) in
      let k : ℕ = owed_behind (owes_of steps st) n d in
      let more : Stream Refusal E = machine states steps (stack_of x) g.run k acts in
      rw (machine-unplaced (stack_of x) g.run k acts, onward-bare p x more) (front-bare (said states st g e) (onward p x more))

  pub start-unplaced : (acts : List (Act S)) → start states steps (unplaced_all acts) ≡ each bare_refusal (λ (x : E). x) (start states steps acts)
  start-unplaced acts = machine-unplaced (states.fresh ∷ []) before 0 acts

  module _ (P : ℕ → Type 0) where
    act-stops : (st : List R) (p : ℕ) (d : Deed S) (s : Stream Refusal E) → ActAt P (at p d) → StopsAt P s → StopsAt P (onward p (moved states.fresh st (move_of states d)) s)
    unfolding moved
    act-stops [] p parts s h k = k
    act-stops (top ∷ rest) p parts s h k = k
    act-stops [] p passes s h k = k
    act-stops (top ∷ rest) p passes s h k = k
    act-stops st p opens s h k = onward_stops P p (moved states.fresh st (move_of states opens)) s h k
    act-stops st p closes s h k = onward_stops P p (moved states.fresh st (move_of states closes)) s h k
    act-stops st p (sets ss) s h k = onward_stops P p (moved states.fresh st (move_of states (sets ss))) s h k
    act-stops st p (says bs) s h k = onward_stops P p (moved states.fresh st (move_of states (says bs))) s h k
    act-stops st p (tells bs) s h k = onward_stops P p (moved states.fresh st (move_of states (tells bs))) s h k
    act-stops st p (unit num) s h k = onward_stops P p (moved states.fresh st (move_of states (unit num))) s h k
    act-stops st p (refuses why) s h k = onward_stops P p (moved states.fresh st (move_of states (refuses why))) s h k
    act-stops st p (stops why) s h k = onward_stops P p (moved states.fresh st (move_of states (stops why))) s h k

    pub machine-places : (st : List R) (run : Run) (n : ℕ) (acts : List (Act S)) → ActsAt P acts → StopsAt P (machine states steps st run n acts)
    unfolding machine
    machine-places st run n [] h = front-stops P (said states st (ended run) parts) end tt
    machine-places st run n (at p d ∷ acts) h =
        let e : Deed S = left n d in
        let g : Gave = gave (step_of steps st) run e in
        let x : Fate (List R) = moved states.fresh st (move_of states e) in
        let k : ℕ = owed_behind (owes_of steps st) n d in
        let more : Stream Refusal E = machine states steps (stack_of x) g.run k acts in
        front-stops P (said states st g e) (onward p x more) (act-stops st p e more (left_at P n p d h.0) (machine-places (stack_of x) g.run k acts h.1))

    pub start-places : (acts : List (Act S)) → ActsAt P acts → StopsAt P (start states steps acts)
    start-places acts = machine-places (states.fresh ∷ []) before 0 acts
