-- The machine over tokens in two parts, whatever a state is made of.
--     moves, sayings              what tokens do to the stack; what is said at them, up to a refusal
--     run_behind, owed_after        the run under way behind them, and how many characters are still to be passed over
--     refused_at                   the place of the first of them that is refused, if one is
--     goes_on                      what is said at tokens behind others; if those were refused, the refusal, at its place
--     machine-append              the machine over both parts: what is said at the first, and then, if it was not refused, the machine over
--                                 the second, from the stack and the run that the first leaves
--     machine-group               a group leaves no trace: the machine goes on behind it from the stack before it, with no run under way
-- Assumes nothing.
use mathlib.Core.Path.{◌≡◌, refl, sym, ap, ◌∙◌}
use mathlib.Core.List.{List, [], ◌∷◌, ◌++◌, append-nil}
use Prim.Native.Nat.{ℕ, zero, suc}
use Rattle.answers.specs.declared.Refusal.{Refusal}
use Rattle.answers.specs.Answers.{Fate, becomes, fails}
use Rattle.rooms.specs.Streams.{Stream}
use Rattle.units.specs.declared.Run.{Run}
use Rattle.units.specs.declared.Gave.{Gave}
use Rattle.units.specs.Units.{before}
use Rattle.machine.specs.Stack.{Move, moved, stack_of}
use Rattle.machine.specs.Stack as move
use Rattle.machine.specs.Moves.{moved_from, moved_all, Inside}
use Rattle.machine.specs.Machine.{States, Steps, Deed, opens, closes, Act, at, gave, left, owed_behind, ◌▸▸◌, onward, move_of, said, step_of, owes_of, machine}
use Rattle.machine.proofs.Argument.{refused_all, group-gone}
use Rattle.machine.proofs.Runs.{front-append}

-- what is said behind a move, if it was one
abbrev said_on : {R E : Type 0} → Fate (List R) → List E → List E
said_on (becomes st) more = more
said_on (fails why) more = []

-- the place of a token that is refused, or that of one behind it
abbrev place_on : {R : Type 0} → ℕ → Fate (List R) → ℕ → ℕ
place_on p (becomes st) more = more
place_on p (fails why) more = p

module _ {R S E : Type 0} (states : States R S E) (steps : Steps R) where
  unfoldable pub moves : List R → Run → ℕ → List (Act S) → List (Move R)
  moves st run n [] = []
  moves st run n (at p d ∷ acts) =
      let m = move_of states (left n d) in
      m ∷ moves (stack_of (moved states.fresh st m)) (gave (step_of steps st) run (left n d)).run (owed_behind (owes_of steps st) n d) acts

  unfoldable pub sayings : List R → Run → ℕ → List (Act S) → List E
  sayings st run n [] = []
  sayings st run n (at p d ∷ acts) =
      let g = gave (step_of steps st) run (left n d) in
      let x = moved states.fresh st (move_of states (left n d)) in
      said states st g (left n d) ++ said_on x (sayings (stack_of x) g.run (owed_behind (owes_of steps st) n d) acts)

  unfoldable pub run_behind : List R → Run → ℕ → List (Act S) → Run
  run_behind st run n [] = run
  run_behind st run n (at p d ∷ acts) =
      run_behind (stack_of (moved states.fresh st (move_of states (left n d)))) (gave (step_of steps st) run (left n d)).run (owed_behind (owes_of steps st) n d) acts

  unfoldable pub owed_after : List R → Run → ℕ → List (Act S) → ℕ
  owed_after st run n [] = n
  owed_after st run n (at p d ∷ acts) =
      owed_after (stack_of (moved states.fresh st (move_of states (left n d)))) (gave (step_of steps st) run (left n d)).run (owed_behind (owes_of steps st) n d) acts

  unfoldable pub refused_at : List R → Run → ℕ → List (Act S) → ℕ
  refused_at st run n [] = 0
  refused_at st run n (at p d ∷ acts) =
      let x = moved states.fresh st (move_of states (left n d)) in
      place_on p x (refused_at (stack_of x) (gave (step_of steps st) run (left n d)).run (owed_behind (owes_of steps st) n d) acts)

  -- what is said at the second part, by what the first one leaves
  abbrev pub goes_on : ℕ → Fate (List R) → Run → ℕ → List (Act S) → Stream Refusal E
  goes_on p x run n more = onward p x (machine states steps (stack_of x) run n more)

  -- the law below, behind a first token that says `now`
  append-behind : (run : Run) (n : ℕ) (acts more : List (Act S))
      → ((st : List R) → machine states steps st run n (acts ++ more)
      ≡ sayings st run n acts ▸▸ goes_on (refused_at st run n acts) (moved_all states.fresh st (moves st run n acts)) (run_behind st run n acts) (owed_after st run n acts) more)
      → (now : List E) (p : ℕ) (x : Fate (List R)) → now ▸▸ goes_on p x run n (acts ++ more)
      ≡ (now ++ said_on x (sayings (stack_of x) run n acts)) ▸▸ goes_on (place_on p x (refused_at (stack_of x) run n acts)) (moved_from states.fresh x (moves (stack_of x) run n acts))
      (run_behind (stack_of x) run n acts) (owed_after (stack_of x) run n acts) more
  append-behind run n acts more law now p (becomes st) = ap (λ (s : Stream Refusal E). now ▸▸ s) (law st) ∙ sym (front-append now (sayings st run n acts) _)
  append-behind run n acts more law now p (fails why) = rw (append-nil, refused_all states.fresh why (moves [] run n acts))

  pub machine-append : (st : List R) (run : Run) (n : ℕ) (acts more : List (Act S))
      → machine states steps st run n (acts ++ more)
      ≡ sayings st run n acts ▸▸ goes_on (refused_at st run n acts) (moved_all states.fresh st (moves st run n acts)) (run_behind st run n acts) (owed_after st run n acts) more
  unfolding machine moves sayings run_behind owed_after refused_at moved_from ◌▸▸◌
  machine-append st run n [] more = refl
  machine-append st run n (at p d ∷ acts) more =
      let e : Deed S = left n d in
      let g : Gave = gave (step_of steps st) run e in
      let k : ℕ = owed_behind (owes_of steps st) n d in
      append-behind g.run k acts more (λ s. machine-append s g.run k acts more) (said states st g e) p (moved states.fresh st (move_of states e))

  -- a bracket ends every run, and what is to be passed over
  run-closed : (st : List R) (run : Run) (n : ℕ) (acts : List (Act S)) (q : ℕ)
      → (run_behind st run n (acts ++ (at q closes ∷ [])) ≡ before) × (owed_after st run n (acts ++ (at q closes ∷ [])) ≡ 0)
  unfolding run_behind owed_after gave left owed_behind
  run-closed st run zero [] q = (refl, refl)
  run-closed st run (suc n) [] q = (refl, refl)
  run-closed st run n (at p d ∷ acts) q =
      run-closed (stack_of (moved states.fresh st (move_of states (left n d)))) (gave (step_of steps st) run (left n d)).run (owed_behind (owes_of steps st) n d) acts q

  module _ (st st' : List R) (run : Run) (n p q : ℕ) (acts more : List (Act S)) where
    -- the tokens of a group, its brackets at p and at q
    abbrev group : List (Act S)
    group = at p opens ∷ (acts ++ (at q closes ∷ []))

    -- what stands between the brackets is moved inside the group
    abbrev Between : List (Move R) → Type 0
    Between ms = moves st run n group ≡ move.opens ∷ (ms ++ (move.closes ∷ []))

    pub machine-group : (ms : List (Move R)) → Between ms → Inside 0 ms 0 → moved_all states.fresh st (moves st run n group) ≡ becomes st'
        → machine states steps st run n (group ++ more) ≡ sayings st run n group ▸▸ machine states steps st before 0 more
    machine-group ms b i e =
        let s : st' ≡ st = group-gone states.fresh st st' ms i (ap (moved_all states.fresh st) (sym b) ∙ e) in
        let c = run-closed st run n (at p opens ∷ acts) q in
        machine-append st run n group more ∙ rw (e, s, c.0, c.1)
