-- What a run of adjacent `u` tokens says is its text, as 01 defines it, whatever a state is made of.
--     texts_of_run        the texts said at each token of a run, and at what ends it
--     texts-run         joined they are `run_text`, if the numbers fit their words
--     units, numbers    the acts of `u` tokens, by their places and numbers; the numbers
--     Elsewhere         what may follow a run: the end, or a token that is read and is no `u` token
--     front-append      items in front of a stream, in two parts
--     machine-units     where a `u` token steps as 01 has it, the machine over a run that has come so far: those texts, in the top state, then what follows, no run under way
--     machine-run       the machine over a whole run: texts, which joined are `run_text`, in the top state, then what follows
-- Assumes nothing.
use mathlib.Core.Path.{◌≡◌, refl, sym, ap, ◌∙◌}
use mathlib.Core.List.{List, [], ◌∷◌, ◌++◌, map, flatten, append-nil, append_assoc}
use mathlib.Core.Bool.{Bool, true, false, cond}
use Prim.Native.Nat.{ℕ}
use lib.Dec.{ltb}
use Rattle.answers.specs.declared.Refusal.{Refusal}
use Rattle.rooms.specs.Streams.{Stream, end}
use Rattle.utf8.proofs.Utf8.{written-scalar}
use Rattle.units.specs.declared.Run.{Run}
use Rattle.units.specs.declared.Gave.{Gave}
use Rattle.units.specs.Units.{before, step, values, flushed, utf8_all, run_text}
use Rattle.units.proofs.Units.{Numbers32, Scalars, walk, utf8_all-append, text-walk, values-scalars}
use Rattle.machine.specs.Stack.{moved}
use Rattle.machine.specs.Machine.{States, Steps, opens, closes, sets, says, tells, unit, refuses, parts, stops, passes, Act, at}
use Rattle.machine.specs.Machine.{ended, gave, left, owed_behind, written_all, ◌▸▸◌, spoken, said, machine}
use Rattle.std.specs.Prelude.{Option}

-- ---- the texts of a run

unfoldable pub texts_of_run : ℕ → Run → List (Option ℕ) → List (List ℕ)
texts_of_run skip run [] = written_all (values (ended run))
texts_of_run skip run (n ∷ ns) = written_all (values (step skip run n)) ++ texts_of_run skip (step skip run n).run ns

flatten-append : (a b : List (List ℕ)) → flatten (a ++ b) ≡ flatten a ++ flatten b
unfolding flatten
flatten-append [] b = refl
flatten-append (x ∷ a) b = rw (flatten-append a b, append_assoc)

-- scalar values, written one by one
written-scalars : (cs : List ℕ) → Scalars cs → flatten (written_all cs) ≡ utf8_all cs
unfolding flatten written_all utf8_all
written-scalars [] h = refl
written-scalars (c ∷ cs) h = rw (written-scalar c h.0, written-scalars cs h.1)

-- what waits at the end of a run is lost
written-ended : (run : Run) → flatten (written_all (values (ended run))) ≡ utf8_all (flushed run)
unfolding values flushed
written-ended run = go (ltb 0 run.high)
  where
    go : (t : Bool) → flatten (written_all (cond t (65533 ∷ []) [] ++ [])) ≡ utf8_all (cond t (65533 ∷ []) [])
    go true = written-scalars (65533 ∷ []) (refl, tt)
    go false = written-scalars [] tt

texts-walk : (skip : ℕ) (run : Run) (ns : List (Option ℕ)) → Numbers32 ns → flatten (texts_of_run skip run ns) ≡ utf8_all (walk skip run ns)
unfolding texts_of_run walk
texts-walk skip run [] h = written-ended run
texts-walk skip run (n ∷ ns) h =
    flatten-append (written_all (values (step skip run n))) (texts_of_run skip (step skip run n).run ns)
    ∙ rw (written-scalars (values (step skip run n)) (values-scalars skip run n h.0), texts-walk skip (step skip run n).run ns h.1)
    (sym (utf8_all-append (values (step skip run n)) (walk skip (step skip run n).run ns)))

pub texts-run : (skip : ℕ) (ns : List (Option ℕ)) → Numbers32 ns → flatten (texts_of_run skip before ns) ≡ run_text skip ns
texts-run skip ns h = texts-walk skip before ns h ∙ text-walk skip ns

-- ---- the machine over a run

pub front-append : {F E : Type 0} (a b : List E) (s : Stream F E) → (a ++ b) ▸▸ s ≡ a ▸▸ (b ▸▸ s)
unfolding ◌▸▸◌
front-append [] b s = refl
front-append (x ∷ a) b s = rw (front-append a b s)

abbrev pub units : {S : Type 0} → List (ℕ × Option ℕ) → List (Act S)
units ns = map (λ (n : ℕ × Option ℕ). at n.0 (unit n.1)) ns

abbrev pub numbers : List (ℕ × Option ℕ) → List (Option ℕ)
numbers ns = map (λ (n : ℕ × Option ℕ). n.1) ns

-- "A run of adjacent `u` tokens": what may follow it
abbrev pub Elsewhere : {S : Type 0} → List (Act S) → Type 0
Elsewhere [] = Unit {0}
Elsewhere (at p (unit n) ∷ acts) = ⊥
Elsewhere (at p opens ∷ acts) = Unit {0}
Elsewhere (at p closes ∷ acts) = Unit {0}
Elsewhere (at p (sets ss) ∷ acts) = Unit {0}
Elsewhere (at p (says bs) ∷ acts) = Unit {0}
Elsewhere (at p (tells bs) ∷ acts) = Unit {0}
Elsewhere (at p (refuses why) ∷ acts) = Unit {0}
Elsewhere (at p parts ∷ acts) = Unit {0}
Elsewhere (at p (stops why) ∷ acts) = Unit {0}
Elsewhere (at p passes ∷ acts) = ⊥

module _ {R S E : Type 0} (states : States R S E) where
  spoken-append : (top : R) (a b : List (List ℕ)) → spoken states top (a ++ b) ≡ spoken states top a ++ spoken states top b
  unfolding spoken
  spoken-append top [] b = refl
  spoken-append top (x ∷ a) b = rw (spoken-append top a b)

  -- texts in two parts
  front-spoken : (top : R) (a b : List (List ℕ)) (s : Stream Refusal E)
      → spoken states top (a ++ b) ▸▸ s ≡ spoken states top a ▸▸ (spoken states top b ▸▸ s)
  front-spoken top a b s = ap (λ (l : List E). l ▸▸ s) (spoken-append top a b) ∙ front-append (spoken states top a) (spoken states top b) s

  -- where a `u` token steps as 01 has it, and nothing is passed over behind it
  module _ (steps : Steps R) (top : R) (rest : List R) (skip : ℕ) (same : (run : Run) (num : Option ℕ) → steps.step top run num ≡ step skip run num)
      (none : steps.owes top ≡ 0) where
    -- what follows a run says first what the run still gives
    machine-ended : (run : Run) (more : List (Act S)) → Elsewhere more
        → machine states steps (top ∷ rest) run 0 more ≡ spoken states top (written_all (values (ended run))) ▸▸ machine states steps (top ∷ rest) before 0 more
    unfolding machine said gave left owed_behind values written_all
    machine-ended run [] h = front-spoken top (written_all (values (ended run))) [] end
    machine-ended run (at p (unit n) ∷ acts) h = absurd h
    machine-ended run (at p passes ∷ acts) h = absurd h
    machine-ended run (at p opens ∷ acts) h = front-spoken top (written_all (values (ended run))) [] _
    machine-ended run (at p closes ∷ acts) h = front-spoken top (written_all (values (ended run))) [] _
    machine-ended run (at p (sets ss) ∷ acts) h = front-spoken top (written_all (values (ended run))) [] _
    machine-ended run (at p (says bs) ∷ acts) h = front-spoken top (written_all (values (ended run))) (bs ∷ []) _
    machine-ended run (at p (tells bs) ∷ acts) h = front-spoken top (written_all (values (ended run))) (bs ∷ []) _
    machine-ended run (at p (refuses why) ∷ acts) h = front-spoken top (written_all (values (ended run))) [] _
    machine-ended run (at p parts ∷ acts) h = front-spoken top (written_all (values (ended run))) [] _
    machine-ended run (at p (stops why) ∷ acts) h = front-spoken top (written_all (values (ended run))) [] _

    pub machine-units : (run : Run) (ns : List (ℕ × Option ℕ)) (more : List (Act S)) → Elsewhere more
        → machine states steps (top ∷ rest) run 0 (units ns ++ more)
        ≡ spoken states top (texts_of_run skip run (numbers ns)) ▸▸ machine states steps (top ∷ rest) before 0 more
    unfolding texts_of_run machine said gave left owed_behind moved
    machine-units run [] more h = machine-ended run more h
    machine-units run (n ∷ ns) more h =
        let g : Gave = step skip run n.1 in
        rw (same run n.1, none, append-nil, machine-units g.run ns more h)
        (sym (front-spoken top (written_all (values g)) (texts_of_run skip g.run (numbers ns)) (machine states steps (top ∷ rest) before 0 more)))

    pub machine-run : (ns : List (ℕ × Option ℕ)) (more : List (Act S)) → Elsewhere more → Numbers32 (numbers ns)
        → (texts : List (List ℕ)) × (flatten texts ≡ run_text skip (numbers ns))
        × (machine states steps (top ∷ rest) before 0 (units ns ++ more) ≡ spoken states top texts ▸▸ machine states steps (top ∷ rest) before 0 more)
    machine-run ns more h small =
        (texts_of_run skip before (numbers ns), texts-run skip (numbers ns) small, machine-units before ns more h)
