-- 01, Body: moves of the stack, one after the other; which of them are refused; moves inside a group. Assumes nothing: these are
-- definitions.
use Rattle.std.specs.Prelude.{ℕ, zero, suc, ◌≡◌, List, [], ◌∷◌, length}
use Rattle.answers.specs.declared.Why.{Why}
use Rattle.answers.specs.declared.Why.TheVariants.{NoState, TooDeep}
use Rattle.answers.specs.Answers.{Fate, becomes, fails}
use Rattle.machine.specs.Stack.{stack_limit, Move, opens, closes, within, stays, stops, moved}

module _ {R : Type 0} where
  -- a move, if none before it was refused
  abbrev pub next : R → Fate (List R) → Move R → Fate (List R)
  next fresh (becomes st) m = moved fresh st m
  next fresh (fails why) m = fails why

  unfoldable pub moved_from : R → Fate (List R) → List (Move R) → Fate (List R)
  moved_from fresh h [] = h
  moved_from fresh h (m ∷ ms) = moved_from fresh (next fresh h m) ms

  -- moves, one after the other: the first refusal stands
  abbrev pub moved_all : R → List R → List (Move R) → Fate (List R)
  moved_all fresh st ms = moved_from fresh (becomes st) ms

  -- when a move is refused, and why. 14: "closing bracket, control word, text or line break with no state left"; 16: "an opening
  -- bracket with 64 states held"
  abbrev pub Refuses : List R → Move R → Why → Type 0
  Refuses st opens why = (length st ≡ stack_limit) × (why ≡ TooDeep)
  Refuses [] closes why = why ≡ NoState
  Refuses (top ∷ rest) closes why = ⊥
  Refuses [] (within f) why = why ≡ NoState
  Refuses (top ∷ rest) (within f) why = f top ≡ fails why
  Refuses st stays why = ⊥
  Refuses st (stops own) why = why ≡ own

  -- moves inside a group: its own bracket and n others stand open before them, its own and k others behind them, and none of them
  -- closes the group
  abbrev pub Inside : ℕ → List (Move R) → ℕ → Type 0
  Inside n [] k = n ≡ k
  Inside n (opens ∷ ms) k = Inside (suc n) ms k
  Inside zero (closes ∷ ms) k = ⊥
  Inside (suc n) (closes ∷ ms) k = Inside n ms k
  Inside n (within f ∷ ms) k = Inside n ms k
  Inside n (stays ∷ ms) k = Inside n ms k
  Inside n (stops why ∷ ms) k = Inside n ms k
