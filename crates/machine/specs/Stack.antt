-- 01, Body: the stack of states, the top in front, whatever a state is and whatever is done to it. Assumes nothing: these are
-- definitions.
use Rattle.std.specs.Prelude.{ℕ, zero, suc, List, [], ◌∷◌, cond, length, get_or, eqb}
use Rattle.answers.specs.declared.Why.{Why}
use Rattle.answers.specs.declared.Why.TheVariants.{NoState, TooDeep}
use Rattle.answers.specs.Answers.{Fate, becomes, fails}

-- "the state stack an array of 64"
abbrev pub stack_limit : ℕ
stack_limit = 64

-- what is done to a stack: a bracket; something to the top, which then becomes another state or refuses; nothing; a refusal, whether
-- there is a state or not
pub data Move (R : Type 0) : Type 0 where
  opens : Move R
  closes : Move R
  within : (R → Fate R) → Move R
  stays : Move R
  stops : Why → Move R

module _ {R : Type 0} where
  abbrev pub topped : List R → Fate R → Fate (List R)
  topped rest (becomes r) = becomes (r ∷ rest)
  topped rest (fails why) = fails why

  -- "Opening copies the top, or adds a fresh one if none; closing drops one."; 16: "an opening bracket with 64 states held"; 14:
  -- "closing bracket, control word, text or line break with no state left"
  unfoldable pub moved : R → List R → Move R → Fate (List R)
  moved fresh [] opens = becomes (fresh ∷ [])
  moved fresh (top ∷ rest) opens = cond (eqb (suc (length rest)) stack_limit) (fails TooDeep) (becomes (top ∷ top ∷ rest))
  moved fresh [] closes = fails NoState
  moved fresh (top ∷ rest) closes = becomes rest
  moved fresh [] (within f) = fails NoState
  moved fresh (top ∷ rest) (within f) = topped rest (f top)
  moved fresh st stays = becomes st
  moved fresh st (stops why) = fails why

  -- the stack behind a move
  abbrev pub stack_of : Fate (List R) → List R
  stack_of (becomes st) = st
  stack_of (fails why) = []

  -- the first d states of an array as a stack: the last of them is the top
  unfoldable pub held : R → List R → ℕ → List R
  held none states zero = []
  held none states (suc d) = get_or states d none ∷ held none states d
