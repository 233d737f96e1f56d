-- What the code answers for one token: what becomes of the array of states, of the run and of the page. Assumes nothing: these are
-- definitions.
use Rattle.std.specs.Prelude.{ℕ, ◌≤◌, ◌<◌, ◌≡◌, List, [], cond, length, get_or, ltb, eqb}
use Rattle.answers.specs.declared.Why.{Why}
use Rattle.answers.specs.Answers.{Fate, becomes, fails}
use Rattle.readings.specs.declared.Reading.{Reading}
use Rattle.tokens.specs.Items.{item_at, shown_of, number_at}
use Rattle.settings.specs.Fields.{Setting, fresh_row}
use Rattle.settings.specs.Effects.{Effect, effect}
use Rattle.units.specs.declared.Run.{Run}
use Rattle.units.specs.declared.Gave.{Gave}
use Rattle.machine.specs.Stack.{stack_limit, moved, held}
use Rattle.machine.specs.Machine.{Deed, parts, move_of, said}
use Rattle.blocks.specs.declared.Page.{Page}
use Rattle.blocks.specs.Laying.{Laying, on, off, Ready}
use Rattle.runs.specs.Runs.{rows, laid_all}
use Rattle.deeds.specs.Deeds.{token_deed, symbol_effect}
use Rattle.std.specs.Prelude.{Result, Ok, Err}
use Rattle.std.specs.Result.{result_and}

-- what the token that words start with does, where the walk passes over h tokens behind it
unfoldable pub deed_at : Reading → List ℕ → List ℕ → ℕ → Deed Setting
deed_at rd src ws h = cond (ltb 0 h) parts (token_deed rd (shown_of src (item_at ws)))

-- the effect of a word or a symbol that words start with
unfoldable pub effect_at : Reading → List ℕ → Effect
effect_at rd ws = cond (eqb (get_or ws 0 0) 5) (effect rd (get_or ws 1 0) (number_at ws)) (symbol_effect (get_or ws 1 0) (number_at ws))

-- what an answer says of the states that it leaves
abbrev pub moved_by : Result ℕ Why → List (List ℕ) → Fate (List (List ℕ))
moved_by (Ok d) states = becomes (held [] states d)
moved_by (Err why) states = fails why

-- where text was laid the stack stays as it is
abbrev pub stays_by : Result Unit Why → ℕ → Result ℕ Why
stays_by room d = result_and room (Ok d)

-- its place is in the array
abbrev pub Deep : Result ℕ Why → Type 0
Deep (Ok d) = d ≤ stack_limit
Deep (Err why) = 0 < stack_limit

pub record Took (r : Result ℕ Why) (states : List (List ℕ)) (m : Fate (List (List ℕ))) : Type 0 where
  pub does : moved_by r states ≡ m
  pub deep : Deep r
  pub all : length states ≡ stack_limit

-- where a token leads: on, with a stack, a run, and a page with its rooms; or to a refusal, whose place the loop adds
pub data Turned : Type 0 where
  goes : List (List ℕ) → Run → Page → List ℕ → List ℕ → Turned
  ends : Why → Turned

-- what is said at a token is laid first, then the stack moves: a refusal of the first is met first
abbrev pub turned : Laying → Fate (List (List ℕ)) → Run → Turned
turned (on p b t) (becomes st) run = goes st run p b t
turned (on p b t) (fails why) run = ends why
turned (off r) m run = ends r.why

-- a token, where its run gives g
unfoldable pub turn_of : List (List ℕ) → Page → List ℕ → List ℕ → Gave → Deed Setting → Turned
turn_of st p b t g d = turned (laid_all (on p b t) (said rows st g d)) (moved fresh_row st (move_of rows d)) g.run

-- what the code's answer says, with the states, the run and the page that it leaves
pub record Turns (r : Result ℕ Why) (states : List (List ℕ)) (run : Run) (page : Page) (b t : List ℕ) (w v : ℕ) (z : Turned) : Type 0 where
  pub does : turned (on page b t) (moved_by r states) run ≡ z
  pub deep : Deep r
  pub all : length states ≡ stack_limit
  pub ready : Ready page w v
