-- 01, Body, and 02, A1 and A4: what is said, one token at a time, over a stack of states and a run of units under way, whatever a state is made of.
-- Assumes nothing: these are definitions.
use Rattle.std.specs.Prelude.{ℕ, zero, suc, ◌-◌, List, [], ◌∷◌, ◌++◌, Bool, true, false, cond, length, drop}
use Rattle.answers.specs.declared.Why.{Why}
use Rattle.answers.specs.declared.Refusal.{Refusal}
use Rattle.answers.specs.Answers.{Fate, becomes, fails, refusal_at}
use Rattle.rooms.specs.Streams.{Stream, end, stop, ◌▸◌}
use Rattle.utf8.specs.Utf8.{written}
use Rattle.units.specs.declared.Run.{Run}
use Rattle.units.specs.declared.Gave.{Gave}
use Rattle.units.specs.Units.{before, nothing, cut_short, values}
use Rattle.machine.specs.Stack.{Move, moved, stack_of}
use Rattle.machine.specs.Stack as move
use Rattle.std.specs.Prelude.{Option}

-- what a state is made of: a fresh one; one with a setting done; and what is said in it
pub record States (R S E : Type 0) : Type 0 where
  pub fresh : R
  pub put : S → R → R
  pub say : R → List ℕ → E

-- what a `u` token does in a state, by the reading: to the run of units; and how many characters are passed over behind it
pub record Steps (R : Type 0) : Type 0 where
  pub step : R → Run → Option ℕ → Gave
  pub owes : R → ℕ

-- what a token does: a bracket; settings; a character; a text of the source; a unit of a run; a refusal, where there is a state; nothing, but
-- that it stands between its neighbours; a refusal; nothing at all, as it is passed over
pub data Deed (S : Type 0) : Type 0 where
  opens : Deed S
  closes : Deed S
  sets : List S → Deed S
  says : List ℕ → Deed S
  tells : List ℕ → Deed S
  unit : Option ℕ → Deed S
  refuses : Why → Deed S
  parts : Deed S
  stops : Why → Deed S
  passes : Deed S

-- 02, A4: a deed, and the place of the slice that its token was cut from
pub data Act (S : Type 0) : Type 0 where
  at : ℕ → Deed S → Act S

-- "A run of adjacent `u` tokens gives units": any other token ends it, and a surrogate that waits is lost
abbrev pub ended : Run → Gave
ended run = cut_short run

unfoldable pub gave : {S : Type 0} → (Run → Option ℕ → Gave) → Run → Deed S → Gave
gave step run (unit num) = step run num
gave step run passes = nothing run
gave step run opens = ended run
gave step run closes = ended run
gave step run (sets ss) = ended run
gave step run (says bs) = ended run
gave step run (tells bs) = ended run
gave step run (refuses why) = ended run
gave step run parts = ended run
gave step run (stops why) = ended run

-- a token's own text
abbrev pub texts_of : {S : Type 0} → Deed S → List (List ℕ)
texts_of (says bs) = bs ∷ []
texts_of (tells bs) = bs ∷ []
texts_of (unit num) = []
texts_of opens = []
texts_of closes = []
texts_of (sets ss) = []
texts_of (refuses why) = []
texts_of parts = []
texts_of (stops why) = []
texts_of passes = []

-- 02, A1: "a text byte, a hex escape, a word (a `\u` too) or a symbol (a line break, `\*`, one without meaning) each count one; a brace ends it,
-- also that of a group that the walk took. What is passed over has no effect and no refusal. .. A text may be passed over in part."
abbrev pub is_brace : {S : Type 0} → Deed S → Bool
is_brace opens = true
is_brace closes = true
is_brace parts = true
is_brace (sets ss) = false
is_brace (says bs) = false
is_brace (tells bs) = false
is_brace (unit num) = false
is_brace (refuses why) = false
is_brace (stops why) = false
is_brace passes = false

-- how many characters a token is
abbrev pub counts : {S : Type 0} → Deed S → ℕ
counts (tells bs) = length bs
counts opens = 0
counts closes = 0
counts parts = 0
counts passes = 0
counts (sets ss) = 1
counts (says bs) = 1
counts (unit num) = 1
counts (refuses why) = 1
counts (stops why) = 1

abbrev pub tells_rest : {S : Type 0} → List ℕ → Deed S
tells_rest [] = passes
tells_rest (b ∷ bs) = tells (b ∷ bs)

-- what is left of it where n characters are passed over
abbrev pub without : {S : Type 0} → ℕ → Deed S → Deed S
without n (tells bs) = tells_rest (drop n bs)
without n opens = opens
without n closes = closes
without n parts = parts
without n passes = passes
without n (sets ss) = passes
without n (says bs) = passes
without n (unit num) = passes
without n (refuses why) = passes
without n (stops why) = passes

-- what a token does where n characters are still to be passed over
unfoldable pub left : {S : Type 0} → ℕ → Deed S → Deed S
left zero d = d
left (suc n) d = without (suc n) d

-- whether nothing is left of it
abbrev pub is_passed : {S : Type 0} → Deed S → Bool
is_passed passes = true
is_passed opens = false
is_passed closes = false
is_passed (sets ss) = false
is_passed (says bs) = false
is_passed (tells bs) = false
is_passed (unit num) = false
is_passed (refuses why) = false
is_passed parts = false
is_passed (stops why) = false

-- "After every `\u` .. the next skip-count characters are passed over": a token that is read owes so many characters
abbrev pub owing : {S : Type 0} → ℕ → Deed S → ℕ
owing owes (unit num) = owes
owing owes opens = 0
owing owes closes = 0
owing owes parts = 0
owing owes passes = 0
owing owes (sets ss) = 0
owing owes (says bs) = 0
owing owes (tells bs) = 0
owing owes (refuses why) = 0
owing owes (stops why) = 0

-- how many are to be passed over behind it
unfoldable pub owed_behind : {S : Type 0} → ℕ → ℕ → Deed S → ℕ
owed_behind owes zero d = owing owes d
owed_behind owes (suc n) d = cond (is_brace d) 0 (suc n - counts d)

-- "Kept units become UTF-8": each value by itself
unfoldable pub written_all : List ℕ → List (List ℕ)
written_all [] = []
written_all (c ∷ cs) = written c ∷ written_all cs

-- items in front of a stream
infixr 40 ◌▸▸◌
unfoldable pub ◌▸▸◌ : {F E : Type 0} → List E → Stream F E → Stream F E
[] ▸▸ s = s
(x ∷ xs) ▸▸ s = x ▸ (xs ▸▸ s)

-- what is said behind a move of the token at p, if it was one
abbrev pub onward : {R E : Type 0} → ℕ → Fate (List R) → Stream Refusal E → Stream Refusal E
onward p (becomes st) more = more
onward p (fails why) more = stop (refusal_at why p)

module _ {R S E : Type 0} (states : States R S E) where
  -- settings, one after the other
  unfoldable pub settle : List S → R → R
  settle [] r = r
  settle (s ∷ ss) r = settle ss (states.put s r)

  -- what a token does to the stack
  abbrev pub move_of : Deed S → Move R
  move_of opens = move.opens
  move_of closes = move.closes
  move_of (sets ss) = move.within (λ r. becomes (settle ss r))
  move_of (says bs) = move.within (λ r. becomes r)
  move_of (tells bs) = move.within (λ r. becomes r)
  move_of (unit num) = move.within (λ r. becomes r)
  move_of (refuses why) = move.within (λ r. fails why)
  move_of parts = move.stays
  move_of (stops why) = move.stops why
  move_of passes = move.stays

  -- texts of the top state
  unfoldable pub spoken : R → List (List ℕ) → List E
  spoken top [] = []
  spoken top (bs ∷ texts) = states.say top bs ∷ spoken top texts

  -- what is said at a token: what the run gives, then the token's own text, in the state that the token finds
  unfoldable pub said : List R → Gave → Deed S → List E
  said [] g d = []
  said (top ∷ rest) g d = spoken top (written_all (values g) ++ texts_of d)

-- what a `u` token does in the top state; where there is none it is refused, and does nothing
module _ {R : Type 0} (steps : Steps R) where
  abbrev pub step_of : List R → Run → Option ℕ → Gave
  step_of [] run num = nothing run
  step_of (top ∷ rest) run num = steps.step top run num

  abbrev pub owes_of : List R → ℕ
  owes_of [] = 0
  owes_of (top ∷ rest) = steps.owes top

module _ {R S E : Type 0} (states : States R S E) (steps : Steps R) where
  -- token by token, where n characters are still to be passed over
  unfoldable pub machine : List R → Run → ℕ → List (Act S) → Stream Refusal E
  machine st run n [] = said states st (ended run) parts ▸▸ end
  machine st run n (at p d ∷ acts) =
      let e = left n d in
      let g = gave (step_of steps st) run e in
      let m = moved states.fresh st (move_of states e) in
      said states st g e ▸▸ onward p m (machine (stack_of m) g.run (owed_behind (owes_of steps st) n d) acts)

  -- "One is held at the start."
  abbrev pub start : List (Act S) → Stream Refusal E
  start acts = machine (states.fresh ∷ []) before 0 acts
