-- The machine on small bodies, computed. A state is the number that was last set in it, 0 if none was; it skips one unit; what is
-- said in it is that number and the text. A body stands at place 10 of the source; a token has the place of its slice, which starts
-- at a bracket or a backslash. Assumes nothing.
use mathlib.Core.Path.{◌≡◌, refl}
use mathlib.Core.List.{List, [], ◌∷◌, ◌++◌}
use Prim.Native.Nat.{ℕ, zero, suc}
use Rattle.answers.specs.declared.Why.{Why}
use Rattle.answers.specs.declared.Why.TheVariants.{IgnorableInBody, NoState, LineSpacing, TooDeep}
use Rattle.answers.specs.declared.Refusal.{Refusal}
use Rattle.rooms.specs.Streams.{Stream, end, stop, ◌▸◌}
use Rattle.utf8.specs.Utf8.{utf8, written}
use Rattle.units.specs.Units.{unit_of, taken, met, met_any, step, taken_any, standard_step, values}
use Rattle.machine.specs.Stack.{moved}
use Rattle.machine.specs.Machine.{States, Steps, opens, closes, sets, says, tells, unit, refuses, parts, stops, Act, at}
use Rattle.machine.specs.Machine.{gave, left, owed_behind, written_all, ◌▸▸◌, settle, spoken, said, machine, start}
use Rattle.std.specs.Prelude.{Some}

abbrev last : States ℕ ℕ (ℕ × List ℕ)
last = record { fresh = 0; put = λ s r. s; say = λ r bs. (r, bs) }

-- a `u` token as 01 has it, and by 02, A1
abbrev plainly : Steps ℕ
plainly = record { step = λ r. step 1; owes = λ r. 0 }

abbrev standardly : Steps ℕ
standardly = record { step = λ r. standard_step; owes = λ r. 1 }

-- what a body says
abbrev body : List (Act ℕ) → Stream Refusal (ℕ × List ℕ)
body acts = start last plainly acts

abbrev standard : List (Act ℕ) → Stream Refusal (ℕ × List ℕ)
standard acts = start last standardly acts

-- a refusal, and the place that it has
abbrev stop_at : Why → ℕ → Stream Refusal (ℕ × List ℕ)
stop_at w p = stop (record { why = w; place = p })

-- n opening brackets, the first of them at p
unfoldable brackets : ℕ → ℕ → List (Act ℕ)
brackets p zero = []
brackets p (suc n) = at p opens ∷ brackets (suc p) n

abbrev a : List ℕ
a = 97 ∷ []

abbrev b : List ℕ
b = 98 ∷ []

-- `{a}}`: one state is held at the start
closes-start : body (at 10 opens ∷ at 10 (says a) ∷ at 12 closes ∷ at 13 closes ∷ []) ≡ (0, a) ▸ end
unfolding machine said gave left owed_behind values written_all spoken moved ◌▸▸◌
closes-start = refl

-- `{a}}}b`: what was said stays said; the third closing bracket is refused
closes-below : body (at 10 opens ∷ at 10 (says a) ∷ at 12 closes ∷ at 13 closes ∷ at 14 closes ∷ at 14 (says b) ∷ []) ≡ (0, a) ▸ stop_at NoState 14
unfolding machine said gave left owed_behind values written_all spoken moved ◌▸▸◌
closes-below = refl

-- `}a`: the text is of the bracket's slice; `}\x7`: the word has one of its own
text-below : body (at 10 closes ∷ at 10 (says a) ∷ []) ≡ stop_at NoState 10
unfolding machine said gave left owed_behind values written_all spoken moved ◌▸▸◌
text-below = refl

word_below : body (at 10 closes ∷ at 11 (sets (7 ∷ [])) ∷ []) ≡ stop_at NoState 11
unfolding machine said gave left owed_behind values written_all spoken moved ◌▸▸◌
word_below = refl

-- `\x7}{a}`: an opening bracket with no state left adds a fresh one
opens-below : body (at 10 (sets (7 ∷ [])) ∷ at 13 closes ∷ at 14 opens ∷ at 14 (says a) ∷ at 16 closes ∷ []) ≡ (0, a) ▸ end
unfolding machine said gave left owed_behind values written_all spoken moved settle ◌▸▸◌
opens-below = refl

-- `}`, and a group that is passed over: that needs no state
parts_below : body (at 10 closes ∷ at 11 parts ∷ []) ≡ end
unfolding machine said gave left owed_behind values written_all spoken moved ◌▸▸◌
parts_below = refl

-- `\sl-2147483648`: 15 where there is a state, 14 where there is none; `\*` is 13 in either case
refuses-held : body (at 10 (refuses LineSpacing) ∷ []) ≡ stop_at LineSpacing 10
unfolding machine said gave left owed_behind values written_all spoken moved ◌▸▸◌
refuses-held = refl

refuses-below : body (at 10 closes ∷ at 11 (refuses LineSpacing) ∷ []) ≡ stop_at NoState 11
unfolding machine said gave left owed_behind values written_all spoken moved ◌▸▸◌
refuses-below = refl

stops-below : body (at 10 closes ∷ at 11 (stops IgnorableInBody) ∷ []) ≡ stop_at IgnorableInBody 11
unfolding machine said gave left owed_behind values written_all spoken moved ◌▸▸◌
stops-below = refl

-- 63 opening brackets: 64 states are held. One more is 16, and the place is that one's
sixty-four : body (brackets 10 63 ++ (at 72 (says a) ∷ [])) ≡ (0, a) ▸ end
unfolding brackets machine said gave left owed_behind values written_all spoken moved ◌▸▸◌
sixty-four = refl

sixty-five : body (brackets 10 64 ++ (at 73 (says a) ∷ [])) ≡ stop_at TooDeep 73
unfolding brackets machine said gave left owed_behind values written_all spoken moved ◌▸▸◌
sixty-five = refl

-- `{\x7 a}b`: what is set inside a group is gone behind it
group-gone : body (at 10 opens ∷ at 11 (sets (7 ∷ [])) ∷ at 11 (says a) ∷ at 16 closes ∷ at 16 (says b) ∷ []) ≡ (7, a) ▸ (0, b) ▸ end
unfolding machine said gave left owed_behind values written_all spoken moved settle ◌▸▸◌
group-gone = refl

-- `\x7{a\x8 }b`: and what was set before it is copied into it
group-copies : body (at 10 (sets (7 ∷ [])) ∷ at 13 opens ∷ at 13 (says a) ∷ at 15 (sets (8 ∷ [])) ∷ at 19 closes ∷ at 19 (says b) ∷ []) ≡ (7, a) ▸ (7, b) ▸ end
unfolding machine said gave left owed_behind values written_all spoken moved settle ◌▸▸◌
group-copies = refl

-- `\u-10179 \u-8704 `: two units that pair
pairs : body (at 10 (unit (Some 4294957117)) ∷ at 19 (unit (Some 4294958592)) ∷ []) ≡ (0, 240 ∷ 159 ∷ 152 ∷ 128 ∷ []) ▸ end
unfolding machine said gave left owed_behind step met_any met taken unit_of values written_all written utf8 spoken moved ◌▸▸◌
pairs = refl

-- `\u-10179{\u-8704 a}`: a bracket parts them: the first is lost at it, the second stands alone
parted : body (at 10 (unit (Some 4294957117)) ∷ at 18 opens ∷ at 19 (unit (Some 4294958592)) ∷ at 19 (says a) ∷ []) ≡ (0, 239 ∷ 191 ∷ 189 ∷ []) ▸ (0, 239 ∷ 191 ∷ 189 ∷ []) ▸ (0, a) ▸ end
unfolding machine said gave left owed_behind step met_any met taken unit_of values written_all written utf8 spoken moved ◌▸▸◌
parted = refl

-- `\u-10179 ` at the end
lost-at-end : body (at 10 (unit (Some 4294957117)) ∷ []) ≡ (0, 239 ∷ 191 ∷ 189 ∷ []) ▸ end
unfolding machine said gave left owed_behind step met_any met taken unit_of values written_all written utf8 spoken moved ◌▸▸◌
lost-at-end = refl

-- `\'e9\'e8`: the second is skipped; `\'e9\x7\'e8`: a setting ends the run, and the first unit of the next one stays
skipped : body (at 10 (unit (Some 233)) ∷ at 14 (unit (Some 232)) ∷ []) ≡ (0, 195 ∷ 169 ∷ []) ▸ end
unfolding machine said gave left owed_behind step met_any met taken unit_of values written_all written utf8 spoken moved ◌▸▸◌
skipped = refl

set-ends-run : body (at 10 (unit (Some 233)) ∷ at 14 (sets (7 ∷ [])) ∷ at 17 (unit (Some 232)) ∷ []) ≡ (0, 195 ∷ 169 ∷ []) ▸ (7, 195 ∷ 168 ∷ []) ▸ end
unfolding machine said gave left owed_behind step met_any met taken unit_of values written_all written utf8 spoken moved settle ◌▸▸◌
set-ends-run = refl

-- `\u-10179\x7 a`: what waited is lost in the state that the setting finds
lost-before-set : body (at 10 (unit (Some 4294957117)) ∷ at 18 (sets (7 ∷ [])) ∷ at 18 (says a) ∷ []) ≡ (0, 239 ∷ 191 ∷ 189 ∷ []) ▸ (7, a) ▸ end
unfolding machine said gave left owed_behind step met_any met taken unit_of values written_all written utf8 spoken moved settle ◌▸▸◌
lost-before-set = refl

-- ---- by 02, A1: one character is passed over behind a `u` token

-- `\u8217?a`: the rest of the text is read; `\u8217 {a}`: a brace ends it, and the text behind it is read
passes-part : standard (at 10 (unit (Some 8217)) ∷ at 10 (tells (63 ∷ 97 ∷ [])) ∷ []) ≡ (0, 226 ∷ 128 ∷ 153 ∷ []) ▸ (0, a) ▸ end
unfolding machine said gave left owed_behind standard_step taken_any taken unit_of values written_all written utf8 spoken moved ◌▸▸◌
passes-part = refl

brace-ends : standard (at 10 (unit (Some 8217)) ∷ at 17 opens ∷ at 17 (tells a) ∷ []) ≡ (0, 226 ∷ 128 ∷ 153 ∷ []) ▸ (0, a) ▸ end
unfolding machine said gave left owed_behind standard_step taken_any taken unit_of values written_all written utf8 spoken moved ◌▸▸◌
brace-ends = refl

-- `\u8217\x7 a`: a word that is passed over sets nothing; nor is one refused; nor does a `u` token say anything
passed-word : standard (at 10 (unit (Some 8217)) ∷ at 16 (sets (7 ∷ [])) ∷ at 16 (tells a) ∷ []) ≡ (0, 226 ∷ 128 ∷ 153 ∷ []) ▸ (0, a) ▸ end
unfolding machine said gave left owed_behind standard_step taken_any taken unit_of values written_all written utf8 spoken moved settle ◌▸▸◌
passed-word = refl

passed-mark : standard (at 10 (unit (Some 8217)) ∷ at 16 (stops IgnorableInBody) ∷ at 16 (tells a) ∷ []) ≡ (0, 226 ∷ 128 ∷ 153 ∷ []) ▸ (0, a) ▸ end
unfolding machine said gave left owed_behind standard_step taken_any taken unit_of values written_all written utf8 spoken moved ◌▸▸◌
passed-mark = refl

passed-unit : standard (at 10 (unit (Some 8217)) ∷ at 16 (unit (Some 8217)) ∷ at 22 (tells a) ∷ []) ≡ (0, 226 ∷ 128 ∷ 153 ∷ []) ▸ (0, a) ▸ end
unfolding machine said gave left owed_behind standard_step taken_any taken unit_of values written_all written utf8 spoken moved ◌▸▸◌
passed-unit = refl

-- `\u-10179?\u-8704?`: units pair over what is passed over; `\u-10179?\x7\u-8704?`: a word that is read parts them
passed-pairs : standard (at 10 (unit (Some 4294957117)) ∷ at 10 (tells (63 ∷ [])) ∷ at 19 (unit (Some 4294958592)) ∷ at 19 (tells (63 ∷ [])) ∷ []) ≡ (0, 240 ∷ 159 ∷ 152 ∷ 128 ∷ []) ▸ end
unfolding machine said gave left owed_behind standard_step taken_any taken unit_of values written_all written utf8 spoken moved ◌▸▸◌
passed-pairs = refl

read-parts : standard (at 10 (unit (Some 4294957117)) ∷ at 10 (tells (63 ∷ [])) ∷ at 19 (sets (7 ∷ [])) ∷ at 22 (unit (Some 4294958592)) ∷ [])
    ≡ (0, 239 ∷ 191 ∷ 189 ∷ []) ▸ (7, 239 ∷ 191 ∷ 189 ∷ []) ▸ end
unfolding machine said gave left owed_behind standard_step taken_any taken unit_of values written_all written utf8 spoken moved settle ◌▸▸◌
read-parts = refl

-- `\u233?\u232?`: 01's rule on units of at most 255 does not hold
both-kept : standard (at 10 (unit (Some 233)) ∷ at 10 (tells (63 ∷ [])) ∷ at 17 (unit (Some 232)) ∷ []) ≡ (0, 195 ∷ 169 ∷ []) ▸ (0, 195 ∷ 168 ∷ []) ▸ end
unfolding machine said gave left owed_behind standard_step taken_any taken unit_of values written_all written utf8 spoken moved ◌▸▸◌
both-kept = refl
