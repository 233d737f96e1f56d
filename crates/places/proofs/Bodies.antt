-- The refusals of the body: 12 to 16 have the place of their token, 19 and 20 none.
--     placed_at   of the pieces that find room
-- Assumes nothing.
use mathlib.Core.Path.{refl}
use mathlib.Core.List.{List, [], ◌∷◌}
use mathlib.Core.Bool.{Bool, true, false, cond, ◌&&◌}
use Prim.Native.Nat.{ℕ, ◌-◌}
use lib.ListN.{length}
use lib.Dec.{eqb, ltb}
use Rattle.answers.specs.declared.Refusal.{Refusal}
use Rattle.answers.specs.declared.Why.TheVariants.{BlockRoom, TextRoom}
use Rattle.answers.specs.Answers.{refusal}
use Rattle.answers.proofs.Refusals.{told_none}
use Rattle.rooms.specs.Streams.{Stream, end, stop, ◌▸◌}
use Rattle.rooms.specs.Rooms.{capacity}
use Rattle.readings.specs.declared.Reading.{Reading}
use Rattle.settings.specs.Fields.{Setting}
use Rattle.tokens.specs.Tokens.{Token, slice_of, shown_in}
use Rattle.machine.specs.Machine.{Deed, opens, closes, sets, says, tells, unit, refuses, parts, stops, passes, at}
use Rattle.machine.proofs.Places.{ActAt, ActsAt, StopsAt, start-places}
use Rattle.walk.specs.Walk.{Step, kept, hidden, font_table, colour_table, walk}
use Rattle.blocks.specs.Pages.{Piece, block_words, text_capacity, Last, none, last, starts, roomy}
use Rattle.runs.specs.Runs.{rows, steps_by}
use Rattle.deeds.specs.Deeds.{token_deed}
use Rattle.body.specs.Body.{act_of, acts, body}
use Rattle.parser.specs.Parsing.{placed}
use Rattle.places.proofs.Walks.{TokensAt, StepAt, StepsAt, walk_at}

module _ (P : ℕ → Type 0) where
  deed-at : (p : ℕ) (d : Deed Setting) → P p → ActAt P (at p d)
  deed-at p opens h = h
  deed-at p closes h = h
  deed-at p (sets ss) h = h
  deed-at p (says bs) h = h
  deed-at p (tells bs) h = h
  deed-at p (unit num) h = h
  deed-at p (refuses why) h = h
  deed-at p parts h = tt
  deed-at p (stops why) h = h
  deed-at p passes h = tt

  act-at : (rd : Reading) (s : Step) → StepAt P s → ActAt P (act_of rd s)
  act-at rd (kept t) h = deed-at (slice_of t) (token_deed rd (shown_in t)) h
  act-at rd hidden h = tt
  act-at rd (font_table late ts) h = tt
  act-at rd (colour_table late ts) h = tt

  acts-at : (rd : Reading) (ss : List Step) → StepsAt P ss → ActsAt P (acts rd ss)
  unfolding acts
  acts-at rd [] h = tt
  acts-at rd (s ∷ ss) h = (act-at rd s h.0, acts-at rd ss h.1)

  roomy-at : (s : Stream Refusal Piece) (b t : ℕ) (l : Last) → StopsAt P s → StopsAt P (roomy b t l s)
  unfolding roomy
  roomy-at end b t l h = tt
  roomy-at (stop r) b t l h = h
  roomy-at (x ▸ s) b t l h =
      go (starts l x.style && eqb b 0) (ltb t (length x.bytes)) _ (roomy-at s (cond (starts l x.style) (b - 1) b) (t - length x.bytes) (last x.style) h)
    where
      go : (y z : Bool) (more : Stream Refusal Piece) → StopsAt P more → StopsAt P (cond y (stop (refusal BlockRoom)) (cond z (stop (refusal TextRoom)) (x ▸ more)))
      go true z more k = told_none P BlockRoom refl
      go false true more k = told_none P TextRoom refl
      go false false more k = k

  pub placed_at : (rd : Reading) (b t : ℕ) (ts : List Token) → TokensAt P ts → StopsAt P (placed rd b t ts)
  unfolding placed body
  placed_at rd b t ts h =
      roomy-at (body rd (walk ts)) (capacity block_words b) (text_capacity t) none (start-places rows (steps_by rd) P (acts rd (walk ts)) (acts-at rd (walk ts) (walk_at P ts h)))
