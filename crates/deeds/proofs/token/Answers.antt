-- `token` meets its contract: a group that the walk passes over, or by the token's kind.
use mathlib.Core.Path.{sym, ◌∙◌, refl}
use mathlib.Core.List.{[], ◌∷◌}
use Rattle.answers.specs.declared.Why.TheVariants.{IgnorableInBody}
use Rattle.machine.specs.Machine.{Deed, parts}
use Rattle.machine.proofs.Left.{left-read}
use Rattle.deeds.proofs.Words.{at-group, at-token, kind-deed, kind-rest}
use Rattle.deeds.proofs.Moves.{took-parts, took-stops}
use Rattle.deeds.proofs.Turning.{turns-quiet, turns_as, turns-act-at}
use Rattle.deeds.proofs.token.Goals as goal

pub returns-then-h-gt0 : goal.returns-then-h-gt0
returns-then-h-gt0 c = let s = c in turns_as _ _ _ _ _ _ (left-read s.args.owed parts _ (at-group _ _ _ _ c.if-h-gt0.true) refl s.requires.4) (turns-quiet _ _ parts (took-parts _ _ s.requires.1 s.requires.0) s.requires.2 refl)

pub act-requires : goal.act-requires
act-requires c = let s = c in (s.requires.0, s.requires.1, s.requires.2, c.act_at-a.ensures.1)

pub returns-in-Opening : goal.returns-in-Opening
returns-in-Opening c = let s = c in turns_as _ _ _ _ _ _ (left-read s.args.owed Deed.opens _ (kind-deed _ _ _ (sym c.kind_at.ensures ∙ c.in-Opening.is) ∙ at-token _ _ _ _ c.if-h-gt0.false) refl s.requires.4) (turns-quiet _ _ Deed.opens c.«open».ensures s.requires.2 refl)

pub returns-in-Closing : goal.returns-in-Closing
returns-in-Closing c = let s = c in turns_as _ _ _ _ _ _ (left-read s.args.owed Deed.closes _ (kind-deed _ _ _ (sym c.kind_at.ensures ∙ c.in-Closing.is) ∙ at-token _ _ _ _ c.if-h-gt0.false) refl s.requires.4) (turns-quiet _ _ Deed.closes (c.close.ensures _ s.requires.1) s.requires.2 refl)

pub returns-in-LineBreak : goal.returns-in-LineBreak
returns-in-LineBreak c = let s = c in turns_as _ _ _ _ _ _ (left-read s.args.owed (Deed.says (10 ∷ [])) _ (kind-deed _ _ _ (sym c.kind_at.ensures ∙ c.in-LineBreak.is) ∙ at-token _ _ _ _ c.if-h-gt0.false) refl s.requires.4) c.break_token.ensures

pub returns-in-Ignorable : goal.returns-in-Ignorable
returns-in-Ignorable c = let s = c in turns_as _ _ _ _ _ _ (left-read s.args.owed (Deed.stops IgnorableInBody) _ (kind-deed _ _ _ (sym c.kind_at.ensures ∙ c.in-Ignorable.is) ∙ at-token _ _ _ _ c.if-h-gt0.false) refl s.requires.4) (turns-quiet _ _ (Deed.stops IgnorableInBody) (took-stops _ _ s.requires.1 IgnorableInBody) s.requires.2 refl)

pub returns-in-Text : goal.returns-in-Text
returns-in-Text c = turns_as _ _ _ _ _ _ (kind-rest _ _ _ _ _ c.if-h-gt0.false (sym c.kind_at.ensures ∙ c.in-Text.is) c.requires.4 c.part.ensures c.rest_of-bytes.ensures) c.text_token.ensures

pub returns-in-Word : goal.returns-in-Word
returns-in-Word c = turns-act-at _ _ _ _ _ _ _ _ _ c.if-h-gt0.false (rw c.kind_at.ensures at c.in-Word.is) c.requires.4 _ c.act_at-a.ensures.0 c.act.ensures
