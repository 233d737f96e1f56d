-- `act` meets its contract: by what the act is, where there is a state.
use mathlib.Core.Path.{ap, refl}
use native.Mathlib.Omega.{arith}
use Rattle.settings.specs.Effects.{meaning}
use Rattle.deeds.proofs.Moves.{took-act-none, took-sets, took-nothing, took-refuses}
use Rattle.runs.proofs.Saying.{ne-pos}
use Rattle.deeds.proofs.Turning.{turns-bare, turns-act, turns-says}
use Rattle.deeds.proofs.act.Goals as goal

pub returns-then-depth-eq0 : goal.returns-then-depth-eq0
returns-then-depth-eq0 c = let s = c in turns-bare _ _ _ (took-act-none _ _ s.requires.1 c.if-depth-eq0.true (meaning s.args.act)) s.requires.2 c.if-depth-eq0.true _ refl

pub set_field-requires : goal.set_field-requires
set_field-requires c = (omega arith, rw c.in-Sets.is at c.requires.3, c.requires.1)

pub returns-in-Nothing : goal.returns-in-Nothing
unfolding meaning
returns-in-Nothing c = let s = c in turns-act _ _ s.args.act (took-nothing _ _ s.requires.1 (ne-pos c.if-depth-eq0.false) s.requires.0 (ap meaning c.in-Nothing.is)) s.requires.2 (rw c.in-Nothing.is refl)

pub returns-in-Sets : goal.returns-in-Sets
unfolding meaning
returns-in-Sets c = let s = c in turns-act _ _ s.args.act (took-sets _ _ s.requires.1 (ne-pos c.if-depth-eq0.false) s.requires.0 _ (ap meaning c.in-Sets.is) c.set_field.ensures) s.requires.2 (rw c.in-Sets.is refl)

pub returns-in-Lines : goal.returns-in-Lines
unfolding meaning
returns-in-Lines c = let s = c in turns-act _ _ s.args.act (took-sets _ _ s.requires.1 (ne-pos c.if-depth-eq0.false) s.requires.0 _ (ap meaning c.in-Lines.is) c.set_line.ensures) s.requires.2 (rw c.in-Lines.is refl)

pub returns-in-Plain : goal.returns-in-Plain
unfolding meaning
returns-in-Plain c = let s = c in turns-act _ _ s.args.act (took-sets _ _ s.requires.1 (ne-pos c.if-depth-eq0.false) s.requires.0 _ (ap meaning c.in-Plain.is) c.reset_painter.ensures) s.requires.2 (rw c.in-Plain.is refl)

pub returns-in-Pard : goal.returns-in-Pard
unfolding meaning
returns-in-Pard c = let s = c in turns-act _ _ s.args.act (took-sets _ _ s.requires.1 (ne-pos c.if-depth-eq0.false) s.requires.0 _ (ap meaning c.in-Pard.is) c.reset_paragraph.ensures) s.requires.2 (rw c.in-Pard.is refl)

pub returns-in-Says : goal.returns-in-Says
unfolding meaning
returns-in-Says c = let s = c in let k = c.character in turns-says _ _ s.requires.1 (ne-pos c.if-depth-eq0.false) s.requires.0 k.result s.args.page.now _ s.args.blocks.now s.args.text.now _ _ k.ensures.ready c.and.ensures _ k.ensures.laid (ap meaning c.in-Says.is)

pub returns-in-Refuses : goal.returns-in-Refuses
unfolding meaning
returns-in-Refuses c = let s = c in turns-act _ _ s.args.act (took-refuses _ _ s.requires.1 (ne-pos c.if-depth-eq0.false) s.requires.0 _ (ap meaning c.in-Refuses.is)) s.requires.2 (rw c.in-Refuses.is refl)
