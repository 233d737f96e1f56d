-- `extent` meets its contract: the tokens that were measured and those that are left make the whole.
use mathlib.Core.Path.{◌∙◌}
use native.Mathlib.Omega.{arith}
use Rattle.walk.proofs.Looks.{measure-ready, measure-more, measure-end, measure-none}
use Rattle.walk.proofs.extent.Goals as goal

pub level-d-requires : goal.level-d-requires
level-d-requires c =
    let l = c.loop-k.invariant in
    let s = c.in-Some.ensures.steps in
    let r = measure-ready l.measure (record { words = s.0.0.1.0; size = s.0.0.1.1 ∙ l.size; one = s.0.1 }) in
    (r.0, omega arith)

pub returns-then-d-eq0 : goal.returns-then-d-eq0
returns-then-d-eq0 c =
    let l = c.loop-k.invariant in
    let s = c.in-Some.ensures.steps in
    let e = s.1 in
    measure-end l.measure (record { words = s.0.0.1.0; size = s.0.0.1.1 ∙ l.size; one = s.0.1 }) c.item_at.ensures c.level-d.ensures _ (omega (arith, e, l.index)) c.if-d-eq0.true

pub loop-k-preserved : goal.loop-k-preserved
loop-k-preserved c =
    let l = c.loop-k.invariant in
    let s = c.in-Some.ensures.steps in
    let e = s.2 in
    record {
      size = s.0.0.0 ∙ l.size;
      index = omega (arith, e, s.0.1, l.index);
      measure = measure-more l.measure (record { words = s.0.0.1.0; size = s.0.0.1.1 ∙ l.size; one = s.0.1 }) c.item_at.ensures c.level-d.ensures c.if-d-eq0.false;
    }

pub returns : goal.returns
returns c =
    let l = c.loop-k.invariant in
    measure-none l.measure (λ h. rw l.size at (c.in-None.ensures.steps.0 h).1.0)
