-- `lay_body` meets its contract. The invariant is `Loop`: what is left, from the present states, run and page, leads where the whole
-- leads. The measure is how many tokens are left.
use mathlib.Core.Path.{ap, ◌∙◌}
use native.Mathlib.Omega.{arith}
use Rattle.settings.specs.Fields.{row_of}
use Rattle.body.proofs.Groups.{passed-open}
use Rattle.body.proofs.Turns.{loop-start, loop-end, turn-refused, turn_on}
use Rattle.body.proofs.lay_body.Goals as goal

pub loop-n-init : goal.loop-n-init
loop-n-init c = rw (c.before-run.ensures, c.blank-page.ensures) (loop-start _ _ _ _ _ _ (c.row.ensures ∙ ap row_of c.fresh.ensures) c.requires)

pub passed-h-requires : goal.passed-h-requires
passed-h-requires c = (c.loop-n-test.true, c.loop-n.invariant.words)

pub owed_behind-behind-requires : goal.owed_behind-behind-requires
owed_behind-behind-requires c =
    let l = c.loop-n.invariant in
    (l.deep, l.all, omega (arith, c.loop-n-test.true, l.words))

pub turn-moved-requires : goal.turn-moved-requires
turn-moved-requires c =
    let l = c.loop-n.invariant in
    let z = c.loop-n-test.true in
    (l.deep, l.all, l.paged, omega (arith, z, l.words), passed-open c.args.source.now _ _ (c.passed-h.ensures.0 c.args.source.now))

pub overflow_add-at : goal.overflow_add-at
overflow_add-at c = let u = c.passed-h.ensures.1 in let z = c.loop-n-test.true in let w = c.loop-n.invariant.words in let v = c.loop-n.invariant.few in omega (arith, u, z, w, v)

pub overflow_mul-at : goal.overflow_mul-at
overflow_mul-at c = let u = c.passed-h.ensures.1 in let z = c.loop-n-test.true in let w = c.loop-n.invariant.words in let v = c.loop-n.invariant.few in omega (arith, u, z, w, v)

pub offset_bounds-t-at : goal.offset_bounds-t-at
offset_bounds-t-at c = let u = c.passed-h.ensures.1 in let z = c.loop-n-test.true in let w = c.loop-n.invariant.words in let v = c.loop-n.invariant.few in omega (arith, u, z, w, v)

pub slice_bounds-t-count : goal.slice_bounds-t-count
slice_bounds-t-count c = let u = c.passed-h.ensures.1 in let z = c.loop-n-test.true in let w = c.loop-n.invariant.words in let v = c.loop-n.invariant.few in omega (arith, u, z, w, v)

pub slice_bounds-t-start : goal.slice_bounds-t-start
slice_bounds-t-start c = let u = c.passed-h.ensures.1 in let z = c.loop-n-test.true in let w = c.loop-n.invariant.words in let v = c.loop-n.invariant.few in omega (arith, u, z, w, v)

pub overflow_add-n : goal.overflow_add-n
overflow_add-n c = let u = c.passed-h.ensures.1 in let z = c.loop-n-test.true in let w = c.loop-n.invariant.words in let v = c.loop-n.invariant.few in omega (arith, u, z, w, v)

pub overflow_sub-n : goal.overflow_sub-n
overflow_sub-n c = let u = c.passed-h.ensures.1 in let z = c.loop-n-test.true in let w = c.loop-n.invariant.words in let v = c.loop-n.invariant.few in omega (arith, u, z, w, v)

pub slice_at-requires : goal.slice_at-requires
slice_at-requires c = omega (arith, c.loop-n-test.true, c.loop-n.invariant.words)

pub shape_of-blocks-in-Err : goal.shape_of-blocks-in-Err
shape_of-blocks-in-Err c = c.turn-moved.auto.blocks ∙ c.loop-n.invariant.long-b

pub shape_of-text-in-Err : goal.shape_of-text-in-Err
shape_of-text-in-Err c = c.turn-moved.auto.text ∙ c.loop-n.invariant.long-t

pub returns-in-Err : goal.returns-in-Err
returns-in-Err c = record { laid = turn-refused c.loop-n.invariant c.loop-n-test.true c.passed-h.ensures c.turn-moved.ensures c.in-Err.is c.slice_at.ensures c.at.ensures; still = omega arith }

pub loop-n-smaller : goal.loop-n-smaller
loop-n-smaller c = let u = c.passed-h.ensures.1 in let z = c.loop-n-test.true in let w = c.loop-n.invariant.words in let v = c.loop-n.invariant.few in omega (arith, u, z, w, v)

pub loop-n-preserved : goal.loop-n-preserved
loop-n-preserved c = let t = c.turn-moved in turn_on c.loop-n.invariant c.loop-n-test.true c.passed-h.ensures t.ensures c.in-Ok.is t.auto.blocks t.auto.text (c.owed_behind-behind.ensures _ (passed-open c.args.source.now _ _ (c.passed-h.ensures.0 c.args.source.now)))

pub finish-requires : goal.finish-requires
finish-requires c = let l = c.loop-n.invariant in (l.deep, l.all, l.paged)

pub shape_of-blocks : goal.shape_of-blocks
shape_of-blocks c = c.finish.auto.blocks ∙ c.loop-n.invariant.long-b

pub shape_of-text : goal.shape_of-text
shape_of-text c = c.finish.auto.text ∙ c.loop-n.invariant.long-t

pub returns : goal.returns
returns c =
    let l = c.loop-n.invariant in
    record { laid = loop-end l c.loop-n-test.false c.finish.ensures.laid; still = rw (l.long-b, l.long-t) at c.finish.ensures.still }
