-- `aim_of` meets its contract: what the tokens that are left make of the group, the whole makes of it.
use native.Mathlib.Omega.{arith}
use Rattle.walk.proofs.Looks.{look-start, look_none, look-found, look-more}
use Rattle.walk.proofs.aim_of.Goals as goal
use Rattle.walk.proofs.aim_of.Goals.{then-n-eq0, else-n-eq0+then-not-is_break}

pub loop-n-init : goal.loop-n-init
loop-n-init c = look-start _ _ c.requires

pub item_at-i-requires : goal.item_at-i-requires
item_at-i-requires c = let w = c.loop-n.invariant.words in omega arith

pub slice_bounds-t-count : goal.slice_bounds-t-count
slice_bounds-t-count c = let w = c.loop-n.invariant.words in omega arith

pub loop-n-preserved : goal.loop-n-preserved
loop-n-preserved c = look-more c.loop-n.invariant c.if-n-eq0.false c.item_at-i.ensures c.is_break.ensures c.if-not-is_break.false-raw

pub returns : goal.returns
returns c src =
    elim c.if-n-eq0.branch [
      | then-n-eq0 w ↦ look_none c.loop-n.invariant w.if-n-eq0.true w.first-is c.aim_at.ensures src
      | else-n-eq0+then-not-is_break w ↦ look-found c.loop-n.invariant w.if-n-eq0.false w.item_at-i.ensures w.is_break.ensures w.if-not-is_break.true-raw w.first-is c.aim_at.ensures src
    ]
