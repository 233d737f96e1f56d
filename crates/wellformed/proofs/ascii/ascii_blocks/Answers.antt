-- `ascii_blocks` meets its contract: each block that is passed over is ASCII.
use mathlib.Core.Path.{sym, ◌∙◌}
use Rattle.wellformed.proofs.Passing.{passed_none, passed-chunk}
use Rattle.wellformed.proofs.ascii.ascii_blocks.Goals as goal

pub loop-block-init : goal.loop-block-init
loop-block-init c = passed_none _ _ c.requires

pub loop-block-preserved : goal.loop-block-preserved
loop-block-preserved c = passed-chunk _ c.loop-block.invariant _ c.in-Some.block.now c.in-Some.ensures.cases (sym c.has_high.ensures ∙ c.if-has_high.false)
