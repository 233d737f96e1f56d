-- `write_tokens` ends. The invariant: what is written and the lines that are left are the lines of all tokens.
use mathlib.Core.Path.{◌∙◌}
use Rattle.listing.proofs.Parts.{written-more}
use Rattle.listing.proofs.write_tokens.Goals as goal

pub loop-part-preserved : goal.loop-part-preserved
loop-part-preserved g c =
    let step = c.in-Some.ensures.steps in
    let size = c.loop-part.invariant.size in
    record {
      size = step.0 ∙ size;
      lines = written-more c.loop-part.invariant.lines _ _ step.1.0 (rw size at step.1.1) c.saturating_sub-left.ensures;
    }
