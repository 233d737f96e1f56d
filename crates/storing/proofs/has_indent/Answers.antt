-- `has_indent` meets its contract.
use mathlib.Core.Path.{sym, ◌∙◌}
use Rattle.storing.proofs.Indents.{indent-here, indent-later, indent-none}
use Rattle.storing.proofs.has_indent.Goals as goal

pub returns-then-not-is_flush : goal.returns-then-not-is_flush
returns-then-not-is_flush c =
    let inv = c.loop-words.invariant in
    let s = c.in-Some.ensures.steps.1 in
    sym (indent-here _ _ (s.1 ∙ inv.size) c.at-s.ensures c.is_flush.ensures c.if-not-is_flush.true) ∙ (rw s.0 at inv.left)

pub loop-words-preserved : goal.loop-words-preserved
loop-words-preserved c =
    let inv = c.loop-words.invariant in
    let z = c.in-Some.ensures.steps.0 in
    let s = c.in-Some.ensures.steps.1 in
    record {
      size = z ∙ inv.size;
      left = sym (indent-later _ _ (s.1 ∙ inv.size) c.at-s.ensures c.is_flush.ensures c.if-not-is_flush.false) ∙ (rw s.0 at inv.left);
    }

pub returns : goal.returns
returns c =
    let inv = c.loop-words.invariant in
    sym (indent-none _ (rw inv.size at c.in-None.ensures.steps.1.0)) ∙ inv.left
