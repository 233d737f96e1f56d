-- `part` meets its contract: before, in and behind the source.
use mathlib.Core.Path.{refl}
use native.Mathlib.Omega.{arith}
use lib.ListN.{length-take, length-drop}
use Rattle.tokens.proofs.Items.{part_none, part-short, part-whole}
use Rattle.tokens.proofs.item.part.Goals as goal

pub returns-then-source-from : goal.returns-then-source-from
returns-then-source-from c = part_none _ refl _ c.if-source-from.true

pub returns-then-t-n : goal.returns-then-t-n
returns-then-t-n c = part-short _ refl refl c.if-t-n.true

pub slice_bounds-result-end-2 : goal.slice_bounds-result-end-2
slice_bounds-result-end-2 c = simp (length-take, length-drop) (omega arith)

pub returns : goal.returns
returns c = part-whole _ refl refl
