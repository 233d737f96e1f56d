-- `put_block` meets its contract: its numbers, and then its text.
use mathlib.Core.Path.{ap, ◌∙◌}
use native.Mathlib.Omega.{arith}
use lib.ListN.{length, length-take, take, set}
use Rattle.styles.specs.Styles.{bare_width}
use Rattle.fields.specs.Fields.{block_numbers}
use Rattle.fields.proofs.Styles.{numbers-with}
use Rattle.storing.proofs.Putting.{numbers-place, block-wrote}
use Rattle.storing.proofs.block.put_block.Goals as goal

pub put_bytes-requires : goal.put_bytes-requires
put_bytes-requires c =
    let at-put-numbers = c in
    omega (arith, simp length-take at (numbers-place _ at-put-numbers.put_numbers-at.ensures), c.requires)

pub returns : goal.returns
returns c =
    let n = ap (λ l. take block_numbers (set l bare_width (length c.args.text.now))) c.numbers_of-numbers.ensures ∙ numbers-with c.args.s _ in
    block-wrote _ _ _ n c.put_numbers-at.ensures c.put_bytes.ensures
