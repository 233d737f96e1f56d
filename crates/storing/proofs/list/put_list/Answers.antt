-- `put_list` meets its contract: words that are no whole blocks, or the count and then the blocks.
use Rattle.storing.proofs.Lists.{list-none, list_wrote, number-place}
use Rattle.storing.proofs.list.put_list.Goals as goal

pub returns-then-not-blocks-count : goal.returns-then-not-blocks-count
returns-then-not-blocks-count c =
    list-none c.args.blocks.now c.args.text.now c.if-not-blocks-count.true-raw c.unfit.ensures

pub put_blocks-requires : goal.put_blocks-requires
put_blocks-requires c = number-place _ c.put_number-start.ensures

pub returns : goal.returns
returns c =
    list_wrote c.args.blocks.now c.args.text.now c.if-not-blocks-count.false-raw c.put_number-start.ensures
    c.put_blocks.ensures
