-- `write_list` meets its contract: what was written is looked through for indents and settled, and the room behind it cleared.
use Rattle.storing.proofs.Settling.{settle-answer, settle-room}
use Rattle.storing.proofs.write_list.Goals as goal

pub returns : goal.returns
returns c =
    let u = c.unindented-bare.ensures in
    let w = c.put_list-outcome.ensures in
    let e = c.settle-answer.ensures in
    let ws = c.args.blocks.now in
    let tx = c.args.text.now in record {
      answer = settle-answer ws tx w u e;
      content = settle-room ws tx w u e c.clear_from.ensures c.count_of-count.ensures;
    }
