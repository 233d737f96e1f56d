-- `read_list` meets its contract: all blocks find room, or both rooms are cleared.
use Rattle.stored.proofs.Whole.{list_full, list-laid}
use Rattle.stored.proofs.read_list.Goals as goal

pub returns-in-Err : goal.returns-in-Err
returns-in-Err c =
    let laid = c.lay_list-laid in
    let e = c.refuse.ensures in
    list_full c.args.list.now c.args.blocks.now c.args.text.now laid.result _ _ laid.ensures.laid c.in-Err.is
    e.answer e.block_room e.text_room laid.auto.blocks laid.auto.text

pub returns-in-Ok : goal.returns-in-Ok
returns-in-Ok c =
    let laid = c.lay_list-laid in
    list-laid c.args.list.now c.args.blocks.now c.args.text.now laid.result _ _ laid.ensures.laid c.in-Ok.is
    c.clear_from.ensures c.clear_from-in-Ok.ensures
