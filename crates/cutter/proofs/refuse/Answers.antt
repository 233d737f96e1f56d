-- `refuse` meets its contract: all words from the first on are set to zero.
use mathlib.Core.Path.{refl}
use Rattle.rooms.proofs.Clearing.{cleared}
use Rattle.cutter.proofs.refuse.Goals as goal

pub returns : goal.returns
returns c = record { answer = refl; content = cleared c.args.room.now c.clear_from.ensures }
