-- `print` hands on what is to be printed: the cutter leaves the tokens of that very list.
use Rattle.listing.proofs.Parts.{list-lines}
use Rattle.listing.proofs.print.Goals as goal

pub write_list-requires : goal.write_list-requires
write_list-requires g c = list-lines _ _ _ c.cut-outcome.ensures.answer c.cut-outcome.ensures.content c.cut-outcome.auto.room
