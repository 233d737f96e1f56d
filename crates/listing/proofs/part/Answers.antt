-- `part` meets its contract: the page has 12 bytes for each word of a part.
use native.Mathlib.Omega.{arith}
use Rattle.std.proofs.lemmas.List.{take_min}
use Rattle.listing.proofs.Parts.{part-fits}
use Rattle.listing.proofs.part.Goals as goal

pub returns : goal.returns
returns c = part-fits c.records.auto.page _ c.args.room.now (omega arith) (rw (c.min-words.ensures, take_min) at c.records.ensures)
