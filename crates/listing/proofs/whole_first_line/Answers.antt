-- `whole_first_line` meets its contract: the page is long enough.
use native.Mathlib.Omega.{arith}
use Rattle.listing.proofs.Parts.{first_fits}
use Rattle.listing.proofs.whole_first_line.Goals as goal

pub returns : goal.returns
returns c = first_fits c.first_line.auto.page _ (omega arith) c.first_line.ensures
