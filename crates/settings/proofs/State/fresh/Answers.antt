-- `fresh` meets its contract.
use Rattle.settings.proofs.State.fresh.Goals as goal

pub returns : goal.returns
returns c = rw (c.fresh-painter.ensures, c.fresh-paragraph.ensures)
