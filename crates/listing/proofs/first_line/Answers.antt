-- `first_line` meets its contract: two numbers, one behind the other.
use Rattle.lines.proofs.Pages.{put_then}
use Rattle.listing.specs.Tokens.{first_line}
use Rattle.listing.proofs.first_line.Goals as goal

pub returns : goal.returns
unfolding first_line
returns c =
    rw (← c.number_of-answer.ensures, ← c.place_of.ensures, ← c.count_of.ensures)
    (put_then c.number-told.ensures c.number-told.auto.page
    (put_then c.place_item-placed.ensures c.place_item-placed.auto.page c.number.ensures))
