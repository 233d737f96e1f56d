-- `head` meets its contract: numbers, one behind the other.
use Rattle.lines.proofs.Pages.{put_then}
use Rattle.extraction.specs.Listings.{head_line}
use Rattle.extraction.proofs.listing.head.Goals as goal

pub returns : goal.returns
unfolding head_line
returns c =
    put_then c.number-told.ensures c.number-told.auto.page
    (put_then c.place_item-placed.ensures c.place_item-placed.auto.page
    (put_then c.number-tokens.ensures c.number-tokens.auto.page
    (put_then c.number-fonts.ensures c.number-fonts.auto.page
    (put_then c.number-colours.ensures c.number-colours.auto.page
    (put_then c.number-blocks.ensures c.number-blocks.auto.page c.number.ensures)))))
