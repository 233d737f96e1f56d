-- `list` meets its contract: the lines stand one behind the other, and a refusal has the first alone.
use Rattle.lines.proofs.Pages.{put_as, put_then}
use Rattle.extraction.proofs.Listings.{listing-refused, listing-read}
use Rattle.extraction.proofs.listing.list.Goals as goal

pub returns-then-told-ne0 : goal.returns-then-told-ne0
returns-then-told-ne0 c = record { number = c.number_of-told.ensures; content = rw (← c.number_of-told.ensures, ← c.place_of-place.ensures, ← c.counts_of-counts.ensures) (put_as (listing-refused _ _ _ _ _ _ _ c.if-told-ne0.true) c.head-first.ensures) }

pub returns : goal.returns
returns c = record {
  number = c.number_of-told.ensures;
  content = rw (← c.number_of-told.ensures, ← c.place_of-place.ensures, ← c.counts_of-counts.ensures)
      (put_as (listing-read _ _ _ _ _ _ _ c.if-told-ne0.false)
      (put_then c.head-first.ensures c.head-first.auto.page
      (put_then c.records-font_lines.ensures c.records-font_lines.auto.page
      (put_then c.records-colour_lines.ensures c.records-colour_lines.auto.page
      (put_then c.records-block_lines.ensures c.records-block_lines.auto.page c.text_line-end.ensures)))));
}
