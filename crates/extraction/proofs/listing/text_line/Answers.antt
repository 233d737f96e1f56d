-- `text_line` meets its contract: a text that goes on is cut off, any other is there whole.
use native.Mathlib.Omega.{arith}
use lib.ListN.{length-take}
use Rattle.lines.proofs.Pages.{put_as, put_then}
use Rattle.extraction.proofs.Listings.{text-part, text-all}
use Rattle.extraction.proofs.listing.text_line.Goals as goal

pub slice_bounds-append-end : goal.slice_bounds-append-end
slice_bounds-append-end c = simp length-take (omega arith)

pub returns-then-count-text : goal.returns-then-count-text
returns-then-count-text c = put_as (text-part _ _) (put_then c.append-part.ensures c.append-part.auto.page c.push.ensures)

pub returns : goal.returns
returns c = put_as (text-all _ _ c.if-count-text.false) (put_then c.append-all.ensures c.append-all.auto.page c.push-2.ensures)
