-- The page that `extract` leaves: the listing is its front. Assumes nothing.
use Prim.Native.Nat.{ℕ}
use mathlib.Core.List.{List}
use Rattle.readings.specs.declared.Reading.{Reading}
use Rattle.lines.specs.Pages.{Front}
use Rattle.lines.proofs.Pages.{whole-front}
use Rattle.extraction.specs.declared.listing.Listed.{Listed}
use Rattle.extraction.specs.Extractor.{extracted, Extracts}

pub extracted-front : {rd : Reading} {letter page : List ℕ} {r : Listed} {page' : List ℕ} → Extracts rd letter page r page' → Front (extracted rd letter) page' r.bytes
extracted-front {rd} {letter} {page} w = whole-front {page = page} (record { count = w.bytes; content = w.content })
