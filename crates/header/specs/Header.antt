-- 01, Header walk: the tables that the steps of the walk give, or a refusal. Assumes nothing: these are definitions.
use Rattle.std.specs.Prelude.{ℕ, ◌≡◌, List, [], ◌∷◌, length, take, Result, Ok, Err}
use Rattle.answers.specs.declared.Refusal.{Refusal}
use Rattle.answers.specs.Answers.{Found, found, refused}
use Rattle.rooms.specs.Rooms.{filled}
use Rattle.fonts.specs.Rows.{table_words, InFront}
use Rattle.walk.specs.Walk.{Step}
use Rattle.header.specs.Entering.{Tables, read_step}
use Rattle.header.specs.declared.HeaderCounts.{HeaderCounts}

abbrev pub no_tables : Tables
no_tables = record { fonts = []; colours = [] }

abbrev pub next_step : ℕ → ℕ → Found Tables → Step → Found Tables
next_step f c (found s) x = read_step f c x s
next_step f c (refused r) x = refused r

-- step by step; the first refusal stays, of a table that a later one would replace too
unfoldable pub tables_from : ℕ → ℕ → Found Tables → List Step → Found Tables
tables_from f c acc [] = acc
tables_from f c acc (x ∷ xs) = tables_from f c (next_step f c acc x) xs

abbrev pub tables : ℕ → ℕ → List Step → Found Tables
tables f c xs = tables_from f c (found no_tables) xs

-- so many fonts and colours
abbrev pub counted : ℕ → ℕ → Result HeaderCounts Refusal
counted f c = Ok (record { fonts = f; colours = c })

-- what the walk over the tokens answers, and what it leaves in the two rooms: the records are the front of each
abbrev pub InFronts : Found Tables → Result HeaderCounts Refusal → List ℕ → List ℕ → Type 0
InFronts (found s) r fs cs =
    (r ≡ counted (length s.fonts) (length s.colours)) × InFront (table_words s.fonts) fs × (take (length s.colours) cs ≡ s.colours)
InFronts (refused q) r fs cs = r ≡ Err q

-- what a function that reads the header into two rooms of f and c words answers, and the rooms that it leaves: the records and zeros. After a
-- refusal `reader::read` clears them
abbrev pub ReadHeader : Found Tables → ℕ → ℕ → Result HeaderCounts Refusal → List ℕ → List ℕ → Type 0
ReadHeader (found s) f c r fs cs =
    (r ≡ counted (length s.fonts) (length s.colours)) × (fs ≡ filled f (table_words s.fonts)) × (cs ≡ filled c s.colours)
ReadHeader (refused q) f c r fs cs = r ≡ Err q
