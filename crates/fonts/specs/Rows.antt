-- The records of a font table (01, Header walk, "Fonts"): a table of fonts, and the same as words in a room: a font's three words,
-- keys that ascend, where a key stands, records that move on by one. Assumes nothing: these are definitions.
use Rattle.std.specs.Prelude.{◌≡◌, ℕ, ◌+◌, ◌*◌, ◌<◌, ◌≤◌, Bool, false, cond, ◌||◌, List, [], ◌∷◌, ◌++◌, length, take, drop, ◌==◌, nat_lt, slice_index, slice_range}
use Rattle.answers.specs.declared.Why.TheVariants.{FontRoom}
use Rattle.answers.specs.Answers.{Found, found, refused, Fate, becomes, fails}
use Rattle.rooms.specs.Rooms.{overlaid}
use Rattle.fonts.specs.declared.rows.Font.{Font as Row}
use Rattle.std.specs.Prelude.{Result, Ok, Err}
use Rattle.answers.specs.declared.Why.{Why}
use Rattle.answers.specs.declared.Refusal.{Refusal}

-- a font: its key, its name, and the source place of that
pub record Font : Type 0 where
  pub key : ℕ
  pub place : ℕ
  pub name : List ℕ

-- "key 0, empty name"
abbrev pub first_font : Font
first_font = record { key = 0; place = 0; name = [] }

-- "Record: key, name place, name length (place 0 if empty)"
abbrev pub font_words : ℕ
font_words = 3

unfoldable pub font_record : Font → List ℕ
font_record f = f.key ∷ f.place ∷ length f.name ∷ []

-- the records of a table
unfoldable pub table_words : List Font → List ℕ
table_words [] = []
table_words (f ∷ fs) = font_record f ++ table_words fs

-- whether a table has a key
unfoldable pub has_key : ℕ → List Font → Bool
has_key k [] = false
has_key k (g ∷ gs) = g.key == k || has_key k gs

-- the font in its place, "ascending by key"; a font of the same key goes
unfoldable pub inserted : Font → List Font → List Font
inserted f [] = f ∷ []
inserted f (g ∷ gs) =
    let more = inserted f gs in
    cond (nat_lt g.key f.key) (g ∷ more) (cond (g.key == f.key) (f ∷ gs) (f ∷ g ∷ gs))

-- the table so far, and the current font
pub record Fonts : Type 0 where
  pub table : List Font
  pub font : Font

abbrev pub no_fonts : Fonts
no_fonts = record { table = []; font = first_font }

-- "store the current font under its key"; 17: "a new font key .. beyond 256 or the lent room"
unfoldable pub stored : ℕ → Fonts → Fate Fonts
stored limit s =
    cond (has_key s.font.key s.table || nat_lt (length s.table) limit)
    (becomes (record { table = inserted s.font s.table; font = s.font }))
    (fails FontRoom)

abbrev pub table_of : Found Fonts → Found (List Font)
table_of (found s) = found s.table
table_of (refused r) = refused r

-- the records are the front of the room
abbrev pub InFront : List ℕ → List ℕ → Type 0
InFront ws room = take (length ws) room ≡ ws

-- what a function that reads a font table into a room answers, and the room that it leaves: the records over what stood there. After a
-- refusal `reader::read` clears the room
abbrev pub ReadFonts : Found (List Font) → List ℕ → Result ℕ Refusal → List ℕ → Type 0
ReadFonts (found fs) room r room' = (r ≡ Ok (length fs)) × (room' ≡ overlaid (table_words fs) room)
ReadFonts (refused q) room r room' = r ≡ Err q

-- a font as the code holds it: the length of its name, not the name
abbrev pub row : Font → Row
row f = record { key = f.key; place = f.place; length = length f.name }

abbrev pub row_words : Row → List ℕ
row_words f = f.key ∷ f.place ∷ f.length ∷ []

-- the key of the record at a place
abbrev pub key_at : List ℕ → ℕ → ℕ
key_at room i = slice_index room (i * font_words)

-- the keys of the first n records ascend
pub record Ascends (n : ℕ) (room : List ℕ) : Type 0 where
  pub up : (i j : ℕ) → i < j → j < n → key_at room i < key_at room j

-- r of the first n records, those in front, have a smaller key
pub record Rank (n : ℕ) (room : List ℕ) (key r : ℕ) : Type 0 where
  pub within : r ≤ n
  pub below : (i : ℕ) → i < r → key_at room i < key
  pub above : (i : ℕ) → r ≤ i → i < n → key ≤ key_at room i

-- whether the record at a rank has the key
abbrev pub stands : ℕ → List ℕ → ℕ → ℕ → Bool
stands n room r key = cond (nat_lt r n) (key_at room r == key) false

-- the words from one place to another stand one record on; those of one record stand there twice
unfoldable pub shifted : ℕ → ℕ → List ℕ → List ℕ
shifted from to room = take (from + font_words) room ++ (slice_range room from to ++ drop (to + font_words) room)

-- what a function that stores a font answers, and the room that it leaves
abbrev pub WroteFonts : Fate Fonts → List ℕ → Result ℕ Why → List ℕ → Type 0
WroteFonts (becomes s) room r room' = (r ≡ Ok (length s.table)) × (room' ≡ overlaid (table_words s.table) room)
WroteFonts (fails why) room r room' = r ≡ Err why

-- the same, if the room has a table of n fonts in front
abbrev pub StoredFont : ℕ → ℕ → Row → List Font → Font → List ℕ → Result ℕ Why → List ℕ → Type 0
StoredFont limit n f fs g room r room' =
    length fs ≡ n → InFront (table_words fs) room → f ≡ row g → WroteFonts (stored limit (record { table = fs; font = g })) room r room'
