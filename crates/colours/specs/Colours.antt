-- 01, Header walk, "Colours", and 02, A4: the colour table that a group's tokens give, or a refusal. Assumes nothing: these are definitions.
use Rattle.std.specs.Prelude.{ℕ, ◌+◌, ◌*◌, ◌≡◌, List, [], ◌∷◌, ◌++◌, cond, length, eqb, ltb}
use Rattle.answers.specs.declared.Why.TheVariants.{NumberField, ColourRoom}
use Rattle.answers.specs.Answers.{Found, found, refused, Fate, becomes, fails, found_at}
use Rattle.rooms.specs.Rooms.{overlaid}
use Rattle.tokens.specs.Tokens.{Shown, Token, slice_of, shown_in, value_of}
use Rattle.colours.specs.declared.Colour.{Colour}
use Rattle.tokens.specs.WordNumbers as words
use Rattle.std.specs.Prelude.{Result, Ok, Err, Option}
use Rattle.answers.specs.declared.Refusal.{Refusal}

-- a record is one word
abbrev pub colour_words : ℕ
colour_words = 1

-- "Record: red·65,536 + green·256 + blue."
abbrev pub colour_word : Colour → ℕ
colour_word c = c.red * 65536 + (c.green * 256 + c.blue)

-- the colours so far, "keys from 1": the first has key 1; and the current one, whose "values carry over"
pub record Colours : Type 0 where
  pub table : List ℕ
  pub colour : Colour

abbrev pub black : Colour
black = record { red = 0; green = 0; blue = 0 }

abbrev pub no_colours : Colours
no_colours = record { table = []; colour = black }

-- "0 to 255, no number means 0"; 12: "a number does not fit its field"
abbrev pub fitting : Option ℕ → Fate Colours → Fate Colours
fitting num c = cond (ltb (value_of num) 256) c (fails NumberField)

abbrev pub reddened : ℕ → Colours → Colours
reddened v s = record { table = s.table; colour = record { red = v; green = s.colour.green; blue = s.colour.blue } }

abbrev pub greened : ℕ → Colours → Colours
greened v s = record { table = s.table; colour = record { red = s.colour.red; green = v; blue = s.colour.blue } }

abbrev pub blued : ℕ → Colours → Colours
blued v s = record { table = s.table; colour = record { red = s.colour.red; green = s.colour.green; blue = v } }

-- "`\blue` stores and counts on"; 18: "a new colour, beyond 256 or the lent room"
abbrev pub kept : ℕ → Colours → Fate Colours
kept limit s =
    cond (ltb (length s.table) limit) (becomes (record { table = s.table ++ (colour_word s.colour ∷ []); colour = s.colour }))
    (fails ColourRoom)

-- a word: `red`, `green` and `blue` are numbers 37 to 39. A blue value that does not fit is refused before the room is asked,
-- as in the crate
unfoldable pub colour_word_of : ℕ → ℕ → Option ℕ → Colours → Fate Colours
colour_word_of limit w num s =
    cond (eqb w words.colour_red) (fitting num (becomes (reddened (value_of num) s)))
    (cond (eqb w words.colour_green) (fitting num (becomes (greened (value_of num) s)))
    (cond (eqb w words.colour_blue) (fitting num (kept limit (blued (value_of num) s)))
    (becomes s)))

-- what a token of the group shows
unfoldable pub colour_token : ℕ → Shown → Colours → Fate Colours
colour_token limit (Shown.word w num) s = colour_word_of limit w num s
colour_token limit (Shown.text p bs) s = becomes s
colour_token limit Shown.opening s = becomes s
colour_token limit Shown.closing s = becomes s
colour_token limit Shown.line_break s = becomes s
colour_token limit Shown.ignorable s = becomes s
colour_token limit (Shown.unknown p bs num) s = becomes s
colour_token limit (Shown.symbol b num) s = becomes s

-- a token; a refusal has the place of its slice
abbrev pub next_colour : ℕ → Found Colours → Token → Found Colours
next_colour limit (refused r) t = refused r
next_colour limit (found s) t = found_at (slice_of t) (colour_token limit (shown_in t) s)

-- token by token
unfoldable pub colours_from : ℕ → Found Colours → List Token → Found Colours
colours_from limit acc [] = acc
colours_from limit acc (t ∷ ts) = colours_from limit (next_colour limit acc t) ts

abbrev pub table_of : Found Colours → Found (List ℕ)
table_of (found s) = found s.table
table_of (refused r) = refused r

-- the table of a group's tokens
unfoldable pub colours : ℕ → List Token → Found (List ℕ)
colours limit ts = table_of (colours_from limit (found no_colours) ts)

-- what a function that reads a colour table into a room answers, and the room that it leaves: the records, a word each, over what stood
-- there. After a refusal `reader::read` clears the room
abbrev pub ReadColours : Found (List ℕ) → List ℕ → Result ℕ Refusal → List ℕ → Type 0
ReadColours (found cs) room r room' = (r ≡ Ok (length cs)) × (room' ≡ overlaid cs room)
ReadColours (refused q) room r room' = r ≡ Err q
