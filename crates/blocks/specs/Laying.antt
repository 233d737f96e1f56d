-- Pieces laid into lent rooms one after the other, as the code does it: a block's record is written when it starts, and its
-- length grows with its text. Assumes nothing: these are definitions.
use Rattle.std.specs.Prelude.{ℕ, zero, suc, ◌+◌, ◌-◌, ◌*◌, ◌≤◌, List, cond, length, drop, set, ltb}
use Rattle.std.proofs.lemmas.List.Edits.{sets}
use Rattle.answers.specs.declared.Refusal.{Refusal}
use Rattle.answers.specs.declared.Why.{Why}
use Rattle.answers.specs.declared.Why.TheVariants.{BlockRoom, TextRoom}
use Rattle.answers.specs.Answers.{refusal}
use Rattle.rooms.specs.Streams.{Stream, end, stop, ◌▸◌}
use Rattle.rooms.specs.Rooms.{capacity, put}
use Rattle.styles.specs.declared.Style.{Style}
use Rattle.styles.specs.Styles.{style_at}
use Rattle.blocks.specs.declared.Page.{Page}
use Rattle.blocks.specs.Pages.{Piece, block_record, block_words, text_capacity, Last, none, last, starts}
use Rattle.std.specs.Prelude.{Result, Ok, Err}

-- a page with its two rooms, or a refusal
pub data Laying : Type 0 where
  on : Page → List ℕ → List ℕ → Laying
  off : Refusal → Laying

-- what a function that lays text answers, with the rooms that it leaves
abbrev pub told : Result Page Refusal → List ℕ → List ℕ → Laying
told (Ok p) b t = on p b t
told (Err r) b t = off r

-- what a step answers, with the page and the rooms that it leaves: it is done, or there is no room for it
abbrev pub roomed : Result Unit Why → Page → List ℕ → List ℕ → Laying
roomed (Ok u) p b t = on p b t
roomed (Err why) p b t = off (refusal why)

-- nothing is laid yet
abbrev pub blank : Page
blank = record { blocks = 0; text = 0; from = 0 }

-- the style that a room's record n says, and that of the last of n blocks
unfoldable pub style_in : List ℕ → ℕ → Style
style_in b n = style_at (drop (n * block_words) b)

abbrev pub last_in : List ℕ → ℕ → Last
last_in b zero = none
last_in b (suc n) = last (style_in b n)

-- a new block starts: it has no text as yet
abbrev pub opened : Page → Page
opened p = record { blocks = p.blocks + 1; text = p.text; from = p.text }

-- the block that text of a style goes to
unfoldable pub start_of : Page → Style → List ℕ → List ℕ → Laying
start_of p s b t =
    cond (starts (last_in b p.blocks) s)
    (cond (ltb p.blocks (capacity block_words (length b)))
    (on (opened p) (put block_words b p.blocks (block_record s p.text 0)) t)
    (off (refusal BlockRoom)))
    (on p b t)

-- n bytes more
abbrev pub longer : Page → ℕ → Page
longer p n = record { blocks = p.blocks; text = p.text + n; from = p.from }

-- the last block's length, in the last word of its record
abbrev pub measured : Page → List ℕ → List ℕ
measured p b = set b (p.blocks * block_words - 1) (p.text - p.from)

-- text goes behind the text, in the last block
unfoldable pub append_of : Page → List ℕ → List ℕ → List ℕ → Laying
append_of p bytes b t =
    cond (ltb (text_capacity (length t) - p.text) (length bytes)) (off (refusal TextRoom))
    (on (longer p (length bytes)) (measured (longer p (length bytes)) b) (sets t p.text bytes))

abbrev pub append_to : Laying → List ℕ → Laying
append_to (on p b t) bytes = append_of p bytes b t
append_to (off r) bytes = off r

-- text of a style
unfoldable pub add_of : Page → Style → List ℕ → List ℕ → List ℕ → Laying
add_of p s bytes b t = append_to (start_of p s b t) bytes

abbrev pub laid_on : Laying → Piece → Laying
laid_on (on p b t) x = add_of p x.style x.bytes b t
laid_on (off r) x = off r

abbrev pub stopped : Laying → Refusal → Laying
stopped (on p b t) r = off r
stopped (off q) r = off q

-- pieces one after the other; the first refusal stays
unfoldable pub lay_all : Laying → Stream Refusal Piece → Laying
lay_all l end = l
lay_all l (stop r) = stopped l r
lay_all l (x ▸ s) = lay_all (laid_on l x) s

-- a page that fits a block room of w words: what the code's functions ask and keep
pub record ReadyBlocks (p : Page) (w : ℕ) : Type 0 where
  pub blocks : p.blocks ≤ capacity block_words w
  pub small : p.text ≤ 2147483647
  pub from : p.from ≤ p.text

-- and a text room of v bytes
pub record Ready (p : Page) (w v : ℕ) : Type 0 where
  pub page : ReadyBlocks p w
  pub text : p.text ≤ text_capacity v

abbrev pub Still : Result Page Refusal → ℕ → ℕ → Type 0
Still (Ok p) w v = Ready p w v
Still (Err r) w v = 0 ≤ v
