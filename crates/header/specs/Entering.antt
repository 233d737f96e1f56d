-- What a step of the walk makes of the tables so far (01, Header walk), and an opening bracket, as the code meets it: what its
-- group makes of two rooms that hold tables. Assumes nothing: these are definitions.
use Rattle.std.specs.Prelude.{ℕ, ◌≡◌, List, Bool, true, false, length, take, Result, Ok, Err}
use Rattle.answers.specs.declared.Refusal.{Refusal}
use Rattle.answers.specs.declared.Why.TheVariants.{TableLineBreak}
use Rattle.answers.specs.Answers.{refusal_at, Found, found, refused}
use Rattle.tokens.specs.Tokens.{Token, shown_by}
use Rattle.tokens.specs.declared.item.Item.{Item}
use Rattle.tokens.specs.declared.item.Item.TheVariants.{Text, Opening, Closing, LineBreak, Ignorable, Word, Unknown, Symbol}
use Rattle.fonts.specs.Rows.{Font, table_words, InFront}
use Rattle.fonts.specs.Fonts.{fonts}
use Rattle.colours.specs.Colours.{colours}
use Rattle.walk.specs.Walk.{Step, kept, hidden, font_table, colour_table, aim, table_word, entered, entered_length}
use Rattle.header.specs.declared.group.Entered.{Entered}

pub record Tables : Type 0 where
  pub fonts : List Font
  pub colours : List ℕ

-- "A later table replaces an earlier one."
abbrev pub with_fonts : Tables → Found (List Font) → Found Tables
with_fonts s (found fs) = found (record { fonts = fs; colours = s.colours })
with_fonts s (refused r) = refused r

abbrev pub with_colours : Tables → Found (List ℕ) → Found Tables
with_colours s (found cs) = found (record { fonts = s.fonts; colours = cs })
with_colours s (refused r) = refused r

-- a step of the walk, where the rooms hold so many fonts and colours; 10: "line breaks stand between a bracket and `\fonttbl`
-- or `\colortbl`", with the place of "the table word" (02, A4)
abbrev pub read_step : ℕ → ℕ → Step → Tables → Found Tables
read_step f c (kept t) s = found s
read_step f c hidden s = found s
read_step f c (font_table true ts) s = refused (refusal_at TableLineBreak (table_word ts))
read_step f c (font_table false ts) s = with_fonts s (fonts f ts)
read_step f c (colour_table true ts) s = refused (refusal_at TableLineBreak (table_word ts))
read_step f c (colour_table false ts) s = with_colours s (colours c ts)

abbrev pub opens : Item → Bool
opens Opening = true
opens Closing = false
opens LineBreak = false
opens Ignorable = false
opens (Text p n) = false
opens (Word w num) = false
opens (Unknown p n num) = false
opens (Symbol b num) = false

-- the tables in front of two rooms, and their counts
pub record Holds (s : Tables) (nf nc : ℕ) (fs cs : List ℕ) : Type 0 where
  pub font_count : nf ≡ length s.fonts
  pub colour_count : nc ≡ length s.colours
  pub font_front : InFront (table_words s.fonts) fs
  pub colour_front : take (length s.colours) cs ≡ s.colours

-- so many fonts and colours then, and so many tokens to be passed over
abbrev pub onto : ℕ → ℕ → ℕ → Result Entered Refusal
onto nf nc h = Ok (record { fonts = nf; colours = nc; passed = h })

abbrev pub passed : Result Entered Refusal → ℕ
passed (Ok e) = e.passed
passed (Err r) = 0

-- a font table; late: 10, its word's slice at p. The colours stay
abbrev pub FontsMet : Bool → ℕ → Found (List Font) → ℕ → ℕ → Result Entered Refusal → List ℕ → Type 0
FontsMet true p x nc h r room = r ≡ Err (refusal_at TableLineBreak p)
FontsMet false p (found fs) nc h r room = (r ≡ onto (length fs) nc h) × InFront (table_words fs) room
FontsMet false p (refused q) nc h r room = r ≡ Err q

-- a colour table. The fonts stay
abbrev pub ColoursMet : Bool → ℕ → Found (List ℕ) → ℕ → ℕ → Result Entered Refusal → List ℕ → Type 0
ColoursMet true p x nf h r room = r ≡ Err (refusal_at TableLineBreak p)
ColoursMet false p (found cs) nf h r room = (r ≡ onto nf (length cs) h) × (take (length cs) room ≡ cs)
ColoursMet false p (refused q) nf h r room = r ≡ Err q

-- the tables after a step, h tokens on, or a refusal
abbrev pub Met : Found Tables → ℕ → Result Entered Refusal → List ℕ → List ℕ → Type 0
Met (found s) h r fs cs =
    (r ≡ onto (length s.fonts) (length s.colours) h) × InFront (table_words s.fonts) fs × (take (length s.colours) cs ≡ s.colours)
Met (refused q) h r fs cs = r ≡ Err q

-- what a function that enters a group answers, and what it leaves in the rooms, whatever tables they held
abbrev pub Enters : ℕ → ℕ → List Token → ℕ → ℕ → List ℕ → List ℕ → Result Entered Refusal → List ℕ → List ℕ → Type 0
Enters f c ts nf nc fs cs r fs' cs' =
    (t : Token) (s : Tables) → Holds s nf nc fs cs
    → Met (read_step f c (entered (aim (shown_by ts)) t ts) s) (entered_length (aim (shown_by ts)) (shown_by ts)) r fs' cs'
