-- The refusals of the header: 10, 11 and 12 have the place of a token, 17 and 18 none.
--     tables-at   of the tables that the steps of the walk give
-- Assumes nothing.
use mathlib.Core.List.{List, [], ◌∷◌}
use mathlib.Core.Bool.{true, false}
use Prim.Native.Nat.{ℕ}
use Rattle.answers.specs.declared.Why.TheVariants.{TableLineBreak}
use Rattle.answers.specs.Answers.{Found, found, refused, Fate, becomes, fails, found_at, Told}
use Rattle.answers.proofs.Refusals.{told_at}
use Rattle.tokens.specs.Tokens.{Token, slice_of, shown_in}
use Rattle.fonts.specs.Rows.{Fonts, no_fonts, table_of}
use Rattle.fonts.specs.Fonts.{font_token, next_font, fonts_from, fonts}
use Rattle.colours.specs.Colours.{Colours, no_colours, colour_token, next_colour, colours_from, colours}
use Rattle.colours.specs.Colours.{table_of as colour_table_of}
use Rattle.walk.specs.Walk.{table_word, Step, kept, hidden, font_table, colour_table}
use Rattle.header.specs.Entering.{Tables, with_fonts, with_colours, read_step}
use Rattle.header.specs.Header.{no_tables, next_step, tables_from, tables}
use Rattle.places.proofs.Walks.{TokensAt, StepAt, StepsAt}

module _ (P : ℕ → Type 0) where
  -- a refusal, if there is one
  abbrev pub FoundAt : {A : Type 0} → Found A → Type 0
  FoundAt (found a) = Unit {0}
  FoundAt (refused r) = Told P r

  found-at : {A : Type 0} (p : ℕ) (x : Fate A) → P p → FoundAt (found_at p x)
  found-at p (becomes a) h = tt
  found-at p (fails why) h = told_at P why p h

  next-font-at : (limit : ℕ) (x : Found Fonts) (t : Token) → P (slice_of t) → FoundAt x → FoundAt (next_font limit x t)
  next-font-at limit (found s) t p h = found-at (slice_of t) (font_token limit (shown_in t) s) p
  next-font-at limit (refused r) t p h = h

  fonts-from-at : (limit : ℕ) (x : Found Fonts) (ts : List Token) → TokensAt P ts → FoundAt x → FoundAt (fonts_from limit x ts)
  unfolding fonts_from
  fonts-from-at limit x [] k h = h
  fonts-from-at limit x (t ∷ ts) k h = fonts-from-at limit (next_font limit x t) ts k.1 (next-font-at limit x t k.0 h)

  next-colour-at : (limit : ℕ) (x : Found Colours) (t : Token) → P (slice_of t) → FoundAt x → FoundAt (next_colour limit x t)
  next-colour-at limit (found s) t p h = found-at (slice_of t) (colour_token limit (shown_in t) s) p
  next-colour-at limit (refused r) t p h = h

  colours-from-at : (limit : ℕ) (x : Found Colours) (ts : List Token) → TokensAt P ts → FoundAt x → FoundAt (colours_from limit x ts)
  unfolding colours_from
  colours-from-at limit x [] k h = h
  colours-from-at limit x (t ∷ ts) k h = colours-from-at limit (next_colour limit x t) ts k.1 (next-colour-at limit x t k.0 h)

  with-fonts-at : (s : Tables) (x : Found Fonts) → FoundAt x → FoundAt (with_fonts s (table_of x))
  with-fonts-at s (found fs) h = tt
  with-fonts-at s (refused r) h = h

  with-colours-at : (s : Tables) (x : Found Colours) → FoundAt x → FoundAt (with_colours s (colour_table_of x))
  with-colours-at s (found cs) h = tt
  with-colours-at s (refused r) h = h

  module _ (f c : ℕ) where
    read_at : (x : Step) (s : Tables) → StepAt P x → FoundAt (read_step f c x s)
    unfolding fonts colours
    read_at (kept t) s k = tt
    read_at hidden s k = tt
    read_at (font_table true ts) s k = told_at P TableLineBreak (table_word ts) k
    read_at (font_table false ts) s k = with-fonts-at s (fonts_from f (found no_fonts) ts) (fonts-from-at f (found no_fonts) ts k tt)
    read_at (colour_table true ts) s k = told_at P TableLineBreak (table_word ts) k
    read_at (colour_table false ts) s k = with-colours-at s (colours_from c (found no_colours) ts) (colours-from-at c (found no_colours) ts k tt)

    next-at : (x : Found Tables) (s : Step) → StepAt P s → FoundAt x → FoundAt (next_step f c x s)
    next-at (found h) s k q = read_at s h k
    next-at (refused r) s k q = q

    tables-from-at : (x : Found Tables) (ss : List Step) → StepsAt P ss → FoundAt x → FoundAt (tables_from f c x ss)
    unfolding tables_from
    tables-from-at x [] k h = h
    tables-from-at x (s ∷ ss) k h = tables-from-at (next_step f c x s) ss k.1 (next-at x s k.0 h)

    pub tables-at : (ss : List Step) → StepsAt P ss → FoundAt (tables f c ss)
    tables-at ss k = tables-from-at (found no_tables) ss k tt
