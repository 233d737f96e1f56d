-- The lines of a listing.
--     text-part, -all                   a text that goes on, and one that does not
--     listing-refused, -read            the whole, by the answer's number
-- Assumes nothing.
use Prim.Native.Nat.{ℕ, ◌≤◌}
use mathlib.Core.Path.{◌≡◌, refl}
use mathlib.Core.List.{List, [], ◌∷◌, ◌++◌, append-nil}
use borrow.Author.Tests.{eq-eqb, ne_eqb}
use lib.ListN.{length, take}
use lib.Seq.{take_all}
use Rattle.fonts.specs.Rows.{font_words}
use Rattle.blocks.specs.Pages.{block_words}
use Rattle.colours.specs.Colours.{colour_words}
use Rattle.lines.specs.Lines.{lines}
use Rattle.parser.specs.declared.Counts.{Counts}
use Rattle.extraction.specs.Listings.{head_line, text_line, room_lines, listing}

pub text-part : (n : ℕ) (text : List ℕ) → take n text ++ (10 ∷ []) ≡ text_line n text
unfolding text_line
text-part n text = refl

pub text-all : (n : ℕ) (text : List ℕ) → length text ≤ n → text ++ (10 ∷ []) ≡ text_line n text
unfolding text_line
text-all n text h = rw (take_all n text h)

module _ (number place : ℕ) (n : Counts) (fonts colours blocks text : List ℕ) where
  pub listing-refused : (number ≡ 0 → ⊥) → head_line number place n ≡ listing number place n fonts colours blocks text
  unfolding listing
  listing-refused h = rw (ne_eqb number 0 h, append-nil)

  pub listing-read : number ≡ 0
      → head_line number place n ++ (lines font_words n.fonts fonts ++ (lines colour_words n.colours colours ++ (lines block_words n.blocks blocks ++ text_line n.text text)))
      ≡ listing number place n fonts colours blocks text
  unfolding listing room_lines
  listing-read h = rw (eq-eqb number 0 h)
