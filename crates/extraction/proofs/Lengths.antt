-- How many bytes a listing has, at most: seven numbers, twelve for each word of the rooms, the text and a line feed. Assumes
-- nothing.
use Prim.Native.Nat.{ℕ, ◌+◌, ◌*◌, ◌≤◌}
use mathlib.Core.List.{List, []}
use mathlib.Core.Bool.{Bool, true, false, cond}
use native.Mathlib.Omega.{arith}
use lib.Dec.{eqb}
use lib.ListN.{length, length-append, length-take}
use Rattle.fonts.specs.Rows.{font_words}
use Rattle.blocks.specs.Pages.{block_words}
use Rattle.colours.specs.Colours.{colour_words}
use Rattle.lines.proofs.Lengths.{length-decimal, length-place, length-lines}
use Rattle.parser.specs.declared.Counts.{Counts}
use Rattle.extraction.specs.Listings.{head_line, text_line, room_lines, listing}

length-head_line : (number place : ℕ) (n : Counts) → length (head_line number place n) ≤ 147
unfolding head_line
length-head_line number place n =
    let a = length-decimal number in
    let p = length-place number place in
    let b = length-decimal n.tokens in
    let c = length-decimal n.fonts in
    let d = length-decimal n.colours in
    let e = length-decimal n.blocks in
    let f = length-decimal n.text in
    simp length-append (omega arith)

length-text_line : (n : ℕ) (text : List ℕ) → length (text_line n text) ≤ length text + 1
unfolding text_line
length-text_line n text = simp (length-append, length-take) (omega arith)

module _ (n : Counts) (fonts colours blocks text : List ℕ) where
  length-room_lines : length (room_lines n fonts colours blocks text) ≤ 12 * (length fonts + length colours + length blocks) + length text + 1
  unfolding room_lines
  length-room_lines =
      let a = length-lines font_words n.fonts fonts in
      let b = length-lines colour_words n.colours colours in
      let c = length-lines block_words n.blocks blocks in
      let d = length-text_line n.text text in
      simp length-append (omega arith)

  pub length-listing : (number place : ℕ) → length (listing number place n fonts colours blocks text) ≤ 148 + 12 * (length fonts + length colours + length blocks) + length text
  unfolding listing
  length-listing number place =
      let h = length-head_line number place n in
      let g = length-room_lines in
      let a = length-append (head_line number place n) (cond (eqb number 0) (room_lines n fonts colours blocks text) []) in
      let c = go (eqb number 0) in
      omega arith
    where
      go : (t : Bool) → length (cond t (room_lines n fonts colours blocks text) []) ≤ length (room_lines n fonts colours blocks text)
      go true = omega arith
      go false = omega arith
