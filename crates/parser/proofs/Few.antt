-- How much a letter that was read has: at most as many blocks as tokens, at most 256 fonts and colours, and a text that its room counts.
--     walk-few, acts-few, body-few    the walk, its acts and the body give no more than there are tokens
--     roomy-few, roomy-short           nor do the pieces that find room, whose text is no longer than the room
--     blocks-few                       nor do the blocks
--     letter-few                       so it is with a letter
-- Assumes nothing.
use mathlib.Core.Path.{◌≡◌, refl, ap}
use mathlib.Core.List.{List, [], ◌∷◌, ◌++◌}
use mathlib.Core.Bool.{Bool, true, false, cond, ◌&&◌}
use Prim.Native.Nat.{ℕ, zero, suc, ◌-◌, ◌≤◌}
use native.Mathlib.Omega.{arith}
use borrow.Author.Tests.{ltb-true, ltb-false}
use lib.ListN.{length, length-append}
use lib.Dec.{eqb, ltb}
use Rattle.answers.specs.declared.Refusal.{Refusal}
use Rattle.answers.specs.declared.Why.TheVariants.{BlockRoom, TextRoom}
use Rattle.answers.specs.Answers.{refusal, Found, found, refused}
use Rattle.rooms.specs.Streams.{Stream, end, stop, ◌▸◌, items, answer}
use Rattle.rooms.specs.Rooms.{capacity, table_limit}
use Rattle.tokens.specs.Tokens.{Shown, Token, token, shown_in, shown_by}
use Rattle.readings.specs.declared.Reading.{Reading}
use Rattle.styles.specs.declared.Style.{Style}
use Rattle.styles.specs.Styles.{same_style}
use Rattle.settings.specs.Fields.{fresh_row}
use Rattle.walk.specs.Walk.{Step, left_at, walk_from, walk}
use Rattle.units.specs.Units.{before}
use Rattle.machine.proofs.Few.{machine-few}
use Rattle.fonts.specs.Rows.{font_words}
use Rattle.colours.specs.Colours.{colour_words}
use Rattle.header.specs.Entering.{Tables}
use Rattle.header.specs.Header.{tables}
use Rattle.header.proofs.Tables.{tables-few-256}
use Rattle.blocks.specs.Pages.{Piece, piece, blocks_from, blocks, text_of, block_words, text_capacity, Last, none, last, starts, roomy}
use Rattle.runs.specs.Runs.{rows, steps_by}
use Rattle.runs.proofs.Saying.{steps-few}
use Rattle.body.specs.Body.{acts, body}
use Rattle.parser.specs.Parsing.{begun, Sizes, letter_from, placed, bodied, headed, walked, FewIn}
use Rattle.std.specs.Prelude.{Result, Ok, Err}

walk-few : (w : ℕ) (ts : List Token) → length (walk_from w ts) ≤ length ts
unfolding walk_from
walk-few w [] = omega arith
walk-few zero (t ∷ ts) = let h = walk-few (left_at zero (shown_in t) (shown_by ts)) ts in omega arith
walk-few (suc w) (t ∷ ts) = let h = walk-few w ts in omega arith

acts-few : (rd : Reading) (ss : List Step) → length (acts rd ss) ≡ length ss
unfolding acts
acts-few rd [] = refl
acts-few rd (s ∷ ss) = ap suc (acts-few rd ss)

body-few : (rd : Reading) (ss : List Step) → length (items (body rd ss)) ≤ length ss
unfolding body
body-few rd ss =
    let h = machine-few rows (steps_by rd) (steps-few rd) (fresh_row ∷ []) before 0 (acts rd ss) in
    let k = acts-few rd ss in
    omega arith

module _ (x : Piece) (more : Stream Refusal Piece) (y z : Bool) where
  abbrev fate : Stream Refusal Piece
  fate = cond y (stop (refusal BlockRoom)) (cond z (stop (refusal TextRoom)) (x ▸ more))

fate-few : (x : Piece) (more : Stream Refusal Piece) (y z : Bool) → length (items (fate x more y z)) ≤ suc (length (items more))
unfolding items
fate-few x more true z = omega arith
fate-few x more false true = omega arith
fate-few x more false false = omega arith

roomy-few : (s : Stream Refusal Piece) (b t : ℕ) (l : Last) → length (items (roomy b t l s)) ≤ length (items s)
unfolding roomy items
roomy-few end b t l = omega arith
roomy-few (stop r) b t l = omega arith
roomy-few (x ▸ s) b t l =
    let more : Stream Refusal Piece = roomy (cond (starts l x.style) (b - 1) b) (t - length x.bytes) (last x.style) s in
    let h = fate-few x more (starts l x.style && eqb b 0) (ltb t (length x.bytes)) in
    let k = roomy-few s (cond (starts l x.style) (b - 1) b) (t - length x.bytes) (last x.style) in
    omega arith

roomy-short : (s : Stream Refusal Piece) (b t : ℕ) (l : Last) → length (text_of (items (roomy b t l s))) ≤ t
unfolding roomy items text_of
roomy-short end b t l = omega arith
roomy-short (stop r) b t l = omega arith
roomy-short (x ▸ s) b t l =
    go (starts l x.style && eqb b 0) (ltb t (length x.bytes)) refl (roomy-short s (cond (starts l x.style) (b - 1) b) (t - length x.bytes) (last x.style))
  where
    more : Stream Refusal Piece
    more = roomy (cond (starts l x.style) (b - 1) b) (t - length x.bytes) (last x.style) s

    go : (y z : Bool) → ltb t (length x.bytes) ≡ z → length (text_of (items more)) ≤ t - length x.bytes → length (text_of (items (fate x more y z))) ≤ t
    go true z e h = omega arith
    go false true e h = omega arith
    go false false e h =
        let k : length x.bytes ≤ t = ltb-false t (length x.bytes) e in
        let n = length-append x.bytes (text_of (items more)) in
        omega arith

blocks-from-few : (s : Style) (bs : List ℕ) (xs : List Piece) → length (blocks_from s bs xs) ≤ suc (length xs)
unfolding blocks_from
blocks-from-few s bs [] = omega arith
blocks-from-few s bs (x ∷ xs) = go (same_style s x.style) (blocks-from-few s (bs ++ x.bytes) xs) (blocks-from-few x.style x.bytes xs)
  where
    go : (t : Bool) → length (blocks_from s (bs ++ x.bytes) xs) ≤ suc (length xs) → length (blocks_from x.style x.bytes xs) ≤ suc (length xs)
        → length (cond t (blocks_from s (bs ++ x.bytes) xs) (piece s bs ∷ blocks_from x.style x.bytes xs)) ≤ suc (suc (length xs))
    go true h k = omega arith
    go false h k = omega arith

blocks-few : (xs : List Piece) → length (blocks xs) ≤ length xs
unfolding blocks
blocks-few [] = omega arith
blocks-few (x ∷ xs) = blocks-from-few x.style x.bytes xs

capacity-most : (t : ℕ) → text_capacity t ≤ 2147483647
capacity-most t = go (ltb t 2147483647) refl
  where
    go : (y : Bool) → ltb t 2147483647 ≡ y → cond y t 2147483647 ≤ 2147483647
    go true e = let h = ltb-true t 2147483647 e in omega arith
    go false e = omega arith

-- the pieces of a body that found room
placed-few : (rd : Reading) (b t : ℕ) (ts : List Token) → (length (blocks (items (placed rd b t ts))) ≤ length ts) × (length (text_of (items (placed rd b t ts))) ≤ 2147483647)
unfolding placed
placed-few rd b t ts =
    let s : Stream Refusal Piece = body rd (walk ts) in
    let p = blocks-few (items (roomy (capacity block_words b) (text_capacity t) none s)) in
    let q = roomy-few s (capacity block_words b) (text_capacity t) none in
    let u = body-few rd (walk ts) in
    let w = walk-few 0 ts in
    let x = roomy-short s (capacity block_words b) (text_capacity t) none in
    let y = capacity-most t in
    (omega arith, omega arith)

letter-from-few : (rd : Reading) (b t : ℕ) (ts : List Token) (h : Tables) → (length h.fonts ≤ 256) × (length h.colours ≤ 256) → (o : Result ℕ Refusal)
    → FewIn (length ts) (letter_from h (placed rd b t ts) o)
letter-from-few rd b t ts h k (Ok n) = let p = placed-few rd b t ts in record { fonts = k.0; colours = k.1; blocks = p.0; text = p.1 }
letter-from-few rd b t ts h k (Err r) = tt

headed-few : (rd : Reading) (b t : ℕ) (ts : List Token) (x : Found Tables) → ((s : Tables) → x ≡ found s → (length s.fonts ≤ 256) × (length s.colours ≤ 256))
    → FewIn (length ts) (headed rd b t ts x)
unfolding bodied
headed-few rd b t ts (found s) h = letter-from-few rd b t ts s (h s refl) (answer 0 (placed rd b t ts))
headed-few rd b t ts (refused r) h = tt

pub letter-few : (rd : Reading) (z : Sizes) (ts : List Token) → FewIn (length ts) (walked rd z (begun ts))
letter-few rd z [] = tt
letter-few rd z (token p n Shown.opening ∷ ts) =
    let all : List Token = token p n Shown.opening ∷ ts in
    headed-few rd z.blocks z.text all (tables (table_limit font_words z.fonts) (table_limit colour_words z.colours) (walk all))
    (λ s e. tables-few-256 z.fonts z.colours (walk all) s e)
letter-few rd z (token p n Shown.closing ∷ ts) = tt
letter-few rd z (token p n Shown.line_break ∷ ts) = tt
letter-few rd z (token p n Shown.ignorable ∷ ts) = tt
letter-few rd z (token p n (Shown.text q bs) ∷ ts) = tt
letter-few rd z (token p n (Shown.word w num) ∷ ts) = tt
letter-few rd z (token p n (Shown.unknown q bs num) ∷ ts) = tt
letter-few rd z (token p n (Shown.symbol b num) ∷ ts) = tt
