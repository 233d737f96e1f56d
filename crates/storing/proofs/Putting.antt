-- What the loops over numbers and over bytes have written, and a block's numbers and text.
--     Ahead                   who writes what is left has written all
--     Numbers, numbers-..     the loop over numbers
--     Bytes, bytes-..         the loop over bytes
--     length-numbers, -block  how many bytes numbers and a block have
--     block-wrote             numbers, and then a text
-- Assumes nothing.
use mathlib.Core.Path.{◌≡◌, refl, ap, ◌∙◌}
use mathlib.Core.List.{List, [], ◌∷◌, ◌++◌}
use Prim.Native.Nat.{ℕ, suc, ◌+◌, ◌*◌, ◌≤◌, ◌<◌}
use native.Mathlib.Numerals.{add-one}
use native.Mathlib.Omega.{arith}
use lib.ListN.{length, get_or, take, drop, length-append, drop_of_length-le}
use lib.Seq.{drop-cons}
use Rattle.rooms.specs.Streams.{Stream, end, and_then}
use Rattle.rooms.specs.Rooms.{Wrote, put}
use Rattle.rooms.proofs.Rooms.{wrote_none, wrote_then, wrote-more, length-put}
use Rattle.sevens.specs.Sevens.{written, byte_layout, streamed}
use Rattle.sevens.proofs.Sevens.{written-length}
use Rattle.sevens.proofs.Streamed.{streamed-append, place_after}
use Rattle.styles.specs.declared.Style.{Style}
use Rattle.styles.specs.Styles.{bare_width, style_words}
use Rattle.fields.specs.Fields.{number_at, style_numbers, block_numbers}
use Rattle.fields.proofs.Styles.{length-by_place}
use Rattle.blocks.specs.Pages.{Piece, piece}
use Rattle.storing.specs.Bytes.{numbers_bytes, numbers_in, block_bytes}
use Rattle.answers.specs.declared.Refusal.{Refusal}
use Rattle.std.specs.Prelude.{Result, Ok}

-- who writes y from place `at` on has then written x from place n on
abbrev pub Ahead : ℕ → List ℕ → Stream Refusal ℕ → ℕ → List ℕ → Stream Refusal ℕ → Type 0
Ahead n room₀ x at room y =
    (r : Result ℕ Refusal) (room' : List ℕ) → Wrote byte_layout at room y r room' → Wrote byte_layout n room₀ x r room'

-- what is written keeps the room's length
pub wrote-length : {n : ℕ} {room room' : List ℕ} {s : Stream Refusal ℕ} {r : Result ℕ Refusal} → Wrote byte_layout n room s r room'
    → length room' ≡ length room
wrote-length w = w.long

-- ---- numbers

numbers-cons : (ws : List ℕ) (i : ℕ) → i < length ws
    → streamed (numbers_bytes (drop i ws))
    ≡ and_then (streamed (written (get_or ws i 0))) (streamed (numbers_bytes (drop (i + 1) ws)))
unfolding numbers_bytes
numbers-cons ws i h =
    rw (drop-cons ws i 0 h, add-one i) (streamed-append (written (get_or ws i 0)) (numbers_bytes (drop (suc i) ws)))

-- i numbers are written
pub record Numbers (ws : List ℕ) (n : ℕ) (room₀ room : List ℕ) (at i : ℕ) : Type 0 where
  pub within : i ≤ length ws
  pub place : at ≤ n + 5 * i
  pub same : length room ≡ length room₀
  pub left : Ahead n room₀ (streamed (numbers_bytes ws)) at room (streamed (numbers_bytes (drop i ws)))

module _ {ws : List ℕ} {n : ℕ} {room₀ room : List ℕ} {at i : ℕ} (l : Numbers ws n room₀ room at i) where
  pub numbers_more : i < length ws → {at' : ℕ} {room' : List ℕ}
      → Wrote byte_layout at room (streamed (written (get_or ws i 0))) (Ok at') room' → Numbers ws n room₀ room' at' (i + 1)
  numbers_more h {at'} {room'} w = record {
    within = omega arith;
    place = omega (arith, l.place, place_after (written (get_or ws i 0)) w, written-length (get_or ws i 0));
    same = wrote-length w ∙ l.same;
    left = λ r room'' v. l.left r room''
        (wrote_then byte_layout (streamed (numbers_bytes (drop (i + 1) ws))) (numbers-cons ws i h) w refl v);
  }

  pub numbers-done : length ws ≤ i → Wrote byte_layout n room₀ (streamed (numbers_bytes ws)) (Ok at) room
  unfolding numbers_bytes streamed
  numbers-done h =
      let e : streamed (numbers_bytes (drop i ws)) ≡ end =
      ap (λ (x : List ℕ). streamed (numbers_bytes x)) (drop_of_length-le ws h) in
      l.left (Ok at) room (wrote_none byte_layout e)

pub length-numbers : (ws : List ℕ) → length (numbers_bytes ws) ≤ 5 * length ws
unfolding numbers_bytes
length-numbers [] = omega arith
length-numbers (w ∷ ws) = omega (arith, length-append (written w) (numbers_bytes ws), written-length w, length-numbers ws)

-- ---- bytes

-- i bytes are written
pub record Bytes (bs : List ℕ) (n : ℕ) (room₀ room : List ℕ) (at i : ℕ) : Type 0 where
  pub within : i ≤ length bs
  pub place : at ≡ n + i
  pub same : length room ≡ length room₀
  pub left : Ahead n room₀ (streamed bs) at room (streamed (drop i bs))

module _ {bs : List ℕ} {n : ℕ} {room₀ room : List ℕ} {at i : ℕ} (l : Bytes bs n room₀ room at i) where
  pub bytes-more : i < length bs → {room' : List ℕ} → room' ≡ put 1 room at (get_or bs i 0 ∷ [])
      → Bytes bs n room₀ room' (at + 1) (i + 1)
  unfolding streamed
  bytes-more h {room'} e = record {
    within = omega arith;
    place = omega (arith, l.place);
    same = ap length e ∙ length-put 1 room at (get_or bs i 0 ∷ []) ∙ l.same;
    left = λ r room'' v. l.left r room'' (wrote-more byte_layout (ap streamed (drop-cons bs i 0 h) ∙ rw (add-one i)) e v);
  }

  pub bytes-done : length bs ≤ i → Wrote byte_layout n room₀ (streamed bs) (Ok at) room
  unfolding streamed
  bytes-done h = l.left (Ok at) room (wrote_none byte_layout (ap streamed (drop_of_length-le bs h)))

-- ---- a block

length-in : (x : Piece) → length (numbers_in x) ≡ block_numbers
length-in x =
    length-append (style_numbers x.style) (length x.bytes ∷ [])
    ∙ rw (length-by_place number_at 0 (take bare_width (style_words x.style)))

pub length-block : (x : Piece) → length (block_bytes x) ≤ 60 + length x.bytes
unfolding block_bytes
length-block x = omega (arith, length-append (numbers_bytes (numbers_in x)) x.bytes, length-numbers (numbers_in x), length-in x)

pub block-wrote : (s : Style) (text ws : List ℕ) → ws ≡ style_numbers s ++ (length text ∷ [])
    → {n at r : ℕ} {room room' room'' : List ℕ}
    → Wrote byte_layout n room (streamed (numbers_bytes ws)) (Ok at) room'
    → Wrote byte_layout at room' (streamed text) (Ok r) room''
    → Wrote byte_layout n room (streamed (block_bytes (piece s text))) (Ok r) room''
unfolding block_bytes
block-wrote s text ws e w v =
    wrote_then byte_layout (streamed text) (rw (← e) (streamed-append (numbers_bytes ws) text)) w refl v

-- the place behind numbers
pub numbers-place : (ws : List ℕ) {n at : ℕ} {room room' : List ℕ}
    → Wrote byte_layout n room (streamed (numbers_bytes ws)) (Ok at) room'
    → at ≤ n + 5 * length ws
numbers-place ws w = omega (arith, place_after (numbers_bytes ws) w, length-numbers ws)
