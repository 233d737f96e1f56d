-- The whole list.
--     list-none, list-is, list_wrote   words that are no whole blocks; and else the count, and then the blocks
--     whole-few, number-place          the count is a number, and has at most five bytes
-- Assumes nothing.
use mathlib.Core.Path.{◌≡◌, refl}
use mathlib.Core.List.{List}
use mathlib.Core.Bool.{true, false, not}
use Prim.Native.Nat.{ℕ, ◌/◌, ◌%◌, ◌≤◌}
use native.Mathlib.Omega.{arith}
use borrow.Author.Tests.{not-true, not-false, leb-true}
use lib.ListN.{length}
use lib.Dec.{leb, eqb}
use Rattle.answers.specs.declared.Why.TheVariants.{StoredField}
use Rattle.answers.specs.Answers.{refusal}
use Rattle.classes.proofs.Runs.{and_right}
use Rattle.rooms.specs.Streams.{and_then}
use Rattle.rooms.specs.Rooms.{Wrote}
use Rattle.rooms.proofs.Rooms.{wrote-stop, wrote_then}
use Rattle.sevens.specs.Sevens.{written, byte_layout, streamed}
use Rattle.sevens.proofs.Sevens.{written-length}
use Rattle.sevens.proofs.Streamed.{place_after}
use Rattle.blocks.specs.Pages.{none, block_words}
use Rattle.storing.specs.Lists.{pieces_from, bytes_of, whole, list_stream}
use Rattle.std.specs.Prelude.{Result, Ok, Err}
use Rattle.answers.specs.declared.Refusal.{Refusal}

module _ (ws tx : List ℕ) where
  pub list-none : not (whole ws) ≡ true → {r : Result ℕ Refusal} {room : List ℕ} → r ≡ Err (refusal StoredField)
      → Wrote byte_layout 0 room (list_stream ws tx) r room
  unfolding list_stream
  list-none t e = rw e (wrote-stop byte_layout (rw (not-true (whole ws) t)) refl)

  pub list-is : whole ws ≡ true
      → list_stream ws tx
      ≡ and_then (streamed (written (length ws / block_words))) (bytes_of (pieces_from (length ws / block_words) none 0 ws tx))
  unfolding list_stream
  list-is t = rw t

  pub list_wrote : not (whole ws) ≡ false → {start : ℕ} {r : Result ℕ Refusal} {room room' room'' : List ℕ}
      → Wrote byte_layout 0 room (streamed (written (length ws / block_words))) (Ok start) room'
      → Wrote byte_layout start room' (bytes_of (pieces_from (length ws / block_words) none 0 ws tx)) r room''
      → Wrote byte_layout 0 room (list_stream ws tx) r room''
  list_wrote t w v =
      wrote_then byte_layout (bytes_of (pieces_from (length ws / block_words) none 0 ws tx)) (list-is (not-false (whole ws) t)) w refl v

-- whole blocks are few enough for a stored number
pub whole-few : (ws : List ℕ) → not (whole ws) ≡ false → length ws / block_words ≤ 4294967295
whole-few ws t =
    leb-true (length ws / block_words) 4294967295
    (and_right (eqb (length ws % block_words) 0) (leb (length ws / block_words) 4294967295) (not-false (whole ws) t))

-- the place behind the count
pub number-place : (v : ℕ) {at : ℕ} {room room' : List ℕ} → Wrote byte_layout 0 room (streamed (written v)) (Ok at) room'
    → at ≤ 5
number-place v w = omega (arith, place_after (written v) w, written-length v)
