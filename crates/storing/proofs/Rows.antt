-- The loop over the records: who writes the blocks of the records left has written all. A block has at most 60 bytes of numbers
-- and at least one of text, so that the next place is at most 61 times the place in the text, and five more.
-- Assumes nothing.
use mathlib.Core.Path.{◌≡◌, refl, sym, ◌∙◌}
use mathlib.Core.List.{List, ◌++◌}
use mathlib.Core.Bool.{Bool, true, false}
use Prim.Native.Nat.{ℕ, ◌+◌, ◌-◌, ◌*◌, ◌/◌, ◌≤◌, ◌<◌}
use native.Mathlib.Omega.{arith}
use borrow.Author.Tests.{eq-eqb, ne_eqb}
use lib.ListN.{length, take, drop, length-take, length-drop}
use Rattle.answers.specs.declared.Why.TheVariants.{StoredField}
use Rattle.answers.specs.Answers.{refusal}
use Rattle.rooms.specs.Streams.{Stream, end, stop, and_then}
use Rattle.rooms.specs.Rooms.{Wrote}
use Rattle.rooms.proofs.Rooms.{wrote_none, wrote-stop, wrote_then}
use Rattle.sevens.specs.Sevens.{byte_layout, streamed}
use Rattle.sevens.proofs.Streamed.{place_after}
use Rattle.styles.specs.declared.Style.{Style}
use Rattle.fields.specs.Fields.{last_of}
use Rattle.blocks.specs.Pages.{Piece, piece, Last, none, last, block_words}
use Rattle.styles.specs.Styles.{style_at}
use Rattle.storing.specs.Fitting.{length_at, fits}
use Rattle.storing.proofs.Fitting.{Fit, fits-fit}
use Rattle.storing.proofs.Fronts.{one_fewer, front-style, front-length, front-fits, front-rest}
use Rattle.storing.specs.Bytes.{block_bytes}
use Rattle.storing.proofs.Putting.{Ahead, wrote-length, length-block}
use Rattle.storing.specs.Lists.{pieces_from, bytes_of}
use Rattle.answers.specs.declared.Refusal.{Refusal}
use Rattle.std.specs.Prelude.{Result, Ok, Err, Option, Some}

-- the bytes of the records that words are
abbrev pub rows_of : List ℕ → Last → ℕ → List ℕ → Stream Refusal ℕ
rows_of ws l p tx = bytes_of (pieces_from (length ws / block_words) l p ws tx)

module _ (l : Last) (p : ℕ) (tx : List ℕ) where
  module _ (w ws : List ℕ) (n : length w ≡ block_words) where
    row-bad : fits l p w tx ≡ false → rows_of (w ++ ws) l p tx ≡ stop (refusal StoredField)
    unfolding pieces_from bytes_of
    row-bad f = rw (one_fewer w ws n, front-fits w ws n l p tx, f)

    row-good : fits l p w tx ≡ true
        → rows_of (w ++ ws) l p tx
        ≡ and_then (streamed (block_bytes (piece (style_at w) (take (length_at w) (drop p tx)))))
        (rows_of ws (last (style_at w)) (p + length_at w) tx)
    unfolding pieces_from bytes_of
    row-good f = rw (one_fewer w ws n, front-fits w ws n l p tx, f, front-style w ws n, front-length w ws n, front-rest w ws n)

  module _ (ws : List ℕ) (h : length ws < block_words) where
    none_left : length ws / block_words ≡ 0
    none_left = omega arith

    rows-rest : (p ≡ length tx → ⊥) → rows_of ws l p tx ≡ stop (refusal StoredField)
    unfolding pieces_from bytes_of
    rows-rest f = rw (none_left, ne_eqb p (length tx) f)

    rows_end : p ≡ length tx → rows_of ws l p tx ≡ end
    unfolding pieces_from bytes_of
    rows_end e = rw (none_left, eq-eqb p (length tx) e)

-- ws are the words left, behind p bytes of the text
pub record Rows (blocks tx : List ℕ) (n : ℕ) (room₀ room ws : List ℕ) (before : Option Style) (p at : ℕ) : Type 0 where
  pub within : p ≤ length tx
  pub place : at ≤ 5 + 61 * p
  pub same : length room ≡ length room₀
  pub left : Ahead n room₀ (rows_of blocks none 0 tx) at room (rows_of ws (last_of before) p tx)

module _ {blocks tx : List ℕ} {n : ℕ} {room₀ room ws : List ℕ} {before : Option Style} {p at : ℕ}
    (l : Rows blocks tx n room₀ room ws before p at) where
  stops : rows_of ws (last_of before) p tx ≡ stop (refusal StoredField) → {r : Result ℕ Refusal} → r ≡ Err (refusal StoredField)
      → Wrote byte_layout n room₀ (rows_of blocks none 0 tx) r room
  stops e q = rw q (l.left (Err (refusal StoredField)) room (wrote-stop byte_layout e refl))

  pub rows-over : length ws < block_words → p < length tx → {r : Result ℕ Refusal} → r ≡ Err (refusal StoredField)
      → Wrote byte_layout n room₀ (rows_of blocks none 0 tx) r room
  rows-over h f q = stops (rows-rest (last_of before) p tx ws h (λ e. omega arith)) q

  pub rows-done : length ws < block_words → length tx ≤ p → Wrote byte_layout n room₀ (rows_of blocks none 0 tx) (Ok at) room
  rows-done h e =
      let q : p ≡ length tx = omega (arith, l.within) in
      l.left (Ok at) room (wrote_none byte_layout (rows_end (last_of before) p tx ws h q))

-- the next record
module _ (w ws : List ℕ) {blocks tx : List ℕ} {n : ℕ} {room₀ room : List ℕ} {before : Option Style} {p at : ℕ}
    (l : Rows blocks tx n room₀ room (w ++ ws) before p at) (k : length w ≡ block_words) {a : Bool} (e : a ≡ fits (last_of before) p w tx) where
  pub rows-stop : a ≡ false → {r : Result ℕ Refusal} → r ≡ Err (refusal StoredField) → Wrote byte_layout n room₀ (rows_of blocks none 0 tx) r room
  rows-stop t q = stops l (row-bad (last_of before) p tx w ws k (sym e ∙ t)) q

  module _ (t : a ≡ true) where
    pub row-fit : Fit (last_of before) p w tx
    row-fit = fits-fit (last_of before) p w tx (sym e ∙ t)

    pub rows_more : {s : Style} {count : ℕ} → s ≡ style_at w → count ≡ length_at w → {at' : ℕ} {room' : List ℕ}
        → Wrote byte_layout at room (streamed (block_bytes (piece s (take (p + count - p) (drop p tx))))) (Ok at') room'
        → Rows blocks tx n room₀ room' ws (Some s) (p + count) at'
    rows_more {s} {count} es ec {at'} {room'} v =
        let i : p + count - p ≡ length_at w = omega arith in
        let x : Piece = piece s (take (p + count - p) (drop p tx)) in
        let f = row-fit in
        let z : length x.bytes ≡ count = simp (length-take, length-drop) (omega (arith, f.within)) in
        let next : Stream Refusal ℕ = rows_of ws (last s) (p + count) tx in
        let c : rows_of (w ++ ws) (last_of before) p tx ≡ and_then (streamed (block_bytes x)) next =
        row-good (last_of before) p tx w ws k (sym e ∙ t) ∙ rw (i, es, ec) in
        record {
          within = omega (arith, l.within, f.within);
          place = omega (arith, l.place, f.some, place_after (block_bytes x) v, length-block x);
          same = wrote-length v ∙ l.same;
          left = λ r room'' u. l.left r room'' (wrote_then byte_layout next c v refl u);
        }
