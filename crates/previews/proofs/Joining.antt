-- Pieces that a stored block can be made of become blocks that a stored list can hold.
--     items-storable     the pieces of a stream, as a list
--     blocks-storable    the blocks that pieces are joined to are such pieces too
--     storable-good      neighbours differ, so a stored list can hold them
--     storable-flat      in plain reading none has an indent
--     storable-small     and its numbers can say them, if the text is no longer than a text room counts for
-- Assumes nothing.
use mathlib.Core.Path.{◌≡◌, refl, ap, ◌∙◌}
use mathlib.Core.List.{List, [], ◌∷◌, ◌++◌}
use mathlib.Core.Bool.{Bool, true, false, cond, not}
use Prim.Native.Nat.{ℕ, ◌≤◌}
use native.Mathlib.Omega.{arith}
use lib.ListN.{length, length-append}
use Rattle.rooms.specs.Streams.{Stream, end, stop, ◌▸◌, items}
use Rattle.rooms.proofs.Streams.{Each}
use Rattle.wellformed.proofs.WellFormed.{utf8-join}
use Rattle.readings.specs.declared.Reading.{Reading}
use Rattle.readings.specs.declared.Reading.TheVariants.{Plain}
use Rattle.styles.specs.declared.Style.{Style}
use Rattle.styles.specs.Styles.{same_style}
use Rattle.blocks.specs.Pages.{Piece, piece, blocks_from, blocks, text_of, Last, none, last}
use Rattle.blocks.proofs.Blocks.{ApartFrom, Apart, blocks-differ}
use Rattle.storing.specs.Good.{Good, Flat}
use Rattle.storing.proofs.Writing.{one-good, one-flat}
use Rattle.roundtrips.specs.Trips.{Small}
use Rattle.previews.proofs.Tokens.{All}
use Rattle.previews.proofs.Pieces.{Whole, Storable}
use Rattle.answers.specs.declared.Refusal.{Refusal}

module _ (rd : Reading) where
  pub items-storable : (s : Stream Refusal Piece) → Each (Storable rd) s → All (Storable rd) (items s)
  unfolding items
  items-storable end h = tt
  items-storable (stop r) h = tt
  items-storable (x ▸ s) h = (h.0, items-storable s h.1)

  -- text behind text
  join-whole : (a b : List ℕ) → Whole a → Whole b → Whole (a ++ b)
  join-whole a b h k = record { some = omega (arith, h.some, length-append a b); utf8 = utf8-join a b h.utf8 ∙ k.utf8 }

  from-storable : (xs : List Piece) (s : Style) (bs : List ℕ) → Storable rd (piece s bs) → All (Storable rd) xs
      → All (Storable rd) (blocks_from s bs xs)
  unfolding blocks_from
  from-storable [] s bs g h = (g, tt)
  from-storable (x ∷ xs) s bs g h =
      go (same_style s x.style) (from-storable xs s (bs ++ x.bytes) longer h.1)
      (from-storable xs x.style x.bytes h.0 h.1)
    where
      longer : Storable rd (piece s (bs ++ x.bytes))
      longer = record { range = g.range; words = g.words; text = join-whole bs x.bytes g.text h.0.text; bare = g.bare }

      go : (t : Bool) → All (Storable rd) (blocks_from s (bs ++ x.bytes) xs) → All (Storable rd) (blocks_from x.style x.bytes xs)
          → All (Storable rd) (cond t (blocks_from s (bs ++ x.bytes) xs) (piece s bs ∷ blocks_from x.style x.bytes xs))
      go true p q = p
      go false p q = (g, q)

  pub blocks-storable : (xs : List Piece) → All (Storable rd) xs → All (Storable rd) (blocks xs)
  unfolding blocks
  blocks-storable [] h = tt
  blocks-storable (x ∷ xs) h = from-storable xs x.style x.bytes h.0 h.1

  no_blocks : (l : Last) → Good l [] ≡ true
  unfolding Good
  no_blocks l = refl

  good-from : (xs : List Piece) (s : Style) → All (Storable rd) xs → ApartFrom s xs → Good (last s) xs ≡ true
  good-from [] s h d = no_blocks (last s)
  good-from (x ∷ xs) s h d =
      one-good (last s) x xs (record {
        range = h.0.range;
        some = h.0.text.some;
        change = ap not d.0;
        whole = h.0.text.utf8;
        rest = good-from xs x.style h.1 d.1;
      })

  good-all : (xs : List Piece) → All (Storable rd) xs → Apart xs → Good none xs ≡ true
  good-all [] h d = no_blocks none
  good-all (x ∷ xs) h d =
      one-good none x xs (record {
        range = h.0.range;
        some = h.0.text.some;
        change = refl;
        whole = h.0.text.utf8;
        rest = good-from xs x.style h.1 d;
      })

  pub storable-good : (xs : List Piece) → All (Storable rd) xs → Good none (blocks xs) ≡ true
  storable-good xs h = good-all (blocks xs) (blocks-storable xs h) (blocks-differ xs)

  pub storable-small : (xs : List Piece) → All (Storable rd) xs → length (text_of xs) ≤ 2147483647 → Small xs
  unfolding text_of
  storable-small [] h k = omega arith
  storable-small (x ∷ xs) h k =
      let n = length-append x.bytes (text_of xs) in
      (h.0.words, omega (arith, n, k), storable-small xs h.1 (omega (arith, n, k)))

  no-indents : Flat [] ≡ true
  unfolding Flat
  no-indents = refl

  pub storable-flat : rd ≡ Plain → (xs : List Piece) → All (Storable rd) xs → Flat xs ≡ true
  storable-flat e [] h = no-indents
  storable-flat e (x ∷ xs) h = one-flat x xs (h.0.bare e) (storable-flat e xs h.1)
