-- Words that start with a record, and what the record alone says of them.
-- Assumes nothing.
use mathlib.Core.Path.{◌≡◌, refl}
use mathlib.Core.List.{List, ◌++◌}
use Prim.Native.Nat.{ℕ, suc, ◌/◌, ◌<◌}
use native.Mathlib.Omega.{arith}
use lib.ListN.{length, get_or, drop, length-append}
use lib.Seq.{drop_at}
use Rattle.std.proofs.lemmas.List.{get_or_append_left}
use Rattle.styles.specs.Styles.{style_at}
use Rattle.blocks.specs.Pages.{Last, block_words}
use Rattle.storing.specs.Fitting.{length_at, fits}

module _ (w ws : List ℕ) (n : length w ≡ block_words) where
  word : (i : ℕ) → i < block_words → get_or (w ++ ws) i 0 ≡ get_or w i 0
  word i h = get_or_append_left w ws 0 i (omega arith)

  pub front-style : style_at (w ++ ws) ≡ style_at w
  unfolding style_at
  front-style =
      rw (
        word 0 (omega arith),
        word 1 (omega arith),
        word 2 (omega arith),
        word 3 (omega arith),
        word 4 (omega arith),
        word 5 (omega arith),
        word 6 (omega arith),
        word 7 (omega arith),
        word 8 (omega arith),
        word 9 (omega arith),
        word 10 (omega arith),
        word 11 (omega arith),
        word 12 (omega arith),
        word 13 (omega arith),
      ) refl

  pub front-length : length_at (w ++ ws) ≡ length_at w
  front-length = word 15 (omega arith)

  pub front-fits : (l : Last) (p : ℕ) (tx : List ℕ) → fits l p (w ++ ws) tx ≡ fits l p w tx
  unfolding fits
  front-fits l p tx = rw (front-style, word 14 (omega arith), word 15 (omega arith)) refl

  pub front-rest : drop block_words (w ++ ws) ≡ ws
  front-rest = drop_at w ws block_words n

  pub one_fewer : length (w ++ ws) / block_words ≡ suc (length ws / block_words)
  one_fewer = omega (arith, length-append w ws)
