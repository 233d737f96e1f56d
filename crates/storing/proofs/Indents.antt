-- Indents, record by record.
--     indent-here, indent-later, indent-none   the first record has one; it has none; there is no record
-- Assumes nothing.
use mathlib.Core.Path.{◌≡◌}
use mathlib.Core.List.{List, ◌++◌}
use mathlib.Core.Bool.{Bool, true, false}
use Prim.Native.Nat.{ℕ, ◌/◌, ◌<◌}
use native.Mathlib.Omega.{arith}
use lib.ListN.{length}
use Rattle.styles.specs.declared.Style.{Style}
use Rattle.styles.specs.Styles.{style_at, flush}
use Rattle.blocks.specs.Pages.{block_words}
use Rattle.storing.proofs.Fronts.{one_fewer, front-style, front-rest}
use Rattle.storing.specs.Storing.{indented}

module _ (w ws : List ℕ) (n : length w ≡ block_words) {s : Style} {b : Bool} (e : s ≡ style_at w) (f : b ≡ flush s) where
  pub indent-here : b ≡ false → indented (length (w ++ ws) / block_words) (w ++ ws) ≡ true
  unfolding indented
  indent-here t = rw (one_fewer w ws n, front-style w ws n, ← e, ← f, t)

  pub indent-later : b ≡ true → indented (length (w ++ ws) / block_words) (w ++ ws) ≡ indented (length ws / block_words) ws
  unfolding indented
  indent-later t = rw (one_fewer w ws n, front-style w ws n, front-rest w ws n, ← e, ← f, t)

pub indent-none : (ws : List ℕ) → length ws < block_words → indented (length ws / block_words) ws ≡ false
unfolding indented
indent-none ws h = let z : length ws / block_words ≡ 0 = omega arith in rw z
