-- How the code passes over ASCII. Assumes nothing: these are definitions.
use Rattle.std.specs.Prelude.{ℕ, ◌≤◌, ◌≡◌, List, length, drop}
use Rattle.classes.specs.Bytes.{is_high}
use Rattle.classes.specs.Eights.{marked}
pub use Rattle.classes.specs.Eights.{packed}
use Rattle.wellformed.specs.WellFormed.{is_utf8}

-- the high bit of each, in its place
abbrev pub highs : List ℕ → ℕ
highs s = packed (marked is_high s)

-- what is passed over is UTF-8 by itself: from `from` on the bytes are UTF-8 if they are from `at` on
pub record Passed (s : List ℕ) (from at : ℕ) : Type 0 where
  pub low : from ≤ at
  pub high : at ≤ length s
  pub same : is_utf8 (drop from s) ≡ is_utf8 (drop at s)
