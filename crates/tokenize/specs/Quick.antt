-- A word that is letters and then digits alone. Assumes nothing: these are definitions.
use Rattle.std.specs.Prelude.{ℕ, List, Bool, ◌||◌, length, get_or, eqb}
use Rattle.classes.specs.Bytes.{ends_word}

-- a word ends at k: there the slice ends, or white space stands
abbrev pub ends_at : List ℕ → ℕ → Bool
ends_at s k = eqb k (length s) || ends_word (get_or s k 0)
