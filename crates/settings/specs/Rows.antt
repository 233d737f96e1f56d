-- A state as a row of words, in an array of them. Assumes nothing: these are definitions.
use Rattle.std.specs.Prelude.{ℕ, List, [], ◌∷◌, get_or, set}
use Rattle.settings.specs.Fields.{Setting, put_word}

-- settings one after the other in a row
unfoldable pub settled : List Setting → List ℕ → List ℕ
settled [] r = r
settled (s ∷ ss) r = settled ss (put_word s r)

-- and in the row at place d
unfoldable pub settle_at : List Setting → List (List ℕ) → ℕ → List (List ℕ)
settle_at ss states d = set states d (settled ss (get_or states d []))
