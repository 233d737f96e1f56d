-- What a character owes behind its first byte, and its length. Assumes nothing: these are definitions.
use Rattle.std.specs.Prelude.{ℕ, zero, suc, List, [], ◌∷◌, Bool, true, false, cond, ◌&&◌, length}
use Rattle.wellformed.specs.declared.Owed.{Owed}
use Rattle.wellformed.specs.WellFormed.{Range, ◌to◌, within, is_first, behind}

-- the ranges that a count and the range of the next byte stand for: behind the next byte, each lies in UTF8-tail
unfoldable pub owed : ℕ → ℕ → ℕ → List Range
owed zero low high = []
owed (suc n) low high = (low to high) ∷ owed n 128 191

abbrev pub ranges : Owed → List Range
ranges o = owed o.count o.low o.high

-- whether bytes start with one in each range
unfoldable pub pays : List Range → List ℕ → Bool
pays [] s = true
pays (r ∷ rs) [] = false
pays (r ∷ rs) (b ∷ s) = within r b && pays rs s

-- how many bytes the character has that bytes start with; none: 0
unfoldable pub char_length : List ℕ → ℕ
char_length [] = zero
char_length (b ∷ s) = cond (is_first b && pays (behind b) s) (suc (length (behind b))) zero
