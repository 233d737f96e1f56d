-- Bytes as one number, and the marks in it of bytes that pass a test. Assumes nothing: these are definitions.
use Rattle.std.specs.Prelude.{ℕ, zero, ◌+◌, ◌*◌, List, [], ◌∷◌, Bool, cond, not}

-- the first byte lowest
unfoldable pub packed : List ℕ → ℕ
packed [] = zero
packed (b ∷ s) = packed s * 256 + b

-- a marked byte's mark, where f tells which bytes are marked
abbrev pub mark_of : (ℕ → Bool) → ℕ → ℕ
mark_of f b = cond (f b) 128 zero

unfoldable pub marked : (ℕ → Bool) → List ℕ → List ℕ
marked f [] = []
marked f (b ∷ s) = mark_of f b ∷ marked f s

abbrev pub outside : (ℕ → Bool) → ℕ → Bool
outside f b = not (f b)
