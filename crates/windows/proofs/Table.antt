-- The table as a whole.
--     table-published    every byte's character is the published one: 0 to 127 and 160 to 255 are those of ISO 8859-1, and of the 32 between them
--                        each is named with its byte
-- Assumes nothing.
use mathlib.Core.Path.{◌≡◌, refl}
use mathlib.Core.List.{List, [], ◌∷◌, ◌++◌}
use mathlib.Core.Bool.{Bool, true, ◌&&◌}
use Prim.Native.Nat.{ℕ, zero, suc}
use lib.Dec.{eqb}
use Rattle.windows.specs.Windows.{own, windows1252}

-- bytes from a on, n of them, each with its own number
unfoldable pub same : ℕ → ℕ → List (ℕ × ℕ)
same a zero = []
same a (suc n) = (a, a) ∷ same (suc a) n

-- whether each byte has that character
unfoldable pub agree : List (ℕ × ℕ) → Bool
agree [] = true
agree (x ∷ xs) = eqb (windows1252 x.0) x.1 && agree xs

pub table-published : agree (same 0 128 ++ (
    (128, 8364) ∷ (129, 65533) ∷ (130, 8218) ∷ (131, 402) ∷
    (132, 8222) ∷ (133, 8230) ∷ (134, 8224) ∷ (135, 8225) ∷
    (136, 710) ∷ (137, 8240) ∷ (138, 352) ∷ (139, 8249) ∷
    (140, 338) ∷ (141, 65533) ∷ (142, 381) ∷ (143, 65533) ∷
    (144, 65533) ∷ (145, 8216) ∷ (146, 8217) ∷ (147, 8220) ∷
    (148, 8221) ∷ (149, 8226) ∷ (150, 8211) ∷ (151, 8212) ∷
    (152, 732) ∷ (153, 8482) ∷ (154, 353) ∷ (155, 8250) ∷
    (156, 339) ∷ (157, 65533) ∷ (158, 382) ∷ (159, 376) ∷
    same 160 96)) ≡ true
unfolding same agree windows1252 own
table-published = refl
