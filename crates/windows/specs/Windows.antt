-- 02, A1: "Hex escapes go through the published Windows-1252 table; its unassigned bytes give U+FFFD." Assumes nothing: these are definitions.
use Rattle.std.specs.Prelude.{ℕ, ◌-◌, List, [], ◌∷◌, cond, get_or, ltb}

-- the characters of bytes 128 to 159, eight to a line; 65533 where the table has none (81 8D 8F 90 9D)
unfoldable pub own : List ℕ
own =
    8364 ∷ 65533 ∷ 8218 ∷ 402 ∷ 8222 ∷ 8230 ∷ 8224 ∷ 8225 ∷
    710 ∷ 8240 ∷ 352 ∷ 8249 ∷ 338 ∷ 65533 ∷ 381 ∷ 65533 ∷
    65533 ∷ 8216 ∷ 8217 ∷ 8220 ∷ 8221 ∷ 8226 ∷ 8211 ∷ 8212 ∷
    732 ∷ 8482 ∷ 353 ∷ 8250 ∷ 339 ∷ 65533 ∷ 382 ∷ 376 ∷ []

-- a byte's character: "`\'0a` and `\'0d` are characters". What is no byte has none
unfoldable pub windows1252 : ℕ → ℕ
windows1252 b = cond (ltb b 128) b (cond (ltb 255 b) 65533 (cond (ltb 159 b) b (get_or own (b - 128) 0)))
