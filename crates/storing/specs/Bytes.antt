-- 01, Stored form: "per block the eleven style words, text length, text". What a block is as bytes, and a list of them.
-- Assumes nothing: these are definitions.
use Rattle.std.specs.Prelude.{ℕ, List, [], ◌∷◌, ◌++◌, length}
use Rattle.sevens.specs.Sevens.{written}
use Rattle.fields.specs.Fields.{style_numbers}
use Rattle.blocks.specs.Pages.{Piece}

-- numbers one after the other
unfoldable pub numbers_bytes : List ℕ → List ℕ
numbers_bytes [] = []
numbers_bytes (n ∷ ns) = written n ++ numbers_bytes ns

-- the numbers of a block
abbrev pub numbers_in : Piece → List ℕ
numbers_in x = style_numbers x.style ++ (length x.bytes ∷ [])

-- and its text
unfoldable pub block_bytes : Piece → List ℕ
block_bytes x = numbers_bytes (numbers_in x) ++ x.bytes

-- "The list: block count; per block .."
unfoldable pub blocks_bytes : List Piece → List ℕ
blocks_bytes [] = []
blocks_bytes (x ∷ xs) = block_bytes x ++ blocks_bytes xs

unfoldable pub list_bytes : List Piece → List ℕ
list_bytes xs = written (length xs) ++ blocks_bytes xs
