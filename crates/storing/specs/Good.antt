-- 01, Stored form: "Text is not empty, whole UTF-8, and the style differs from the block before." Blocks that a list can hold.
-- Assumes nothing: these are definitions.
use Rattle.std.specs.Prelude.{List, [], ◌∷◌, Bool, true, false, cond, ◌&&◌, length, ltb}
use Rattle.wellformed.specs.WellFormed.{is_utf8}
use Rattle.styles.specs.Styles.{flush}
use Rattle.fields.specs.Fields.{in_range}
use Rattle.blocks.specs.Pages.{Piece, Last, last, starts}

-- whether blocks may stand one after the other, behind a block l
unfoldable pub Good : Last → List Piece → Bool
Good l [] = true
Good l (x ∷ xs) =
    in_range x.style && (ltb 0 (length x.bytes) && (starts l x.style && (is_utf8 x.bytes
    && Good (last x.style) xs)))

-- 02, A5, "a list that has one": whether no block has an indent
unfoldable pub Flat : List Piece → Bool
Flat [] = true
Flat (x ∷ xs) =
    let later = Flat xs in
    cond (flush x.style) later false
