-- 01, Stored form: the record of a block, and whether it may stand where it does. Assumes nothing: these are definitions.
use Rattle.std.specs.Prelude.{ℕ, ◌-◌, List, Bool, ◌&&◌, length, take, drop, get_or, leb, ltb, eqb}
use Rattle.wellformed.specs.WellFormed.{is_utf8}
use Rattle.styles.specs.Styles.{style_at}
use Rattle.fields.specs.Fields.{in_range}
use Rattle.blocks.specs.Pages.{text_place, text_length, Last, starts}

-- place and length of the text, as a block's record says them
abbrev pub place_at : List ℕ → ℕ
place_at ws = get_or ws text_place 0

abbrev pub length_at : List ℕ → ℕ
length_at ws = get_or ws text_length 0

-- "Block, .. signed 32-bit words": place and length are not negative
abbrev pub signs : List ℕ → Bool
signs ws = leb (place_at ws) 2147483647 && leb (length_at ws) 2147483647

-- whether a record says what it may behind a block l, where p bytes of the text came before
abbrev pub says : Last → ℕ → List ℕ → Bool
says l p ws =
    in_range (style_at ws) && (signs ws && (ltb 0 (length_at ws) && (starts l (style_at ws) && eqb (place_at ws) p)))

-- whether words start with such a record, and its text is there
unfoldable pub fits : Last → ℕ → List ℕ → List ℕ → Bool
fits l p ws tx = says l p ws && (leb (length_at ws) (length tx - p) && is_utf8 (take (length_at ws) (drop p tx)))
