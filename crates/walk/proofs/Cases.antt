-- A telling letter, computed: `{`, `\` and a line feed, `\fonttbl`, `}`. Its table is late, and what 10 says is the place of the table's word, 3: not
-- the bracket's, 0, nor the line break's, 1. Assumes nothing.
use mathlib.Core.Path.{◌≡◌, refl}
use mathlib.Core.List.{List, [], ◌∷◌}
use mathlib.Core.Bool.{true}
use Rattle.tokens.specs.Tokens.{Shown, Token, token, shown_by}
use Rattle.tokens.specs.WordNumbers as words
use Rattle.walk.specs.Walk.{font_table, aim_from, extent, table_word, walk_from, walk}
use Rattle.std.specs.Prelude.{None}

-- the tokens behind the bracket
abbrev behind : List Token
behind = token 1 2 Shown.line_break ∷ token 3 8 (Shown.word words.font_table None) ∷ token 11 1 Shown.closing ∷ []

late-table : walk (token 0 1 Shown.opening ∷ behind) ≡ font_table true behind ∷ []
unfolding walk_from aim_from extent shown_by
late-table = refl

late-table-word : table_word behind ≡ 3
unfolding table_word
late-table-word = refl
