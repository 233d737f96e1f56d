-- 01, Header walk, and 02, A4: what the tokens of a letter are to the reader: a kept token, a hidden group, a font table, a colour table.
-- Assumes nothing: these are definitions.
use Rattle.std.specs.Prelude.{ℕ, zero, suc, ◌-◌, List, [], ◌∷◌, ◌++◌, Bool, true, false, cond, take, eqb}
use Rattle.tokens.specs.Tokens.{Shown, Token, slice_of, shown_in, shown_by}
use Rattle.walk.specs.declared.Aim.{Aim}
use Rattle.walk.specs.declared.Aim.TheVariants.{Nothing, Hide, Fonts, Colours}
use Rattle.tokens.specs.WordNumbers as words
use Rattle.std.specs.Prelude.{Option, Some, None}

-- "`\*`, or `stylesheet` without a number: pass over .. `fonttbl` or `colortbl` without a number: the same, and read it. Else
-- go one token on."; late: line breaks stand before the word
abbrev pub word_aim : ℕ → Option ℕ → Bool → Aim
word_aim w None late = cond (eqb w words.style_sheet) Hide (cond (eqb w words.font_table) (Fonts late) (cond (eqb w words.colour_table) (Colours late) Nothing))
word_aim w (Some v) late = Nothing

-- what a token behind a bracket makes of the group; a line break leaves it to those behind
abbrev pub aim_at : Bool → Shown → Aim → Aim
aim_at late Shown.line_break later = later
aim_at late Shown.ignorable later = Hide
aim_at late (Shown.word w num) later = word_aim w num late
aim_at late (Shown.text p bs) later = Nothing
aim_at late Shown.opening later = Nothing
aim_at late Shown.closing later = Nothing
aim_at late (Shown.unknown p bs num) later = Nothing
aim_at late (Shown.symbol b num) later = Nothing

abbrev pub is_break : Shown → Bool
is_break Shown.line_break = true
is_break Shown.ignorable = false
is_break (Shown.word w num) = false
is_break (Shown.text p bs) = false
is_break Shown.opening = false
is_break Shown.closing = false
is_break (Shown.unknown p bs num) = false
is_break (Shown.symbol b num) = false

-- "At an opening bracket look at the first token after the bracket that is not a line break."
unfoldable pub aim_from : Bool → List Shown → Aim
aim_from late [] = Nothing
aim_from late (t ∷ ts) = aim_at late t (aim_from true ts)

abbrev pub aim : List Shown → Aim
aim ts = aim_from false ts

-- how many groups are open behind a token, where d were before it
abbrev pub level : Shown → ℕ → ℕ
level Shown.opening d = suc d
level Shown.closing d = d - 1
level Shown.line_break d = d
level Shown.ignorable d = d
level (Shown.text p bs) d = d
level (Shown.word w num) d = d
level (Shown.unknown p bs num) d = d
level (Shown.symbol b num) d = d

-- "to the bracket that matches, or to the end": how many tokens that is, where d groups are open
unfoldable pub extent : ℕ → List Shown → ℕ
extent d [] = 0
extent d (t ∷ ts) = cond (eqb (level t d) 0) 1 (suc (extent (level t d) ts))

-- 02, A4, "for 10, the table word": the place of the slice of the first token that is no line break
unfoldable pub table_word : List Token → ℕ
table_word [] = 0
table_word (t ∷ ts) =
    let later = table_word ts in
    cond (is_break (shown_in t)) later (slice_of t)

-- what the walk makes of the tokens. A table is read from the tokens behind its bracket; late: a line break is the first
pub data Step : Type 0 where
  kept : Token → Step
  hidden : Step
  font_table : Bool → List Token → Step
  colour_table : Bool → List Token → Step

-- the tokens of a group, behind its bracket
abbrev pub group : List Token → List Token
group ts = take (extent 1 (shown_by ts)) ts

-- an opening bracket, by what it begins
abbrev pub entered : Aim → Token → List Token → Step
entered Nothing t ts = kept t
entered Hide t ts = hidden
entered (Fonts late) t ts = font_table late (group ts)
entered (Colours late) t ts = colour_table late (group ts)

abbrev pub entered_length : Aim → List Shown → ℕ
entered_length Nothing ts = 0
entered_length Hide ts = extent 1 ts
entered_length (Fonts late) ts = extent 1 ts
entered_length (Colours late) ts = extent 1 ts

-- a token of the walk, and how many tokens behind it the walk passes over
abbrev pub step_by : Shown → Token → List Token → Step
step_by Shown.opening t ts = entered (aim (shown_by ts)) t ts
step_by Shown.closing t ts = kept t
step_by Shown.line_break t ts = kept t
step_by Shown.ignorable t ts = kept t
step_by (Shown.text p bs) t ts = kept t
step_by (Shown.word w num) t ts = kept t
step_by (Shown.unknown p bs num) t ts = kept t
step_by (Shown.symbol b num) t ts = kept t

abbrev pub step_of : Token → List Token → Step
step_of t ts = step_by (shown_in t) t ts

abbrev pub passed_by : Shown → List Shown → ℕ
passed_by Shown.opening ts = entered_length (aim ts) ts
passed_by Shown.closing ts = 0
passed_by Shown.line_break ts = 0
passed_by Shown.ignorable ts = 0
passed_by (Shown.text p bs) ts = 0
passed_by (Shown.word w num) ts = 0
passed_by (Shown.unknown p bs num) ts = 0
passed_by (Shown.symbol b num) ts = 0

-- the same, where w tokens are still to be passed over
abbrev pub steps_at : ℕ → Token → List Token → List Step
steps_at zero t ts = step_of t ts ∷ []
steps_at (suc w) t ts = []

abbrev pub left_at : ℕ → Shown → List Shown → ℕ
left_at zero t ts = passed_by t ts
left_at (suc w) t ts = w

-- "From the first token while a next one exists."; the first w tokens are passed over
unfoldable pub walk_from : ℕ → List Token → List Step
walk_from w [] = []
walk_from w (t ∷ ts) = steps_at w t ts ++ walk_from (left_at w (shown_in t) (shown_by ts)) ts

abbrev pub walk : List Token → List Step
walk ts = walk_from 0 ts
