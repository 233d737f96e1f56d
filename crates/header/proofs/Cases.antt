-- Telling token lists, as theorems on the definitions: each is computed. A list stands as RTF would write it. Assumes nothing.
use mathlib.Core.Path.{◌≡◌, refl}
use mathlib.Core.List.{List, [], ◌∷◌}
use Prim.Native.Nat.{ℕ, ◌+◌}
use Rattle.answers.specs.declared.Why.TheVariants.{TableLineBreak, FontRoom}
use Rattle.answers.specs.Answers.{refusal, refusal_at, Found, found, refused}
use Rattle.classes.specs.Bytes.{body}
use Rattle.classes.specs.Texts.{bytes_of}
use Rattle.tokens.specs.Tokens.{Shown, Token, token, shown_by}
use Rattle.fonts.specs.Rows.{Font, has_key, inserted, stored}
use Rattle.fonts.specs.Fonts.{named, font_word, font_token, fonts_from, fonts}
use Rattle.colours.specs.Colours.{colours, colours_from, colour_token, colour_word_of}
use Rattle.walk.specs.Walk.{aim_from, extent, table_word, walk_from, walk}
use Rattle.header.specs.Entering.{Tables}
use Rattle.header.specs.Header.{no_tables, tables_from, tables}
use Rattle.std.specs.Prelude.{Some, None}

-- a token's slice stands at its number in the list
lined : ℕ → List Shown → List Token
lined p [] = []
lined p (x ∷ xs) = token p 1 x ∷ lined (p + 1) xs

abbrev begin : Shown
begin = Shown.opening

abbrev end : Shown
end = Shown.closing

abbrev break : Shown
break = Shown.line_break

abbrev star : Shown
star = Shown.ignorable

abbrev stylesheet : Shown
stylesheet = Shown.word 7 None

abbrev fonttbl : Shown
fonttbl = Shown.word 4 None

abbrev colortbl : Shown
colortbl = Shown.word 5 None

abbrev f : ℕ → Shown
f v = Shown.word 9 (Some v)

abbrev blue : ℕ → Shown
blue v = Shown.word 39 (Some v)

abbrev text : Shown
text = Shown.text 7 (bytes_of "A;")

abbrev font : ℕ → ℕ → List ℕ → Font
font k p name = record { key = k; place = p; name = name }

-- what was found
abbrev have : List Font → List ℕ → Found Tables
have fs cs = found (record { fonts = fs; colours = cs })

-- `{A;\blue3}`: words of a table outside one say nothing
none : tables 256 256 (walk (lined 0 (begin ∷ text ∷ blue 3 ∷ end ∷ []))) ≡ found no_tables
unfolding lined shown_by tables_from walk_from aim_from
none = refl

-- `{{\fonttbl\f1A;}{\colortbl\blue3}}`
both : tables 256 256 (walk (lined 0 (begin ∷ begin ∷ fonttbl ∷ f 1 ∷ text ∷ end ∷ begin ∷ colortbl ∷ blue 3 ∷ end ∷ end ∷ [])))
    ≡ have (font 0 0 [] ∷ font 1 7 (bytes_of "A") ∷ []) (3 ∷ [])
unfolding lined shown_by tables_from walk_from aim_from extent fonts fonts_from font_token font_word stored inserted has_key named body colours colours_from colour_token colour_word_of
both = refl

-- `{\fonttbl{\f1}A`: a table may end with the letter; what is nested in it is a part of it
unclosed : tables 256 256 (walk (lined 0 (begin ∷ fonttbl ∷ begin ∷ f 1 ∷ end ∷ text ∷ []))) ≡ have (font 0 0 [] ∷ font 1 0 [] ∷ []) []
unfolding lined shown_by tables_from walk_from aim_from extent fonts fonts_from font_token font_word stored inserted has_key named body
unclosed = refl

-- `{\fonttbl\f1}{\fonttblA;}`: the later table alone, and `{\colortbl\blue3\blue4}{\colortbl}`
later-fonts : tables 256 256 (walk (lined 0 (begin ∷ fonttbl ∷ f 1 ∷ end ∷ begin ∷ fonttbl ∷ text ∷ end ∷ []))) ≡ have (font 0 7 (bytes_of "A") ∷ []) []
unfolding lined shown_by tables_from walk_from aim_from extent fonts fonts_from font_token font_word stored inserted has_key named body
later-fonts = refl

later-colours : tables 256 256 (walk (lined 0 (begin ∷ colortbl ∷ blue 3 ∷ blue 4 ∷ end ∷ begin ∷ colortbl ∷ end ∷ []))) ≡ found no_tables
unfolding lined shown_by tables_from walk_from aim_from extent colours colours_from colour_token colour_word_of
later-colours = refl

-- `{\<0A>\fonttbl}`, `{\<0A>\<0A>\colortbl}`: 10, at the table's word; `{\<0A>\fonttbl1}` is no table
late-fonts : tables 256 256 (walk (lined 0 (begin ∷ break ∷ fonttbl ∷ end ∷ []))) ≡ refused (refusal_at TableLineBreak 2)
unfolding lined shown_by tables_from walk_from aim_from extent table_word
late-fonts = refl

late-colours : tables 256 256 (walk (lined 0 (begin ∷ break ∷ break ∷ colortbl ∷ end ∷ []))) ≡ refused (refusal_at TableLineBreak 3)
unfolding lined shown_by tables_from walk_from aim_from extent table_word
late-colours = refl

late-numbered : tables 256 256 (walk (lined 0 (begin ∷ break ∷ Shown.word 4 (Some 1) ∷ end ∷ []))) ≡ found no_tables
unfolding lined shown_by tables_from walk_from aim_from
late-numbered = refl

-- `{\*{\fonttbl}}{\<0A>\stylesheet{\colortbl\blue3}}`: a table in a hidden group is not read; behind the group it goes on
hidden-tables : tables 256 256 (walk (lined 0 (begin ∷ star ∷ begin ∷ fonttbl ∷ end ∷ end ∷ begin ∷ break ∷ stylesheet ∷ begin ∷ colortbl ∷ blue 3 ∷ end ∷ end ∷ [])))
    ≡ found no_tables
unfolding lined shown_by tables_from walk_from aim_from extent
hidden-tables = refl

-- `{\stylesheet1{\colortbl\blue3}}{\*}{\fonttbl}`
shown-tables : tables 256 256 (walk (lined 0 (begin ∷ Shown.word 7 (Some 1) ∷ begin ∷ colortbl ∷ blue 3 ∷ end ∷ end ∷ begin ∷ star ∷ end ∷ begin ∷ fonttbl ∷ end ∷ [])))
    ≡ have (font 0 0 [] ∷ []) (3 ∷ [])
unfolding lined shown_by tables_from walk_from aim_from extent fonts fonts_from font_token font_word stored inserted has_key colours colours_from colour_token colour_word_of
shown-tables = refl

-- `{\fonttbl\f1}{\fonttbl}` and a room of one font: 17, although the later table alone would fit; a refusal comes before 10 of
-- a later group
earlier-full : tables 1 256 (walk (lined 0 (begin ∷ fonttbl ∷ f 1 ∷ end ∷ begin ∷ fonttbl ∷ end ∷ []))) ≡ refused (refusal FontRoom)
unfolding lined shown_by tables_from walk_from aim_from extent fonts fonts_from font_token font_word stored inserted has_key
earlier-full = refl

later-fits : tables 1 256 (walk (lined 0 (begin ∷ fonttbl ∷ end ∷ []))) ≡ have (font 0 0 [] ∷ []) []
unfolding lined shown_by tables_from walk_from aim_from extent fonts fonts_from font_token font_word stored inserted has_key
later-fits = refl

first-stays : tables 1 256 (walk (lined 0 (begin ∷ fonttbl ∷ f 1 ∷ end ∷ begin ∷ break ∷ fonttbl ∷ end ∷ []))) ≡ refused (refusal FontRoom)
unfolding lined shown_by tables_from walk_from aim_from extent fonts fonts_from font_token font_word stored inserted has_key
first-stays = refl
