-- 01, Header walk, "Fonts", and 02, A4: the font table that a group's tokens give, or a refusal. Assumes nothing: these are definitions.
use Rattle.std.specs.Prelude.{ℕ, ◌%◌, cond, List, [], ◌∷◌, take, ◌==◌}
use Rattle.answers.specs.declared.Why.TheVariants.{FontNumber}
use Rattle.answers.specs.Answers.{Found, found, refused, Fate, becomes, fails, found_at}
use Rattle.classes.specs.declared.Class.TheVariants.{Semicolon}
use Rattle.classes.specs.Bytes.{in_class, body}
use Rattle.tokens.specs.Tokens.{Shown, Token, slice_of, shown_in}
use Rattle.fonts.specs.Rows.{Font, Fonts, no_fonts, stored, table_of}
use Rattle.tokens.specs.WordNumbers as words
use Rattle.std.specs.Prelude.{Option, Some, None}

-- "Text replaces the name, ending `;`s dropped.", "place 0 if empty"
unfoldable pub named : Font → ℕ → List ℕ → Font
named f p bs =
    let n = body (in_class Semicolon) bs in
    record { key = f.key; place = cond (n == 0) 0 p; name = take n bs }

-- "then the key is the number modulo 65,536": a negative number stands as itself and 2^32, which leaves the same remainder
abbrev pub keyed : Font → ℕ → Font
keyed f v = record { key = v % 65536; place = f.place; name = f.name }

-- "At `\f` store .., then the key is the number"; 11: "`\f` without a number". The store comes first, as in the crate, and so
-- does its refusal
abbrev pub rekeyed : Option ℕ → Fate Fonts → Fate Fonts
rekeyed num (fails why) = fails why
rekeyed None (becomes s) = fails FontNumber
rekeyed (Some v) (becomes s) = becomes (record { table = s.table; font = keyed s.font v })

-- a word: `f` is number 9
unfoldable pub font_word : ℕ → ℕ → Option ℕ → Fonts → Fate Fonts
font_word limit w num s = cond (w == words.font_number) (rekeyed num (stored limit s)) (becomes s)

-- what a token of the group shows; "Each closing bracket stores. Nothing is reset between fonts."
unfoldable pub font_token : ℕ → Shown → Fonts → Fate Fonts
font_token limit (Shown.word w num) s = font_word limit w num s
font_token limit (Shown.text p bs) s = becomes (record { table = s.table; font = named s.font p bs })
font_token limit Shown.closing s = stored limit s
font_token limit Shown.opening s = becomes s
font_token limit Shown.line_break s = becomes s
font_token limit Shown.ignorable s = becomes s
font_token limit (Shown.unknown p bs num) s = becomes s
font_token limit (Shown.symbol b num) s = becomes s

-- a token; a refusal has the place of its slice
abbrev pub next_font : ℕ → Found Fonts → Token → Found Fonts
next_font limit (refused r) t = refused r
next_font limit (found s) t = found_at (slice_of t) (font_token limit (shown_in t) s)

-- token by token
unfoldable pub fonts_from : ℕ → Found Fonts → List Token → Found Fonts
fonts_from limit acc [] = acc
fonts_from limit acc (t ∷ ts) = fonts_from limit (next_font limit acc t) ts

-- the table of a group's tokens
unfoldable pub fonts : ℕ → List Token → Found (List Font)
fonts limit ts = table_of (fonts_from limit (found no_fonts) ts)
