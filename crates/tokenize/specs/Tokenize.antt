-- 01, Cutting: the tokens of one slice, rule by rule and in 01's order. A slice stands at place p of the source. Where a
-- rule speaks of what follows a backslash, p is the backslash's place. Assumes nothing: these are definitions.
use Rattle.std.specs.Prelude.{ℕ, ◌+◌, ◌-◌, List, [], ◌∷◌, Bool, cond, ◌||◌, length, get_or, take, drop, ltb, eqb}
use Rattle.answers.specs.declared.Why.TheVariants.{HexShort, HexBad}
use Rattle.classes.specs.declared.Class.TheVariants.{White, WordEnd, InWord, Space, Numeral}
use Rattle.classes.specs.Bytes.{is_letter, in_class, lead, body}
use Rattle.readings.specs.declared.Reading.{Reading}
use Rattle.readings.specs.declared.Reading.TheVariants.{Plain, Paragraphs, Standard}
use Rattle.numbers.specs.Numbers.{hex_pair, decimal}
use Rattle.rooms.specs.Streams.{Stream, end, stop, ◌▸◌, and_then}
use Rattle.tokens.specs.Tokens.{Shown}
use Rattle.tokens.specs.WordNumbers as words
use Rattle.controls.specs.Controls.{shown_word, numbered}
pub use Rattle.controls.specs.Controls.{is_escape}
use Rattle.answers.specs.declared.Why.{Why}
use Rattle.std.specs.Prelude.{Option, Some, None}

-- "`{`, `}` or a raw line feed"
abbrev pub is_mark : ℕ → Bool
is_mark b = (eqb b 123 || eqb b 125) || eqb b 10

-- "an opening, a closing, or no token"
unfoldable pub mark : ℕ → Stream Why Shown
mark b = cond (eqb b 123) (Shown.opening ▸ end) (cond (eqb b 125) (Shown.closing ▸ end) end)

-- "Such a plain tail is one text token, spaces kept, unless it is all white space: then none."
unfoldable pub plain : ℕ → List ℕ → Stream Why Shown
plain p s = cond (eqb (lead (in_class White) s) (length s)) end (Shown.text p s ▸ end)

-- "`\'`: word `u` with the byte's value; the rest as a plain tail"; 3 and 4 of the answer numbers
unfoldable pub hex_value : Option ℕ → Stream Why Shown → Stream Why Shown
hex_value (Some v) rest = Shown.word words.unicode (Some v) ▸ rest
hex_value None rest = stop HexBad

unfoldable pub hex_escape : ℕ → List ℕ → Stream Why Shown
hex_escape p [] = stop HexShort
hex_escape p (a ∷ []) = stop HexShort
hex_escape p (a ∷ b ∷ s) = hex_value (hex_pair a b) (plain (p + 4) s)

-- "`\` line feed: a line break token; the rest likewise."
unfoldable pub line_break_and : ℕ → List ℕ → Stream Why Shown
line_break_and p s = Shown.line_break ▸ plain (p + 2) s

-- "Digits and minus signs at its end are the number."
unfoldable pub named : ℕ → List ℕ → Stream Why Shown
named p w =
    let k = body (in_class Numeral) w in
    cond (eqb k (length w)) (shown_word p w None ▸ end) (numbered p (take k w) (decimal (drop k w)))

-- "One `;` ending the word is dropped.": the length that is left
unfoldable pub bare_length : List ℕ → ℕ
bare_length w = cond (eqb (get_or w (length w - 1) 0) 59) (length w - 1) (length w)

-- "All after it is one text token if not empty, even if all spaces": if all of it is white space that ends a word, and
-- else as a plain tail (docs/DIFFERENCES.md, 2)
unfoldable pub word_tail : ℕ → List ℕ → Stream Why Shown
word_tail p [] = end
word_tail p (b ∷ s) =
    cond (ltb (lead (in_class WordEnd) (b ∷ s)) (length (b ∷ s))) (plain p (b ∷ s)) (Shown.text p (b ∷ s) ▸ end)

-- "`\` and a to z: the word runs to the first white space, which vanishes." (docs/DIFFERENCES.md, 1)
unfoldable pub word : ℕ → List ℕ → Stream Why Shown
word p s =
    let k = lead (in_class InWord) s in
    and_then (named p (take (bare_length (take k s)) s)) (word_tail (p + 1 + (k + 1)) (drop (k + 1) s))

-- "`\` and spaces only: a text token of the whole slice. `\` and any other byte: nothing, tail lost."
unfoldable pub other : ℕ → List ℕ → Stream Why Shown
other p s = cond (ltb (lead (in_class Space) s) (length s)) end (Shown.text p (92 ∷ s) ▸ end)

-- 02, A2: "In paragraph and standard reading a backslash and carriage return become a line break token, a line feed directly after belongs to it, and
-- the tail is kept. Plain reading stays equal to the crate." s stands behind the carriage return. (Slices of standard reading are cut by
-- the crate `standard`: here its case makes the rule total.)
abbrev pub behind_feed : ℕ → List ℕ → Stream Why Shown
behind_feed p [] = plain p []
behind_feed p (b ∷ s) = cond (eqb b 10) (plain (p + 1) s) (plain p (b ∷ s))

abbrev pub returned : ℕ → List ℕ → Stream Why Shown
returned p [] = other p []
returned p (b ∷ s) = cond (eqb b 13) (Shown.line_break ▸ behind_feed (p + 2) s) (other p (b ∷ s))

unfoldable pub other_by : Reading → ℕ → List ℕ → Stream Why Shown
other_by Plain p s = other p s
other_by Paragraphs p s = returned p s
other_by Standard p s = returned p s

-- a slice that begins with a backslash, by the byte behind that: a word, "one text token, the slice without its first
-- byte", `\'`, `\` line feed, "`\*`: an ignorable mark; its tail is lost.", and the rest, by the reading
unfoldable pub escaped : Reading → ℕ → List ℕ → Stream Why Shown
escaped rd p [] = other p []
escaped rd p (b ∷ s) =
    cond (is_letter b) (word p (b ∷ s))
    (cond (is_escape b) (Shown.text (p + 1) (b ∷ s) ▸ end)
    (cond (eqb b 39) (hex_escape p s)
    (cond (eqb b 10) (line_break_and p s)
    (cond (eqb b 42) (Shown.ignorable ▸ end)
    (other_by rd p (b ∷ s))))))

-- a slice by its first byte: "what follows that byte is cut again by these rules."; "Other: a plain tail."
unfoldable pub tokens : Reading → ℕ → List ℕ → Stream Why Shown
tokens rd p [] = end
tokens rd p (b ∷ s) =
    let again = tokens rd (p + 1) s in
    cond (is_mark b) (and_then (mark b) again)
    (cond (eqb b 92) (escaped rd p s)
    (plain p (b ∷ s)))
