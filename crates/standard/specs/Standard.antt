-- 02, A1: the tokens of one slice in standard reading, rule by rule. A slice stands at place p of the source. Where a rule speaks of what
-- follows a backslash, p is the backslash's place. Assumes nothing: these are definitions.
use Rattle.std.specs.Prelude.{ℕ, zero, suc, ◌+◌, List, [], ◌∷◌, cond, ◌||◌, take, drop, eqb}
use Rattle.answers.specs.declared.Why.{Why}
use Rattle.answers.specs.declared.Why.TheVariants.{HexShort, HexBad}
use Rattle.classes.specs.declared.Class.TheVariants.{Alpha, Digit}
use Rattle.classes.specs.Bytes.{is_alpha, in_class, lead}
use Rattle.numbers.specs.Numbers.{hex_pair, decimal}
use Rattle.rooms.specs.Streams.{Stream, end, stop, ◌▸◌, and_then}
use Rattle.tokens.specs.Tokens.{Shown}
use Rattle.controls.specs.Controls.{shown_word, numbered}
pub use Rattle.controls.specs.Controls.{is_escape}
use Rattle.std.specs.Prelude.{Option, Some, None}

-- 1 if a byte stands in front, else 0
unfoldable pub leads : ℕ → List ℕ → ℕ
leads b [] = 0
leads b (c ∷ s) = cond (eqb c b) 1 0

-- "Any other run of bytes is text, also if it is all white space"
unfoldable pub tail : ℕ → List ℕ → Stream Why Shown
tail p [] = end
tail p (b ∷ s) = Shown.text p (b ∷ s) ▸ end

-- "then an optional number: one minus sign or none, and digits (a minus sign without a digit is text, a plus sign too)": how many bytes it
-- has, where m of them are its sign
abbrev pub number_from : ℕ → ℕ → ℕ
number_from m zero = 0
number_from m (suc d) = m + suc d

unfoldable pub number_length : List ℕ → ℕ
number_length s =
    let m = leads 45 s in
    number_from m (lead (in_class Digit) (drop m s))

-- a word by its name and the bytes of its number. "Outside 32 bits: 5."; "No `;` is dropped."
unfoldable pub named : ℕ → List ℕ → List ℕ → Stream Why Shown
named p name [] = shown_word p name None ▸ end
named p name (b ∷ s) = numbered p name (decimal (b ∷ s))

-- "`\` and letters (a to z, A to Z): a word; then an optional number ..; then one byte 32 vanishes, and no other byte."
unfoldable pub word : ℕ → List ℕ → Stream Why Shown
word p s =
    let k = lead (in_class Alpha) s in
    let n = number_length (drop k s) in
    let e = k + n + leads 32 (drop (k + n) s) in
    and_then (named p (take k s) (take n (drop k s))) (tail (p + 1 + e) (drop e s))

-- "`\'` and two bytes: as 01 has them (3, 4), and no longer a `u` word."; "Behind a symbol or a hex escape no space vanishes."
unfoldable pub hex_value : Option ℕ → Stream Why Shown → Stream Why Shown
hex_value (Some v) rest = Shown.symbol 39 (Some v) ▸ rest
hex_value None rest = stop HexBad

unfoldable pub hex_escape : ℕ → List ℕ → Stream Why Shown
hex_escape p [] = stop HexShort
hex_escape p (a ∷ []) = stop HexShort
hex_escape p (a ∷ b ∷ s) = hex_value (hex_pair a b) (tail (p + 4) s)

-- "`\` LF, `\` CR, `\` CR LF: a line break; the tail stays, white or not."
unfoldable pub break_length : ℕ → List ℕ → ℕ
break_length b s = cond (eqb b 13) (leads 10 s) 0

unfoldable pub line_break_and : ℕ → ℕ → List ℕ → Stream Why Shown
line_break_and p n s = Shown.line_break ▸ tail (p + 2 + n) (drop n s)

-- the token of a symbol's byte, the mark's among them, and that of a bracket's byte
unfoldable pub symbol_of : ℕ → Shown
symbol_of b = cond (eqb b 42) Shown.ignorable (Shown.symbol b None)

unfoldable pub bracket_of : ℕ → Shown
bracket_of b = cond (eqb b 123) Shown.opening Shown.closing

-- a slice that begins with a backslash, by the byte behind that: a word; "`\{ \} \\`: text, the byte and what follows it up to the next
-- slice."; `\'`; a line break; "`\*`: the mark; its tail stays as text."; "Any other symbol gives nothing, but is a token (it counts one); so is
-- a backslash that ends the source."
unfoldable pub escaped : ℕ → List ℕ → Stream Why Shown
escaped p [] = Shown.symbol 0 None ▸ end
escaped p (b ∷ s) =
    cond (is_alpha b) (word p (b ∷ s))
    (cond (is_escape b) (Shown.text (p + 1) (b ∷ s) ▸ end)
    (cond (eqb b 39) (hex_escape p s)
    (cond (eqb b 10 || eqb b 13) (line_break_and p (break_length b s) s)
    (cond (eqb b 42) (Shown.ignorable ▸ tail (p + 2) s)
    (Shown.symbol b None ▸ tail (p + 2) s)))))

-- a slice by its first byte: "`{`, `}`: brackets. Raw CR and LF vanish"
unfoldable pub tokens : ℕ → List ℕ → Stream Why Shown
tokens p [] = end
tokens p (b ∷ s) =
    cond (eqb b 92) (escaped p s)
    (cond (eqb b 123) (Shown.opening ▸ tail (p + 1) s)
    (cond (eqb b 125) (Shown.closing ▸ tail (p + 1) s)
    (cond (eqb b 10 || eqb b 13) (tail (p + 1) s)
    (tail p (b ∷ s)))))
