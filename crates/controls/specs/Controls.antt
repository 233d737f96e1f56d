-- 01, Cutting, and 02, A1: a control word by its name and its number, and the bytes that a backslash makes plain text, as both rule sets have
-- them. Assumes nothing: these are definitions.
use Rattle.std.specs.Prelude.{ℕ, List, ◌∷◌, Bool, cond, ◌||◌, ltb, eqb}
use Rattle.answers.specs.declared.Why.{Why}
use Rattle.answers.specs.declared.Why.TheVariants.{NumberBad}
use Rattle.names.specs.Names.{word_number}
use Rattle.rooms.specs.Streams.{Stream, end, stop, ◌▸◌}
use Rattle.tokens.specs.Tokens.{Shown}
use Rattle.tokens.specs.WordNumbers as words
use Rattle.std.specs.Prelude.{Option, Some, None}

-- "`\{`, `\}`, `\\`"
abbrev pub is_escape : ℕ → Bool
is_escape b = (eqb b 123 || eqb b 125) || eqb b 92

-- a word by its name: "49 is unknown", and shows "its backslash, without its number"
unfoldable pub shown_word : ℕ → List ℕ → Option ℕ → Shown
shown_word p name num = cond (ltb (word_number name) words.unknown) (Shown.word (word_number name) num) (Shown.unknown p (92 ∷ name) num)

-- a word by its name and what its number's bytes say; 5 of the answer numbers
unfoldable pub numbered : ℕ → List ℕ → Option ℕ → Stream Why Shown
numbered p name (Some v) = shown_word p name (Some v) ▸ end
numbered p name None = stop NumberBad
