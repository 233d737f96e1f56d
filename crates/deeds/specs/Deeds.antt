-- 01, Body, and 02, A1: what a token does. Assumes nothing: these are definitions.
use Rattle.std.specs.Prelude.{ℕ, [], ◌∷◌, cond, eqb}
use Rattle.answers.specs.declared.Why.TheVariants.{IgnorableInBody}
use Rattle.readings.specs.declared.Reading.{Reading}
use Rattle.tokens.specs.Tokens.{Shown, value_of}
use Rattle.tokens.specs.WordNumbers as words
use Rattle.utf8.specs.Utf8.{written}
use Rattle.windows.specs.Windows.{windows1252}
use Rattle.settings.specs.Fields.{Setting}
use Rattle.settings.specs.Effects.{Effect, effect}
use Rattle.settings.specs.Effects as does
use Rattle.machine.specs.Machine.{Deed, opens, closes, sets, says, tells, unit, refuses, stops}
use Rattle.std.specs.Prelude.{Option}

-- a word's effect
abbrev pub doing : Effect → Deed Setting
doing (does.sets ss) = sets ss
doing (does.says c) = says (written c)
doing (does.refuses why) = refuses why

-- 02, A1: "`\~ \_ \-`: U+00A0, U+2011, U+00AD."; "Hex escapes go through the published Windows-1252 table"; "Any other symbol gives nothing"
unfoldable pub symbol_effect : ℕ → Option ℕ → Effect
symbol_effect b num =
    cond (eqb b 39) (does.says (windows1252 (value_of num)))
    (cond (eqb b 126) (does.says 160)
    (cond (eqb b 95) (does.says 8209)
    (cond (eqb b 45) (does.says 173)
    (does.sets []))))

-- a token: "a line break adds U+000A"; 13: "`\*` met in the body"; `u` is a word of its own
abbrev pub token_deed : Reading → Shown → Deed Setting
token_deed rd Shown.opening = opens
token_deed rd Shown.closing = closes
token_deed rd Shown.line_break = says (10 ∷ [])
token_deed rd Shown.ignorable = stops IgnorableInBody
token_deed rd (Shown.text p bs) = tells bs
token_deed rd (Shown.word w num) = cond (eqb w words.unicode) (unit num) (doing (effect rd w num))
token_deed rd (Shown.unknown p bs num) = sets []
token_deed rd (Shown.symbol b num) = doing (symbol_effect b num)
