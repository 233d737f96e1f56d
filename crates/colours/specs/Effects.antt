-- What a token does to the current colour, and whether it stores it: 01's rule cut in two, the colour apart from the room.
-- Assumes nothing: these are definitions.
use Rattle.std.specs.Prelude.{ℕ, ◌≤◌, cond, eqb, ltb}
use Rattle.tokens.specs.Tokens.{value_of}
use Rattle.tokens.specs.declared.item.Item.{Item}
use Rattle.tokens.specs.declared.item.Item.TheVariants.{Text, Opening, Closing, LineBreak, Ignorable, Word, Unknown, Symbol}
use Rattle.colours.specs.declared.Colour.{Colour}
use Rattle.colours.specs.declared.Effect.{Effect}
use Rattle.colours.specs.declared.Effect.TheVariants.{Set, Store, Unfit}
use Rattle.tokens.specs.WordNumbers as words

-- "0 to 255"
abbrev pub fitted : ℕ → Effect → Effect
fitted v e = cond (ltb v 256) e Unfit

-- `red`, `green` and `blue` are numbers 37 to 39
unfoldable pub word_effect : ℕ → ℕ → Colour → Effect
word_effect w v c =
    cond (eqb w words.colour_red) (fitted v (Set (record { red = v; green = c.green; blue = c.blue })))
    (cond (eqb w words.colour_green) (fitted v (Set (record { red = c.red; green = v; blue = c.blue })))
    (cond (eqb w words.colour_blue) (fitted v (Store (record { red = c.red; green = c.green; blue = v })))
    (Set c)))

-- a token
abbrev pub effect_of : Item → Colour → Effect
effect_of (Word w num) c = word_effect w (value_of num) c
effect_of (Text p n) c = Set c
effect_of Opening c = Set c
effect_of Closing c = Set c
effect_of LineBreak c = Set c
effect_of Ignorable c = Set c
effect_of (Unknown p n num) c = Set c
effect_of (Symbol b num) c = Set c

-- a colour whose values fit
pub record Small (c : Colour) : Type 0 where
  pub red : c.red ≤ 255
  pub green : c.green ≤ 255
  pub blue : c.blue ≤ 255
