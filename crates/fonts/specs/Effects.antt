-- What a token does to the current font, as the code holds it, and whether that is stored first: 01's rule cut in two, the font
-- apart from the room. Assumes nothing: these are definitions.
use Rattle.std.specs.Prelude.{ℕ, ◌%◌, cond, List, ◌==◌}
use Rattle.answers.specs.declared.Why.TheVariants.{FontNumber}
use Rattle.answers.specs.declared.Why.{Why}
use Rattle.classes.specs.declared.Class.TheVariants.{Semicolon}
use Rattle.classes.specs.Bytes.{in_class, body}
use Rattle.tokens.specs.declared.item.Item.{Item}
use Rattle.tokens.specs.declared.item.Item.TheVariants.{Text, Opening, Closing, LineBreak, Ignorable, Word, Unknown, Symbol}
use Rattle.tokens.specs.Items.{part}
use Rattle.fonts.specs.declared.rows.Font.{Font as Row}
use Rattle.fonts.specs.declared.Effect.{Effect}
use Rattle.fonts.specs.declared.Effect.TheVariants.{Set, Store, Unnumbered}
use Rattle.tokens.specs.WordNumbers as words
use Rattle.std.specs.Prelude.{Result, Ok, Err, Option, Some, None}

-- "ending `;`s dropped", "place 0 if empty"
unfoldable pub named_row : Row → ℕ → List ℕ → Row
named_row f p bs =
    let n = body (in_class Semicolon) bs in
    record { key = f.key; place = cond (n == 0) 0 p; length = n }

-- "At `\f` store .., then the key is the number modulo 65,536"
abbrev pub numbered : Option ℕ → Row → Effect
numbered None f = Unnumbered
numbered (Some v) f = Store (record { key = v % 65536; place = f.place; length = f.length })

-- `f` is number 9
abbrev pub word_effect : ℕ → Option ℕ → Row → Effect
word_effect w num f = cond (w == words.font_number) (numbered num f) (Set f)

-- a token; "Each closing bracket stores."
abbrev pub effect_of : List ℕ → Item → Row → Effect
effect_of src (Word w num) f = word_effect w num f
effect_of src (Text p n) f = Set (named_row f p (part src p n))
effect_of src Closing f = Store f
effect_of src Opening f = Set f
effect_of src LineBreak f = Set f
effect_of src Ignorable f = Set f
effect_of src (Unknown p n num) f = Set f
effect_of src (Symbol b num) f = Set f

-- 11, unless the store was refused
abbrev pub unnumbered : Result ℕ Why → Why
unnumbered (Ok n) = FontNumber
unnumbered (Err why) = why
