-- 01, Body, and 02, A1 and A5: what a word does, but `u`: it sets fields of the state, writes a character, or is refused. Assumes nothing: these are
-- definitions.
use Rattle.std.specs.Prelude.{ℕ, ◌-◌, ◌<◌, List, [], ◌∷◌, cond, leb, ltb, eqb}
use Rattle.answers.specs.declared.Why.{Why}
use Rattle.answers.specs.declared.Why.TheVariants.{NumberField, LineSpacing}
use Rattle.readings.specs.declared.Reading.{Reading}
use Rattle.readings.specs.declared.Reading.TheVariants.{Plain, Paragraphs, Standard}
use Rattle.tokens.specs.Tokens.{value_of}
use Rattle.tokens.specs.WordNumbers as words
use Rattle.settings.specs.declared.Act.{Act}
use Rattle.settings.specs.declared.Act.TheVariants.{Nothing, Sets, Lines, Plain as ResetsPainter, Pard as ResetsParagraph, Says, Refuses}
use Rattle.settings.specs.Fields.{Setting, ◌≔◌, resets, painter_width, paragraph_width, width}
use Rattle.settings.specs.Fields as field
use Rattle.std.specs.Prelude.{Option, Some, None}

pub data Effect : Type 0 where
  sets : List Setting → Effect
  says : ℕ → Effect
  refuses : Why → Effect

-- a field set to a value
abbrev pub setting : ℕ → ℕ → Effect
setting f v = sets (f ≔ v ∷ [])

-- "`cf`, `f`, `fs` take the number or 0 and fit 0 to 65,535"; 12: "a number does not fit its field"
unfoldable pub fitted : ℕ → ℕ → Effect
fitted f v = cond (leb v 65535) (setting f v) (refuses NumberField)

-- "Flags: no number is on, else on only for 1"; 02, A1: "Any number but 0 turns a flag on; no number too"
abbrev pub flag_by : Reading → ℕ → ℕ
flag_by Plain v = cond (eqb v 1) 1 0
flag_by Paragraphs v = cond (eqb v 1) 1 0
flag_by Standard v = cond (eqb v 0) 0 1

abbrev pub flag_of : Reading → Option ℕ → ℕ
flag_of rd None = 1
flag_of rd (Some v) = flag_by rd v

-- "line kind (0 automatic, 1 value), line value"
abbrev pub lined : ℕ → ℕ → Effect
lined k v = sets (field.kind ≔ k ∷ field.line ≔ v ∷ [])

-- "`sl`: 1000 is automatic, a negative gives its absolute value, any other number is the value, none gives value 0."
-- 15: "`\sl-2147483648`"
unfoldable pub spacing : ℕ → Effect
spacing v =
    cond (eqb v 1000) (lined 0 0)
    (cond (eqb v 2147483648) (refuses LineSpacing)
    (cond (ltb v 2147483648) (lined 1 v)
    (lined 1 (4294967296 - v))))

-- `par`, by the reading; 02, A1: "`\par` adds U+000A"
abbrev pub ending : Reading → Effect
ending Plain = sets []
ending Paragraphs = says 10
ending Standard = says 10

-- word by word; what is none of these words is left to what comes next. The style: "`ulnone` is off"; "`plain` resets the style"
unfoldable pub painter_word : Reading → ℕ → Option ℕ → Effect → Effect
painter_word rd w num next =
    cond (eqb w words.colour_number) (fitted field.colour (value_of num))
    (cond (eqb w words.font_number) (fitted field.font (value_of num))
    (cond (eqb w words.font_size) (fitted field.size (value_of num))
    (cond (eqb w words.bold) (setting field.bold (flag_of rd num))
    (cond (eqb w words.italic) (setting field.italic (flag_of rd num))
    (cond (eqb w words.underline) (setting field.underline (flag_of rd num))
    (cond (eqb w words.superscript) (setting field.superscript (flag_of rd num))
    (cond (eqb w words.subscript) (setting field.subscript (flag_of rd num))
    (cond (eqb w words.smallcaps) (setting field.smallcaps (flag_of rd num))
    (cond (eqb w words.strikethrough) (setting field.strike (flag_of rd num))
    (cond (eqb w words.underline_none) (setting field.underline 0)
    (cond (eqb w words.plain) (sets (resets field.colour painter_width))
    next)))))))))))

-- the paragraph: "`pard` the paragraph"; "`sb sa slmul pardeftab uc` take the number or 0."; "`ql qr qc qj` align.": "alignment (0
-- left, 1 right, 2 centre, 3 justified)"; and `uc`
unfoldable pub paragraph_word : ℕ → Option ℕ → Effect → Effect
paragraph_word w num next =
    cond (eqb w words.pard) (sets (resets field.alignment paragraph_width))
    (cond (eqb w words.space_between_line) (spacing (value_of num))
    (cond (eqb w words.space_before) (setting field.before (value_of num))
    (cond (eqb w words.space_after) (setting field.after (value_of num))
    (cond (eqb w words.space_line_mul) (setting field.multiplier (value_of num))
    (cond (eqb w words.par_def_tab) (setting field.tab (value_of num))
    (cond (eqb w words.unicode_ignore_count) (setting field.skip (value_of num))
    (cond (eqb w words.left_aligned) (setting field.alignment 0)
    (cond (eqb w words.right_aligned) (setting field.alignment 1)
    (cond (eqb w words.center) (setting field.alignment 2)
    (cond (eqb w words.justify) (setting field.alignment 3)
    next))))))))))

-- "The nine names from `emdash` add U+2014, 2013, 2022, 2018, 2019, 201C, 201D, 0009, 000A"
unfoldable pub character_word : ℕ → Effect → Effect
character_word w next =
    cond (eqb w words.emdash) (says 8212)
    (cond (eqb w words.endash) (says 8211)
    (cond (eqb w words.bullet) (says 8226)
    (cond (eqb w words.left_single_quote) (says 8216)
    (cond (eqb w words.right_single_quote) (says 8217)
    (cond (eqb w words.left_double_quote) (says 8220)
    (cond (eqb w words.right_double_quote) (says 8221)
    (cond (eqb w words.tab) (says 9)
    (cond (eqb w words.line) (says 10)
    next))))))))

-- "Paragraph reading: the same, but `par` adds U+000A."
unfoldable pub ending_word : Reading → ℕ → Effect → Effect
ending_word rd w next = cond (eqb w words.par) (ending rd) next

-- 02, A5: "`li`, `ri` and `fi` set them (no number is 0) in paragraph and standard reading ..; in plain reading they stay 0"
abbrev pub indenting : Reading → ℕ → ℕ → Effect
indenting Plain f v = sets []
indenting Paragraphs f v = setting f v
indenting Standard f v = setting f v

unfoldable pub indent_word : Reading → ℕ → Option ℕ → Effect → Effect
indent_word rd w num next =
    cond (eqb w words.left_indent) (indenting rd field.left (value_of num))
    (cond (eqb w words.right_indent) (indenting rd field.right (value_of num))
    (cond (eqb w words.first_line_indent) (indenting rd field.first (value_of num))
    next))

-- "Other words do nothing."
unfoldable pub effect : Reading → ℕ → Option ℕ → Effect
effect rd w num = painter_word rd w num (paragraph_word w num (character_word w (ending_word rd w (indent_word rd w num (sets [])))))

-- what the code's answer says
unfoldable pub meaning : Act → Effect
meaning Nothing = sets []
meaning (Sets f v) = setting f v
meaning (Lines k v) = lined k v
meaning ResetsPainter = sets (resets field.colour painter_width)
meaning ResetsParagraph = sets (resets field.alignment paragraph_width)
meaning (Says c) = says c
meaning (Refuses why) = refuses why

-- its field lies in a row
abbrev pub Within : Act → Type 0
Within Nothing = 0 < width
Within (Sets f v) = f < width
Within (Lines k v) = 0 < width
Within ResetsPainter = 0 < width
Within ResetsParagraph = 0 < width
Within (Says c) = 0 < width
Within (Refuses why) = 0 < width
