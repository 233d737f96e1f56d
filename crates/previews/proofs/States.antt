-- The ranges that a state's row keeps in a reading: whatever words come, its style is one that a stored block can have, each of the style's
-- words has 32 bits, and in plain reading no indent is set.
--     fresh-sound     a fresh row
--     all_sound       settings of fields other than the line's, each to what it holds
--     effect-sound    a word's settings, where the word's number has 32 bits
--     sound-range     the style of such a row is in range
--     sound-words     its words have 32 bits
--     sound-flush     and in plain reading its indents are 0
-- Assumes nothing.
use mathlib.Core.Path.{◌≡◌, refl, ap}
use mathlib.Core.List.{List, [], ◌∷◌}
use mathlib.Core.Bool.{Bool, true, false, cond, ◌||◌}
use Prim.Native.Nat.{ℕ, zero, suc, ◌+◌, ◌-◌, ◌≤◌, ◌<◌}
use native.Mathlib.Omega.{arith}
use borrow.Author.Tests.{leb-true, ltb-true, ltb-false, eqb-false, le-leb, eq-eqb, ne_eqb}
use lib.Dec.{leb, ltb, eqb}
use lib.ListN.{length, get_or, set, length-set}
use lib.Seq.{get_or-set_same, get_or-set_other}
use Rattle.answers.specs.declared.Why.TheVariants.{NumberField, LineSpacing}
use Rattle.tokens.specs.Tokens.{value_of}
use Rattle.tokens.specs.WordNumbers as words
use Rattle.readings.specs.declared.Reading.{Reading}
use Rattle.readings.specs.declared.Reading.TheVariants.{Plain, Paragraphs, Standard}
use Rattle.styles.specs.Styles.{style_words, flush}
use Rattle.settings.specs.Fields.{Setting, ◌≔◌, fresh_row, resets, bit, flags_of, style_of}
use Rattle.settings.specs.Fields as field
use Rattle.settings.specs.Effects.{Effect, sets, says, refuses, setting, fitted, flag_by, flag_of, lined, spacing, ending, indenting}
use Rattle.settings.specs.Effects.{painter_word, paragraph_word, character_word, ending_word, indent_word, effect}
use Rattle.machine.specs.Machine.{settle}
use Rattle.runs.specs.Runs.{rows}
use Rattle.fields.specs.Fields.{in_range}
use Rattle.roundtrips.specs.Trips.{Words}
use Rattle.previews.proofs.Tokens.{All}
use Rattle.std.specs.Prelude.{Option, Some, None}

-- a number of 32 bits
abbrev Word : ℕ → Type 0
Word n = n ≤ 4294967295

-- 02, A5: "in plain reading they stay 0"
abbrev indent_limit : Reading → ℕ
indent_limit Plain = 0
indent_limit Paragraphs = 4294967295
indent_limit Standard = 4294967295

indent-word : (rd : Reading) → Word (indent_limit rd)
indent-word Plain = omega arith
indent-word Paragraphs = omega arith
indent-word Standard = omega arith

module _ (rd : Reading) where
  -- the most that each field holds: "first three to 65,535", "alignment to 3, kind to 1, line value to 2,147,483,647"; of the indents, what the
  -- reading lets them; of the others, what a word holds
  abbrev limits : List ℕ
  limits =
      65535 ∷ 65535 ∷ 65535
      ∷ 4294967295 ∷ 4294967295 ∷ 4294967295 ∷ 4294967295 ∷ 4294967295 ∷ 4294967295 ∷ 4294967295
      ∷ 3 ∷ 4294967295 ∷ 4294967295 ∷ 1 ∷ 2147483647 ∷ 4294967295 ∷ 4294967295
      ∷ indent_limit rd ∷ indent_limit rd ∷ indent_limit rd
      ∷ 4294967295 ∷ []

  -- a row as long as its limits, and below them
  abbrev Below : List ℕ → List ℕ → Type 0
  Below [] [] = Unit {0}
  Below [] (n ∷ ns) = ⊥
  Below (a ∷ vs) [] = ⊥
  Below (a ∷ vs) (n ∷ ns) = (a ≤ n) × Below vs ns

  -- "and 0 if automatic"
  abbrev Automatic : List ℕ → Type 0
  Automatic r = eqb (get_or r field.kind 0) 1 || eqb (get_or r field.line 0) 0 ≡ true

  pub record Sound (r : List ℕ) : Type 0 where
    pub below : Below r limits
    pub automatic : Automatic r

  pub fresh-sound : Sound fresh_row
  fresh-sound = record { below = omega arith; automatic = refl }

  below_at : (vs ns : List ℕ) → Below vs ns → (f : ℕ) → get_or vs f 0 ≤ get_or ns f 0
  below_at [] [] h f = omega arith
  below_at [] (n ∷ ns) h f = absurd h
  below_at (a ∷ vs) [] h f = absurd h
  below_at (a ∷ vs) (n ∷ ns) h zero = h.0
  below_at (a ∷ vs) (n ∷ ns) h (suc f) = below_at vs ns h.1 f

  below_length : (vs ns : List ℕ) → Below vs ns → length vs ≡ length ns
  below_length [] [] h = refl
  below_length [] (n ∷ ns) h = absurd h
  below_length (a ∷ vs) [] h = absurd h
  below_length (a ∷ vs) (n ∷ ns) h = ap suc (below_length vs ns h.1)

  below_set : (vs ns : List ℕ) (f v : ℕ) → Below vs ns → v ≤ get_or ns f 0 → Below (set vs f v) ns
  below_set [] [] f v h k = tt
  below_set [] (n ∷ ns) f v h k = absurd h
  below_set (a ∷ vs) [] f v h k = absurd h
  below_set (a ∷ vs) (n ∷ ns) zero v h k = (k, h.1)
  below_set (a ∷ vs) (n ∷ ns) (suc f) v h k = (h.0, below_set vs ns f v h.1 k)

  -- ---- settings

  -- a field that is neither the line's kind nor its value, set to what it holds
  abbrev Fits : Setting → Type 0
  Fits (f ≔ v) = (v ≤ get_or limits f 0) × (eqb field.kind f ≡ false) × (eqb field.line f ≡ false)

  set-sound : (r : List ℕ) (s : Setting) → Fits s → Sound r → Sound (settle rows (s ∷ []) r)
  unfolding settle
  set-sound r (f ≔ v) k h = record {
    below = below_set r limits f v h.below k.0;
    automatic =
        rw (get_or-set_other r f field.kind v 0 (eqb-false field.kind f k.1), get_or-set_other r f field.line v 0 (eqb-false field.line f k.2))
        h.automatic;
  }

  pub all_sound : (ss : List Setting) → All Fits ss → (r : List ℕ) → Sound r → Sound (settle rows ss r)
  unfolding settle
  all_sound [] k r h = h
  all_sound (s ∷ ss) k r h = all_sound ss k.1 (settle rows (s ∷ []) r) (set-sound r s k.0 h)

  -- the line's kind and value, set together
  lined-sound : (k v : ℕ) → k ≤ 1 → v ≤ 2147483647 → eqb k 1 || eqb v 0 ≡ true → (r : List ℕ) → Sound r
      → Sound (settle rows (field.kind ≔ k ∷ field.line ≔ v ∷ []) r)
  unfolding settle
  lined-sound k v a b e r h =
      let n = below_length r limits h.below in
      let m = length-set r field.kind k in
      record {
        below = below_set (set r field.kind k) limits field.line v (below_set r limits field.kind k h.below a) b;
        automatic =
            rw (
              get_or-set_other (set r field.kind k) field.line field.kind v 0 (eqb-false field.kind field.line refl),
              get_or-set_same r field.kind k 0 (omega arith),
              get_or-set_same (set r field.kind k) field.line v 0 (omega arith),
            )
            e;
      }

  -- ---- a word's effect

  abbrev pub SoundEffect : Effect → Type 0
  SoundEffect (sets ss) = (r : List ℕ) → Sound r → Sound (settle rows ss r)
  SoundEffect (says c) = Unit {0}
  SoundEffect (refuses why) = Unit {0}

  -- either way of a choice
  pub either : (t : Bool) (a b : Effect) → SoundEffect a → SoundEffect b → SoundEffect (cond t a b)
  either true a b h k = h
  either false a b h k = k

  one-sound : (f v : ℕ) → Fits (f ≔ v) → SoundEffect (setting f v)
  one-sound f v k = all_sound (f ≔ v ∷ []) (k, tt)

  fitted-sound : (f v : ℕ) → get_or limits f 0 ≡ 65535 → eqb field.kind f ≡ false → eqb field.line f ≡ false → SoundEffect (fitted f v)
  unfolding fitted
  fitted-sound f v e p q = go (leb v 65535) refl
    where
      go : (t : Bool) → leb v 65535 ≡ t → SoundEffect (cond t (setting f v) (refuses NumberField))
      go true l = one-sound f v (omega (arith, e, leb-true v 65535 l), p, q)
      go false l = tt

  -- a flag is 0 or 1, in whatever reading
  either-word : (t : Bool) (a b : ℕ) → Word a → Word b → Word (cond t a b)
  either-word true a b h k = h
  either-word false a b h k = k

  flag-by-word : (d : Reading) (v : ℕ) → Word (flag_by d v)
  flag-by-word Plain v = either-word (eqb v 1) 1 0 (omega arith) (omega arith)
  flag-by-word Paragraphs v = either-word (eqb v 1) 1 0 (omega arith) (omega arith)
  flag-by-word Standard v = either-word (eqb v 0) 0 1 (omega arith) (omega arith)

  flag_word : (num : Option ℕ) → Word (flag_of rd num)
  flag_word None = omega arith
  flag_word (Some v) = flag-by-word rd v

  spacing-sound : (v : ℕ) → SoundEffect (spacing v)
  unfolding spacing
  spacing-sound v =
      either (eqb v 1000) _ _ (lined-sound 0 0 (omega arith) (omega arith) refl) (go (eqb v 2147483648) (ltb v 2147483648) refl refl)
    where
      go : (t u : Bool) → eqb v 2147483648 ≡ t → ltb v 2147483648 ≡ u
          → SoundEffect (cond t (refuses LineSpacing) (cond u (lined 1 v) (lined 1 (4294967296 - v))))
      go true u e f = tt
      go false true e f = lined-sound 1 v (omega arith) (omega (arith, ltb-true v 2147483648 f)) refl
      go false false e f =
          lined-sound 1 (4294967296 - v) (omega arith) (omega (arith, ltb-false v 2147483648 f, eqb-false v 2147483648 e)) refl

  ending-sound : (d : Reading) → SoundEffect (ending d)
  ending-sound Plain = all_sound [] tt
  ending-sound Paragraphs = tt
  ending-sound Standard = tt

  -- an indent's field, set or not
  indent-sound : (f v : ℕ) → get_or limits f 0 ≡ indent_limit rd → eqb field.kind f ≡ false → eqb field.line f ≡ false → Word v → SoundEffect (indenting rd f v)
  indent-sound f v e p q n = go rd e
    where
      go : (d : Reading) → get_or limits f 0 ≡ indent_limit d → SoundEffect (indenting d f v)
      go Plain k = all_sound [] tt
      go Paragraphs k = one-sound f v (omega (arith, k, n), p, q)
      go Standard k = one-sound f v (omega (arith, k, n), p, q)

  -- fields before the line's, each to its fresh value
  resets-fit : (f n : ℕ) → f + n ≤ field.kind → All Fits (resets f n)
  unfolding resets
  resets-fit f zero l = tt
  resets-fit f (suc n) l = (
    (below_at fresh_row limits fresh-sound.below f, ne_eqb field.kind f (λ e. omega arith), ne_eqb field.line f (λ e. omega arith)),
    resets-fit (suc f) n (omega (arith, l)),
  )

  -- `plain`
  painter-resets : SoundEffect (sets (resets field.colour field.painter_width))
  painter-resets = all_sound (resets field.colour field.painter_width) (resets-fit field.colour field.painter_width (omega arith))

  -- `pard`: three fields before the line's, the line's, five behind
  paragraph-resets : SoundEffect (sets (resets field.alignment field.paragraph_width))
  unfolding resets settle
  paragraph-resets r h =
      let front : List Setting = resets field.alignment 3 in
      let line : List Setting = field.kind ≔ 0 ∷ field.line ≔ 0 ∷ [] in
      let none : Word 0 = omega arith in
      all_sound (field.multiplier ≔ 0 ∷ field.tab ≔ 0 ∷ field.left ≔ 0 ∷ field.right ≔ 0 ∷ field.first ≔ 0 ∷ [])
      ((none, refl, refl), ((none, refl, refl), ((omega arith, refl, refl), ((omega arith, refl, refl), ((omega arith, refl, refl), tt)))))
      (settle rows line (settle rows front r))
      (lined-sound 0 0 (omega arith) (omega arith) refl (settle rows front r)
      (all_sound front (resets-fit field.alignment 3 (omega arith)) r h))

  module _ (w : ℕ) (num : Option ℕ) where
    painter-sound : (next : Effect) → SoundEffect next → SoundEffect (painter_word rd w num next)
    unfolding painter_word
    painter-sound next k =
        let flag = flag_word num in
        either (eqb w words.colour_number) _ _ (fitted-sound field.colour (value_of num) refl refl refl)
        (either (eqb w words.font_number) _ _ (fitted-sound field.font (value_of num) refl refl refl)
        (either (eqb w words.font_size) _ _ (fitted-sound field.size (value_of num) refl refl refl)
        (either (eqb w words.bold) _ _ (one-sound field.bold (flag_of rd num) (flag, refl, refl))
        (either (eqb w words.italic) _ _ (one-sound field.italic (flag_of rd num) (flag, refl, refl))
        (either (eqb w words.underline) _ _ (one-sound field.underline (flag_of rd num) (flag, refl, refl))
        (either (eqb w words.superscript) _ _ (one-sound field.superscript (flag_of rd num) (flag, refl, refl))
        (either (eqb w words.subscript) _ _ (one-sound field.subscript (flag_of rd num) (flag, refl, refl))
        (either (eqb w words.smallcaps) _ _ (one-sound field.smallcaps (flag_of rd num) (flag, refl, refl))
        (either (eqb w words.strikethrough) _ _ (one-sound field.strike (flag_of rd num) (flag, refl, refl))
        (either (eqb w words.underline_none) _ _ (one-sound field.underline 0 (omega arith, refl, refl))
        (either (eqb w words.plain) _ _ painter-resets k)))))))))))

    paragraph-sound : (next : Effect) → Word (value_of num) → SoundEffect next → SoundEffect (paragraph_word w num next)
    unfolding paragraph_word
    paragraph-sound next n k =
        either (eqb w words.pard) _ _ paragraph-resets
        (either (eqb w words.space_between_line) _ _ (spacing-sound (value_of num))
        (either (eqb w words.space_before) _ _ (one-sound field.before (value_of num) (n, refl, refl))
        (either (eqb w words.space_after) _ _ (one-sound field.after (value_of num) (n, refl, refl))
        (either (eqb w words.space_line_mul) _ _ (one-sound field.multiplier (value_of num) (n, refl, refl))
        (either (eqb w words.par_def_tab) _ _ (one-sound field.tab (value_of num) (n, refl, refl))
        (either (eqb w words.unicode_ignore_count) _ _ (one-sound field.skip (value_of num) (n, refl, refl))
        (either (eqb w words.left_aligned) _ _ (one-sound field.alignment 0 (omega arith, refl, refl))
        (either (eqb w words.right_aligned) _ _ (one-sound field.alignment 1 (omega arith, refl, refl))
        (either (eqb w words.center) _ _ (one-sound field.alignment 2 (omega arith, refl, refl))
        (either (eqb w words.justify) _ _ (one-sound field.alignment 3 (omega arith, refl, refl)) k))))))))))

    character-sound : (next : Effect) → SoundEffect next → SoundEffect (character_word w next)
    unfolding character_word
    character-sound next k =
        either (eqb w words.emdash) _ _ tt
        (either (eqb w words.endash) _ _ tt
        (either (eqb w words.bullet) _ _ tt
        (either (eqb w words.left_single_quote) _ _ tt
        (either (eqb w words.right_single_quote) _ _ tt
        (either (eqb w words.left_double_quote) _ _ tt
        (either (eqb w words.right_double_quote) _ _ tt
        (either (eqb w words.tab) _ _ tt
        (either (eqb w words.line) _ _ tt k))))))))

    word_sound : (next : Effect) → SoundEffect next → SoundEffect (ending_word rd w next)
    unfolding ending_word
    word_sound next k = either (eqb w words.par) _ _ (ending-sound rd) k

    indents-sound : (next : Effect) → Word (value_of num) → SoundEffect next → SoundEffect (indent_word rd w num next)
    unfolding indent_word
    indents-sound next n k =
        either (eqb w words.left_indent) _ _ (indent-sound field.left (value_of num) refl refl refl n)
        (either (eqb w words.right_indent) _ _ (indent-sound field.right (value_of num) refl refl refl n)
        (either (eqb w words.first_line_indent) _ _ (indent-sound field.first (value_of num) refl refl refl n) k))

    pub effect-sound : value_of num < 4294967296 → SoundEffect (effect rd w num)
    unfolding effect
    effect-sound n =
        let v : Word (value_of num) = omega (arith, n) in
        painter-sound _ (paragraph-sound _ v (character-sound _ (word_sound _ (indents-sound _ v (all_sound [] tt)))))

  -- ---- the style

  bit-most : (v n : ℕ) → bit v n ≤ n
  bit-most v n = go (eqb v 1)
    where
      go : (t : Bool) → cond t n 0 ≤ n
      go true = omega arith
      go false = omega arith

  flags-most : (r : List ℕ) → flags_of r ≤ 127
  unfolding flags_of
  flags-most r =
      omega (
        arith,
        bit-most (get_or r field.bold 0) 1,
        bit-most (get_or r field.italic 0) 2,
        bit-most (get_or r field.underline 0) 4,
        bit-most (get_or r field.superscript 0) 8,
        bit-most (get_or r field.subscript 0) 16,
        bit-most (get_or r field.smallcaps 0) 32,
        bit-most (get_or r field.strike 0) 64,
      )

  module _ (r : List ℕ) (h : Sound r) where
    field-most : (f : ℕ) → get_or r f 0 ≤ get_or limits f 0
    field-most = below_at r limits h.below

    pub sound-range : in_range (style_of r) ≡ true
    unfolding in_range style_of
    sound-range =
        rw (
          le-leb (get_or r field.colour 0) 65535 (field-most field.colour),
          le-leb (get_or r field.font 0) 65535 (field-most field.font),
          le-leb (get_or r field.size 0) 65535 (field-most field.size),
          le-leb (flags_of r) 127 (flags-most r),
          le-leb (get_or r field.alignment 0) 3 (field-most field.alignment),
          le-leb (get_or r field.kind 0) 1 (field-most field.kind),
          le-leb (get_or r field.line 0) 2147483647 (field-most field.line),
          h.automatic,
        )

    -- in plain reading no indent is set
    pub sound-flush : rd ≡ Plain → flush (style_of r) ≡ true
    unfolding style_of
    sound-flush d =
        let z : indent_limit rd ≡ 0 = ap indent_limit d in
        rw (
          eq-eqb (get_or r field.left 0) 0 (omega (arith, z, field-most field.left)),
          eq-eqb (get_or r field.right 0) 0 (omega (arith, z, field-most field.right)),
          eq-eqb (get_or r field.first 0) 0 (omega (arith, z, field-most field.first)),
        )

  words-all : (ns : List ℕ) → All Word ns → Words ns
  words-all [] h i = omega arith
  words-all (n ∷ ns) h zero = omega (arith, h.0)
  words-all (n ∷ ns) h (suc i) = words-all ns h.1 i

  pub sound-words : (r : List ℕ) → Sound r → Words (style_words (style_of r))
  unfolding style_of
  sound-words r h =
      let most = field-most r h in
      words-all (style_words (style_of r))
      (omega (
        arith,
        most field.colour,
        most field.font,
        most field.size,
        flags-most r,
        most field.alignment,
        most field.before,
        most field.after,
        most field.kind,
        most field.line,
        most field.multiplier,
        most field.tab,
        most field.left,
        most field.right,
        most field.first,
        indent-word rd,
      ))
