-- The loop over a group's tokens, in the terms of the code.
--     name-fits       the length of a text's name
--     effect-token    a token's effect, and then the room, is the definition's step
--     effect-row      the code's new current font is the definition's
--     loop-start, -set, -store, -full, -unnumbered, -end   one law for each way through the loop
-- Assumes nothing.
use Rattle.std.proofs.Common.{◌≡◌, ℕ, zero, suc, ◌*◌, ◌<◌, ◌≤◌, Bool, true, false, cond, ◌||◌, eqb, ltb, List, [], ◌∷◌, length, take, sym, refl, ap, ◌∙◌, arith, length-take, length-take-le}
use Rattle.answers.specs.declared.Why.TheVariants.{FontNumber, FontRoom}
use Rattle.answers.specs.declared.Why.{Why}
use Rattle.answers.specs.declared.Refusal.{Refusal}
use Rattle.answers.specs.Answers.{refusal_at, Found, found, refused, Fate, becomes, fails, found_at}
use Rattle.rooms.proofs.Streams.{ok_err, ok-same}
use Rattle.rooms.specs.Rooms.{table_limit, overlaid}
use Rattle.rooms.proofs.Rooms.{limit-256}
use Rattle.rooms.proofs.Clearing.{overlaid-front, overlaid-again}
use Rattle.classes.specs.declared.Class.TheVariants.{Semicolon}
use Rattle.classes.specs.Bytes.{in_class, body, grown}
use Rattle.tokens.specs.Tokens.{Token, token_words}
use Rattle.tokens.specs.declared.item.Item.{Item}
use Rattle.tokens.specs.declared.item.Item.TheVariants.{Text, Opening, Closing, LineBreak, Ignorable, Word, Unknown, Symbol}
use Rattle.tokens.specs.Items.{part, item_at, shown_of, slice_at, tokens_all}
use Rattle.tokens.proofs.Items.{tokens_none}
use Rattle.rooms.proofs.Chunks.{Chunk, chunk-words, left_none}
use Rattle.tokens.proofs.Chunks.{chunk-tokens}
use Rattle.fonts.specs.declared.rows.Font.{Font as Row}
use Rattle.fonts.specs.declared.Effect.{Effect}
use Rattle.fonts.specs.declared.Effect.TheVariants.{Set, Store, Unnumbered}
use Rattle.fonts.specs.Rows.{Font, table_words, has_key, inserted, InFront, ReadFonts, font_words}
use Rattle.fonts.specs.Fonts.{named, keyed}
use Rattle.fonts.specs.Rows.{Fonts, no_fonts, stored, table_of}
use Rattle.fonts.specs.Fonts.{rekeyed, font_word, font_token, fonts_from, fonts}
use Rattle.fonts.specs.Rows.{row, Ascends, WroteFonts, StoredFont}
use Rattle.fonts.specs.Effects.{named_row, numbered, word_effect, effect_of, unnumbered}
use Rattle.fonts.proofs.Limits.{limit-within}
use Rattle.fonts.proofs.Inserts.{table-ascends}
use Rattle.fonts.proofs.RowTables.{stored-longer, length-table}
use Rattle.fonts.proofs.Tables.{fonts-refused, Sound, SoundFate, sound-start, sound-token}
use Rattle.std.specs.Prelude.{Result, Ok, Err, Option, Some, None}

part_length : (l : List ℕ) (p n : ℕ) → length (part l p n) ≤ n
unfolding part
part_length l p n = simp length-take (omega arith)

body-length : (f : ℕ → Bool) (s : List ℕ) → body f s ≤ length s
unfolding body
body-length f [] = omega arith
body-length f (b ∷ s) = go (f b) (body f s) (body-length f s)
  where
    go : (t : Bool) (m : ℕ) → m ≤ length s → grown t m ≤ suc (length s)
    go true zero h = omega arith
    go true (suc m) h = omega arith
    go false zero h = omega arith
    go false (suc m) h = omega arith

module _ (src : List ℕ) (p n : ℕ) {bytes : List ℕ} {m : ℕ} where
  pub name-fits : bytes ≡ part src p n → m ≤ length bytes → n < 4294967296 → m < 4294967296
  name-fits e h l = let k : length bytes ≤ n = rw e (part_length src p n) in omega arith

-- the definition's next current font
abbrev numbered_font : Option ℕ → Font → Font
numbered_font None f = f
numbered_font (Some v) f = keyed f v

abbrev font_after : List ℕ → Item → Font → Font
font_after src (Word w num) f = cond (eqb w 9) (numbered_font num f) f
font_after src (Text p n) f = named f p (part src p n)
font_after src Closing f = f
font_after src Opening f = f
font_after src LineBreak f = f
font_after src Ignorable f = f
font_after src (Unknown p n num) f = f
font_after src (Symbol b num) f = f

-- what follows a store
abbrev then_font : Font → Fate Fonts → Fate Fonts
then_font f (becomes s) = becomes (record { table = s.table; font = f })
then_font f (fails why) = fails why

abbrev then_none : Fate Fonts → Fate Fonts
then_none (becomes s) = fails FontNumber
then_none (fails why) = fails why

-- an effect, and then the room
abbrev applied : ℕ → Fonts → Font → Effect → Fate Fonts
applied limit s f (Set g) = becomes (record { table = s.table; font = f })
applied limit s f (Store g) = then_font f (stored limit s)
applied limit s f Unnumbered = then_none (stored limit s)

-- a store leaves the current font as it is
same-font : (limit : ℕ) (s : Fonts) → stored limit s ≡ then_font s.font (stored limit s)
unfolding stored
same-font limit s = go (has_key s.font.key s.table || ltb (length s.table) limit)
  where
    go : (t : Bool) → cond t (becomes (record { table = inserted s.font s.table; font = s.font })) (fails FontRoom)
        ≡ then_font s.font (cond t (becomes (record { table = inserted s.font s.table; font = s.font })) (fails FontRoom))
    go true = refl
    go false = refl

number-then : (v : ℕ) (f : Font) (x : Fate Fonts) → rekeyed (Some v) (then_font f x) ≡ then_font (keyed f v) x
number-then v f (becomes s) = refl
number-then v f (fails why) = refl

none_then : (x : Fate Fonts) → rekeyed None x ≡ then_none x
none_then (becomes s) = refl
none_then (fails why) = refl

number-token : (limit : ℕ) (num : Option ℕ) (s : Fonts)
    → rekeyed num (stored limit s) ≡ applied limit s (numbered_font num s.font) (numbered num (row s.font))
number-token limit None s = none_then (stored limit s)
number-token limit (Some v) s = ap (rekeyed (Some v)) (same-font limit s) ∙ number-then v s.font (stored limit s)

word-token : (limit w : ℕ) (num : Option ℕ) (s : Fonts)
    → font_word limit w num s ≡ applied limit s (cond (eqb w 9) (numbered_font num s.font) s.font) (word_effect w num (row s.font))
unfolding font_word
word-token limit w num s = go (eqb w 9)
  where
    go : (t : Bool) → cond t (rekeyed num (stored limit s)) (becomes s)
        ≡ applied limit s (cond t (numbered_font num s.font) s.font) (cond t (numbered num (row s.font)) (Set (row s.font)))
    go true = number-token limit num s
    go false = refl

effect-token : (limit : ℕ) (src : List ℕ) (i : Item) (s : Fonts)
    → font_token limit (shown_of src i) s ≡ applied limit s (font_after src i s.font) (effect_of src i (row s.font))
unfolding font_token
effect-token limit src (Word w num) s = word-token limit w num s
effect-token limit src (Text p n) s = refl
effect-token limit src Closing s = same-font limit s
effect-token limit src Opening s = refl
effect-token limit src LineBreak s = refl
effect-token limit src Ignorable s = refl
effect-token limit src (Unknown p n num) s = refl
effect-token limit src (Symbol b num) s = refl

-- the font that an effect leaves is this one
abbrev Leaves : Font → Effect → Type 0
Leaves f (Set g) = g ≡ row f
Leaves f (Store g) = g ≡ row f
Leaves f Unnumbered = Unit {0}

leaves-numbered : (num : Option ℕ) (f : Font) → Leaves (numbered_font num f) (numbered num (row f))
leaves-numbered None f = tt
leaves-numbered (Some v) f = refl

leaves_word : (w : ℕ) (num : Option ℕ) (f : Font) → Leaves (cond (eqb w 9) (numbered_font num f) f) (word_effect w num (row f))
leaves_word w num f = go (eqb w 9)
  where
    go : (t : Bool) → Leaves (cond t (numbered_font num f) f) (cond t (numbered num (row f)) (Set (row f)))
    go true = leaves-numbered num f
    go false = refl

named-row : (f : Font) (p : ℕ) (bs : List ℕ) → named_row (row f) p bs ≡ row (named f p bs)
unfolding named_row named
named-row f p bs =
    let n : ℕ = body (in_class Semicolon) bs in
    let e : length (take n bs) ≡ n = length-take-le n bs (body-length (in_class Semicolon) bs) in
    rw e

effect-row : (src : List ℕ) (i : Item) (f : Font) → Leaves (font_after src i f) (effect_of src i (row f))
effect-row src (Word w num) f = leaves_word w num f
effect-row src (Text p n) f = named-row f p (part src p n)
effect-row src Closing f = refl
effect-row src Opening f = refl
effect-row src LineBreak f = refl
effect-row src Ignorable f = refl
effect-row src (Unknown p n num) f = refl
effect-row src (Symbol b num) f = refl

-- the loop: what is left, from the present table and font, leads where the whole leads
pub record Loop (src tokens : List ℕ) (count : ℕ) (room₀ : List ℕ) (limit : ℕ) (room ws : List ℕ) (n : ℕ) (font : Row) (held : ℕ) : Type 0 where
  pub state : Fonts
  pub words : n * token_words ≤ length ws
  pub long : length room ≡ length room₀
  pub limited : limit ≡ table_limit font_words (length room₀)
  pub fits : limit * font_words ≤ length room
  pub sound : Sound limit state
  pub same : font ≡ row state.font
  pub size : length state.table ≡ held
  pub laid : room ≡ overlaid (table_words state.table) room₀
  pub left : fonts_from limit (found state) (tokens_all src n ws) ≡ fonts_from limit (found no_fonts) (tokens_all src count tokens)

pub loop-start : (src tokens : List ℕ) (count : ℕ) (room : List ℕ) (limit : ℕ) → count * token_words ≤ length tokens
    → limit ≡ table_limit font_words (length room)
    → Loop src tokens count room limit room tokens count (record { key = 0; place = 0; length = 0 }) 0
unfolding table_words
loop-start src tokens count room limit h e =
    record {
      state = no_fonts;
      words = h;
      long = refl;
      limited = e;
      fits = rw e (limit-within (length room));
      sound = sound-start limit;
      same = refl;
      size = refl;
      laid = refl;
      left = refl;
    }

module _ {src tokens : List ℕ} {count : ℕ} {room₀ : List ℕ} {limit : ℕ} {room ws : List ℕ} {n : ℕ} {font : Row} {held : ℕ}
    (l : Loop src tokens count room₀ limit room ws n font held) where
  ended : (x : Found Fonts) → x ≡ fonts_from limit (found no_fonts) (tokens_all src count tokens)
      → table_of x ≡ fonts (table_limit font_words (length room₀)) (tokens_all src count tokens)
  unfolding fonts
  ended x e = rw (← l.limited) (ap table_of e)

  stopped : (q : Refusal) (ts : List Token) (room' : List ℕ) → fonts_from limit (refused q) ts ≡ fonts_from limit (found no_fonts) (tokens_all src count tokens)
      → ReadFonts (fonts (table_limit font_words (length room₀)) (tokens_all src count tokens)) room₀ (Err q) room'
  stopped q ts room' e =
      let z : refused q ≡ fonts (table_limit font_words (length room₀)) (tokens_all src count tokens) = ended (refused q) (sym (fonts-refused limit q ts) ∙ e) in
      rw (← z) refl

  -- no token is left
  pub loop-end : (0 < n → length ws < token_words) → ReadFonts (fonts (table_limit font_words (length room₀)) (tokens_all src count tokens)) room₀ (Ok held) room
  unfolding fonts_from
  loop-end f =
      let h : n ≤ 0 = left_none token_words n ws l.words f in
      let e : found l.state ≡ fonts_from limit (found no_fonts) (tokens_all src count tokens) = rw (tokens_none src n ws h) at l.left in
      let z : found l.state.table ≡ fonts (table_limit font_words (length room₀)) (tokens_all src count tokens) = ended (found l.state) e in
      rw (← z) (ap Ok (sym l.size), l.laid)

  front : InFront (table_words l.state.table) room
  front = rw l.laid (overlaid-front (table_words l.state.table) room₀)

  -- what a store asks
  pub loop-ready : (held ≤ limit) × (limit ≤ 256) × (limit * font_words ≤ length room) × Ascends held room
  loop-ready = (
    let k : length l.state.table ≤ limit = l.sound.few in let e : length l.state.table ≡ held = l.size in omega arith,
    rw l.limited (limit-256 font_words (length room₀)),
    l.fits,
    table-ascends l.state.table room held l.sound.up front l.size,
  )

  module _ {here more : List ℕ} {k : ℕ} (q : Chunk token_words ws n here more k) {i : Item} (a : i ≡ item_at here) {e : Effect} (b : e ≡ effect_of src i font) where
    effect-here : e ≡ effect_of src i (row l.state.font)
    effect-here = b ∙ ap (effect_of src i) l.same

    turned : fonts_from limit (found_at (slice_at here) (applied limit l.state (font_after src i l.state.font) e)) (tokens_all src k more)
        ≡ fonts_from limit (found no_fonts) (tokens_all src count tokens)
    unfolding fonts_from
    turned =
        let x : fonts_from limit (found_at (slice_at here) (font_token limit (shown_of src (item_at here)) l.state)) (tokens_all src k more)
        ≡ fonts_from limit (found no_fonts) (tokens_all src count tokens) =
        rw (chunk-tokens q src) at l.left in
        let y : font_token limit (shown_of src (item_at here)) l.state ≡ applied limit l.state (font_after src i l.state.font) e =
        ap (λ (j : Item). font_token limit (shown_of src j) l.state) (sym a)
        ∙ effect-token limit src i l.state
        ∙ ap (applied limit l.state (font_after src i l.state.font)) (sym effect-here) in
        ap (λ (z : Fate Fonts). fonts_from limit (found_at (slice_at here) z) (tokens_all src k more)) (sym y) ∙ x

    leaves : Leaves (font_after src i l.state.font) e
    leaves = rw effect-here (effect-row src i l.state.font)

    sound-after : SoundFate limit (applied limit l.state (font_after src i l.state.font) e)
    sound-after = rw (effect-here, ← (effect-token limit src i l.state)) (sound-token limit (shown_of src i) l.state l.sound)

    -- a new current font
    pub loop-set : (g : Row) → e ≡ Set g → Loop src tokens count room₀ limit room more k g held
    loop-set g x =
        record {
          state = record { table = l.state.table; font = font_after src i l.state.font };
          words = chunk-words q l.words;
          long = l.long;
          limited = l.limited;
          fits = l.fits;
          sound = rw x at sound-after;
          same = rw x at leaves;
          size = l.size;
          laid = l.laid;
          left = rw x at turned;
        }

    -- a store was asked, of the font before the token
    module _ (o : Result ℕ Why) (room' : List ℕ) (told : (fs : List Font) (g : Font) → StoredFont limit held font fs g room o room')
        (kept : length room' ≡ length room) where
      answered : WroteFonts (stored limit l.state) room o room'
      answered = told l.state.table l.state.font l.size front l.same

      -- a refusal at the token's slice
      module _ (why : Why) {r : Result ℕ Refusal} (y : r ≡ Err (refusal_at why (slice_at here))) where
        refused-here : fonts_from limit (refused (refusal_at why (slice_at here))) (tokens_all src k more)
            ≡ fonts_from limit (found no_fonts) (tokens_all src count tokens)
            → ReadFonts (fonts (table_limit font_words (length room₀)) (tokens_all src count tokens)) room₀ r room'
        refused-here t = rw y (stopped (refusal_at why (slice_at here)) (tokens_all src k more) room' t)

        pub loop-full : (g : Row) → e ≡ Store g → o ≡ Err why
            → ReadFonts (fonts (table_limit font_words (length room₀)) (tokens_all src count tokens)) room₀ r room'
        loop-full g x u = refused-here (go (stored limit l.state) (rw u at answered) (rw x at turned))
          where
            go : (z : Fate Fonts) → WroteFonts z room (Err why) room'
                → fonts_from limit (found_at (slice_at here) (then_font (font_after src i l.state.font) z)) (tokens_all src k more)
                ≡ fonts_from limit (found no_fonts) (tokens_all src count tokens)
                → fonts_from limit (refused (refusal_at why (slice_at here))) (tokens_all src k more)
                ≡ fonts_from limit (found no_fonts) (tokens_all src count tokens)
            go (becomes s) v t = absurd (ok_err (sym v.0))
            go (fails w) v t = let d : why ≡ w = cc in rw d t

        pub loop-unnumbered : e ≡ Unnumbered → why ≡ unnumbered o
            → ReadFonts (fonts (table_limit font_words (length room₀)) (tokens_all src count tokens)) room₀ r room'
        loop-unnumbered x u = refused-here (go (stored limit l.state) answered (rw x at turned))
          where
            go : (z : Fate Fonts) → WroteFonts z room o room'
                → fonts_from limit (found_at (slice_at here) (then_none z)) (tokens_all src k more)
                ≡ fonts_from limit (found no_fonts) (tokens_all src count tokens)
                → fonts_from limit (refused (refusal_at why (slice_at here))) (tokens_all src k more)
                ≡ fonts_from limit (found no_fonts) (tokens_all src count tokens)
            go (becomes s) v t = let d : why ≡ FontNumber = u ∙ ap unnumbered v.0 in rw d t
            go (fails w) v t = let d : why ≡ w = u ∙ ap unnumbered v in rw d t

      pub loop-store : (g : Row) → e ≡ Store g → (m : ℕ) → o ≡ Ok m → Loop src tokens count room₀ limit room' more k g m
      loop-store g x m y = go (stored limit l.state) refl (rw y at answered) (rw x at turned) (rw x at sound-after)
        where
          go : (z : Fate Fonts) → stored limit l.state ≡ z → WroteFonts z room (Ok m) room'
              → fonts_from limit (found_at (slice_at here) (then_font (font_after src i l.state.font) z)) (tokens_all src k more)
              ≡ fonts_from limit (found no_fonts) (tokens_all src count tokens)
              → SoundFate limit (then_font (font_after src i l.state.font) z)
              → Loop src tokens count room₀ limit room' more k g m
          go (becomes s) v r t u =
              let d : m ≡ length s.table = ok-same m (length s.table) r.0 in
              let w : length (table_words l.state.table) ≤ length (table_words s.table) =
              (let y = stored-longer limit l.state s v in let i = length-table l.state.table in let j = length-table s.table in omega arith) in
              record {
                state = record { table = s.table; font = font_after src i l.state.font };
                words = chunk-words q l.words;
                long = kept ∙ l.long;
                limited = l.limited;
                fits = rw kept l.fits;
                sound = u;
                same = rw x at leaves;
                size = sym d;
                laid = r.1 ∙ ap (overlaid (table_words s.table)) l.laid ∙ overlaid-again (table_words s.table) (table_words l.state.table) room₀ w;
                left = t;
              }
          go (fails w) v r t u = absurd (ok_err r)
