-- The names of a letter's fonts stand in the source, each at its font's place.
--     letter-names   so a name read from the source is the name that the font table gives
-- Assumes nothing.
use mathlib.Core.Path.{◌≡◌, refl, sym, ap, ◌∙◌}
use mathlib.Core.List.{List, [], ◌∷◌}
use mathlib.Core.Bool.{Bool, true, false, cond, ◌||◌}
use Prim.Native.Nat.{ℕ, zero, suc, ◌≤◌}
use native.Mathlib.Omega.{arith}
use borrow.Author.Tests.{eqb-true}
use lib.ListN.{length, take, drop}
use lib.Seq.{length-take-le, take-take}
use lib.Dec.{eqb, ltb}
use Rattle.answers.specs.declared.Why.TheVariants.{FontRoom}
use Rattle.answers.specs.Answers.{Found, found, refused, Fate, becomes, fails, found_at}
use Rattle.classes.specs.declared.Class.TheVariants.{Semicolon}
use Rattle.classes.specs.Bytes.{in_class, grown, body as body_length}
use Rattle.rooms.specs.Streams.{Stream, end, stop, ◌▸◌, items, answer}
use Rattle.rooms.specs.Rooms.{table_limit}
use Rattle.rooms.proofs.Streams.{Each}
use Rattle.tokens.specs.Tokens.{Shown, Token, token, slice_of, shown_in, shown_by}
use Rattle.controls.proofs.Places.{Stands}
use Rattle.cutter.specs.Cutting.{token_stream}
use Rattle.cutter.proofs.Places.{Placed, stream-places}
use Rattle.tokens.specs.Items.{part}
use Rattle.fonts.specs.Rows.{Font, Fonts, no_fonts, inserted, has_key, stored, font_words}
use Rattle.fonts.specs.Fonts.{named, rekeyed, font_word, font_token, next_font}
use Rattle.fonts.specs.Rows.{table_of}
use Rattle.fonts.specs.Fonts.{fonts_from, fonts}
use Rattle.colours.specs.Colours.{colours, colour_words}
use Rattle.walk.specs.declared.Aim.{Aim}
use Rattle.walk.specs.declared.Aim.TheVariants.{Nothing, Hide, Fonts as ReadFonts, Colours as ReadColours}
use Rattle.walk.specs.Walk.{aim, extent, Step, kept, hidden, font_table, colour_table, entered, step_by, passed_by, walk_from, walk}
use Rattle.header.specs.Entering.{Tables, with_fonts, with_colours, read_step}
use Rattle.header.specs.Header.{no_tables, next_step, tables_from, tables}
use Rattle.readings.specs.declared.Reading.{Reading}
use Rattle.blocks.specs.Pages.{Piece}
use Rattle.parser.specs.Parsing.{Letter, letter_from}
use Rattle.veil.specs.Said.{name_in, names_in, said_by}
use Rattle.veil.proofs.Steps.{laid, finished, stepped, first, own_name, own_names, say_of}
use Rattle.answers.specs.declared.Refusal.{Refusal}
use Rattle.std.specs.Prelude.{Result, Ok, Err, Option, Some, None}

module _ (src : List ℕ) where
  -- ---- tokens: the bytes of a text stand at its place

  abbrev TextAt : Shown → Type 0
  TextAt (Shown.text p bs) = part src p (length bs) ≡ bs
  TextAt Shown.opening = Unit {0}
  TextAt Shown.closing = Unit {0}
  TextAt Shown.line_break = Unit {0}
  TextAt Shown.ignorable = Unit {0}
  TextAt (Shown.word w num) = Unit {0}
  TextAt (Shown.unknown p bs num) = Unit {0}
  TextAt (Shown.symbol b num) = Unit {0}

  abbrev TextsAt : List Token → Type 0
  TextsAt [] = Unit {0}
  TextsAt (t ∷ ts) = TextAt (shown_in t) × TextsAt ts

  text_at : (t : Shown) → Stands src 0 t → TextAt t
  unfolding part
  text_at (Shown.text p bs) a = let e : p ≡ a.from = omega (arith, a.place) in rw e a.same
  text_at Shown.opening a = tt
  text_at Shown.closing a = tt
  text_at Shown.line_break a = tt
  text_at Shown.ignorable a = tt
  text_at (Shown.word w num) a = tt
  text_at (Shown.unknown p bs num) a = tt
  text_at (Shown.symbol b num) a = tt

  texts-at : (s : Stream Refusal Token) → Each (Placed src) s → TextsAt (items s)
  unfolding items
  texts-at end h = tt
  texts-at (stop r) h = tt
  texts-at (t ▸ s) h = (text_at (shown_in t) h.0.0, texts-at s h.1)

  -- ---- the tables that the walk reads

  take_at : (n : ℕ) (ts : List Token) → TextsAt ts → TextsAt (take n ts)
  take_at zero ts h = tt
  take_at (suc n) [] h = tt
  take_at (suc n) (t ∷ ts) h = (h.0, take_at n ts h.1)

  abbrev StepAt : Step → Type 0
  StepAt (kept t) = Unit {0}
  StepAt hidden = Unit {0}
  StepAt (font_table late ts) = TextsAt ts
  StepAt (colour_table late ts) = Unit {0}

  abbrev StepsAt : List Step → Type 0
  StepsAt [] = Unit {0}
  StepsAt (s ∷ ss) = StepAt s × StepsAt ss

  entered_at : (a : Aim) (t : Token) (ts : List Token) → TextsAt ts → StepAt (entered a t ts)
  entered_at Nothing t ts h = tt
  entered_at Hide t ts h = tt
  entered_at (ReadFonts late) t ts h = take_at (extent 1 (shown_by ts)) ts h
  entered_at (ReadColours late) t ts h = tt

  step-at : (x : Shown) (t : Token) (ts : List Token) → TextsAt ts → StepAt (step_by x t ts)
  step-at Shown.opening t ts h = entered_at (aim (shown_by ts)) t ts h
  step-at Shown.closing t ts h = tt
  step-at Shown.line_break t ts h = tt
  step-at Shown.ignorable t ts h = tt
  step-at (Shown.text p bs) t ts h = tt
  step-at (Shown.word w num) t ts h = tt
  step-at (Shown.unknown p bs num) t ts h = tt
  step-at (Shown.symbol b num) t ts h = tt

  walk_at : (w : ℕ) (ts : List Token) → TextsAt ts → StepsAt (walk_from w ts)
  unfolding walk_from
  walk_at w [] h = tt
  walk_at zero (t ∷ ts) h = (step-at (shown_in t) t ts h.1, walk_at (passed_by (shown_in t) (shown_by ts)) ts h.1)
  walk_at (suc w) (t ∷ ts) h = walk_at w ts h.1

  -- ---- a font table

  abbrev NameAt : Font → Type 0
  NameAt f = part src f.place (length f.name) ≡ f.name

  abbrev NamesAt : List Font → Type 0
  NamesAt [] = Unit {0}
  NamesAt (f ∷ fs) = NameAt f × NamesAt fs

  abbrev FontsAt : Found Fonts → Type 0
  FontsAt (found s) = NamesAt s.table × NameAt s.font
  FontsAt (refused r) = Unit {0}

  abbrev FateAt : Fate Fonts → Type 0
  FateAt (becomes s) = NamesAt s.table × NameAt s.font
  FateAt (fails why) = Unit {0}

  found-at : (p : ℕ) (x : Fate Fonts) → FateAt x → FontsAt (found_at p x)
  found-at p (becomes s) h = h
  found-at p (fails why) h = tt

  none-at : FontsAt (found no_fonts)
  unfolding part
  none-at = (tt, refl)

  inserted-at : (f : Font) (fs : List Font) → NameAt f → NamesAt fs → NamesAt (inserted f fs)
  unfolding inserted
  inserted-at f [] h k = (h, tt)
  inserted-at f (g ∷ gs) h k = go (ltb g.key f.key) (eqb g.key f.key) (inserted-at f gs h k.1)
    where
      go : (x y : Bool) → NamesAt (inserted f gs) → NamesAt (cond x (g ∷ inserted f gs) (cond y (f ∷ gs) (f ∷ g ∷ gs)))
      go true y i = (k.0, i)
      go false true i = (h, k.1)
      go false false i = (h, k)

  stored_at : (limit : ℕ) (s : Fonts) → FontsAt (found s) → FateAt (stored limit s)
  unfolding stored
  stored_at limit s h = go (has_key s.font.key s.table || ltb (length s.table) limit)
    where
      go : (x : Bool)
          → FateAt (cond x (becomes (record { table = inserted s.font s.table; font = s.font })) (fails FontRoom))
      go true = (inserted-at s.font s.table h.1 h.0, h.1)
      go false = tt

  rekeyed-at : (num : Option ℕ) (x : Fate Fonts) → FateAt x → FateAt (rekeyed num x)
  rekeyed-at None (becomes s) h = tt
  rekeyed-at (Some v) (becomes s) h = h
  rekeyed-at None (fails why) h = tt
  rekeyed-at (Some v) (fails why) h = tt

  font-word-at : (limit w : ℕ) (num : Option ℕ) (s : Fonts) → FontsAt (found s) → FateAt (font_word limit w num s)
  unfolding font_word
  font-word-at limit w num s h = go (eqb w 9)
    where
      go : (x : Bool) → FateAt (cond x (rekeyed num (stored limit s)) (becomes s))
      go true = rekeyed-at num (stored limit s) (stored_at limit s h)
      go false = h

  body-le : (f : ℕ → Bool) (bs : List ℕ) → body_length f bs ≤ length bs
  unfolding body_length
  body-le f [] = omega arith
  body-le f (b ∷ bs) = go (f b) (body_length f bs) (body-le f bs)
    where
      go : (x : Bool) (n : ℕ) → n ≤ length bs → grown x n ≤ suc (length bs)
      go true zero h = omega arith
      go false zero h = omega arith
      go true (suc n) h = omega arith
      go false (suc n) h = omega arith

  -- the front of bytes that stand at a place stands there
  part-front : (p n : ℕ) (bs : List ℕ) → n ≤ length bs → part src p (length bs) ≡ bs
      → part src p (length (take n bs)) ≡ take n bs
  unfolding part
  part-front p n bs h e =
      rw (length-take-le n bs h) (sym (take-take n (length bs) (drop p src) h) ∙ ap (take n) e)

  named-at : (f : Font) (p : ℕ) (bs : List ℕ) → part src p (length bs) ≡ bs → NameAt (named f p bs)
  unfolding named
  named-at f p bs e = go (eqb (body_length (in_class Semicolon) bs) 0) refl
    where
      empty : (m : ℕ) → m ≡ 0 → part src 0 (length (take m bs)) ≡ take m bs
      empty m e = rw e (unfold part in refl)

      go : (x : Bool) → eqb (body_length (in_class Semicolon) bs) 0 ≡ x
          → part src (cond x 0 p) (length (take (body_length (in_class Semicolon) bs) bs)) ≡ take (body_length (in_class Semicolon) bs) bs
      go true q = empty (body_length (in_class Semicolon) bs) (eqb-true (body_length (in_class Semicolon) bs) 0 q)
      go false q = part-front p (body_length (in_class Semicolon) bs) bs (body-le (in_class Semicolon) bs) e

  font-token-at : (limit : ℕ) (t : Shown) (s : Fonts) → TextAt t → FontsAt (found s) → FateAt (font_token limit t s)
  unfolding font_token
  font-token-at limit (Shown.word w num) s e h = font-word-at limit w num s h
  font-token-at limit (Shown.text p bs) s e h = (h.0, named-at s.font p bs e)
  font-token-at limit Shown.closing s e h = stored_at limit s h
  font-token-at limit Shown.opening s e h = h
  font-token-at limit Shown.line_break s e h = h
  font-token-at limit Shown.ignorable s e h = h
  font-token-at limit (Shown.unknown p bs num) s e h = h
  font-token-at limit (Shown.symbol b num) s e h = h

  next-font-at : (limit : ℕ) (x : Found Fonts) (t : Token) → TextAt (shown_in t) → FontsAt x → FontsAt (next_font limit x t)
  next-font-at limit (found s) t e h = found-at (slice_of t) (font_token limit (shown_in t) s) (font-token-at limit (shown_in t) s e h)
  next-font-at limit (refused r) t e h = tt

  fonts-from-at : (limit : ℕ) (x : Found Fonts) (ts : List Token) → TextsAt ts → FontsAt x → FontsAt (fonts_from limit x ts)
  unfolding fonts_from
  fonts-from-at limit x [] e h = h
  fonts-from-at limit x (t ∷ ts) e h = fonts-from-at limit (next_font limit x t) ts e.1 (next-font-at limit x t e.0 h)

  -- ---- all tables

  abbrev TablesAt : Found Tables → Type 0
  TablesAt (found h) = NamesAt h.fonts
  TablesAt (refused r) = Unit {0}

  with-fonts-at : (h : Tables) (x : Found Fonts) → FontsAt x → TablesAt (with_fonts h (table_of x))
  with-fonts-at h (found s) k = k.0
  with-fonts-at h (refused r) k = tt

  with-colours-at : (h : Tables) (x : Found (List ℕ)) → NamesAt h.fonts → TablesAt (with_colours h x)
  with-colours-at h (found cs) k = k
  with-colours-at h (refused r) k = tt

  module _ (f c : ℕ) where
    read_at : (s : Step) (h : Tables) → StepAt s → NamesAt h.fonts → TablesAt (read_step f c s h)
    unfolding fonts
    read_at (kept t) h e k = k
    read_at hidden h e k = k
    read_at (font_table true ts) h e k = tt
    read_at (font_table false ts) h e k =
        with-fonts-at h (fonts_from f (found no_fonts) ts) (fonts-from-at f (found no_fonts) ts e none-at)
    read_at (colour_table true ts) h e k = tt
    read_at (colour_table false ts) h e k = with-colours-at h (colours c ts) k

    next-at : (x : Found Tables) (s : Step) → StepAt s → TablesAt x → TablesAt (next_step f c x s)
    next-at (found h) s e k = read_at s h e k
    next-at (refused r) s e k = tt

    tables-from-at : (x : Found Tables) (ss : List Step) → StepsAt ss → TablesAt x → TablesAt (tables_from f c x ss)
    unfolding tables_from
    tables-from-at x [] e k = k
    tables-from-at x (s ∷ ss) e k = tables-from-at (next_step f c x s) ss e.1 (next-at x s e.0 k)

    tables-at : (ss : List Step) → StepsAt ss → TablesAt (tables f c ss)
    tables-at ss e = tables-from-at (found no_tables) ss e tt

  -- ---- the letter

  abbrev LetterAt : Found Letter → Type 0
  LetterAt (found l) = NamesAt l.tables.fonts
  LetterAt (refused r) = Unit {0}

  ended_at : (h : Tables) (s : Stream Refusal Piece) (o : Result ℕ Refusal) → NamesAt h.fonts → LetterAt (letter_from h s o)
  ended_at h s (Ok n) k = k
  ended_at h s (Err r) k = tt

  module _ (rd : Reading) (f c b t : ℕ) where
    finished-at : (ss : List Step) (x : Found Tables) → TablesAt x → LetterAt (finished rd b t ss x)
    finished-at ss (found h) k = ended_at h (laid rd b t ss) (answer 0 (laid rd b t ss)) k
    finished-at ss (refused r) k = tt

    stepped-at : (ss : List Step) → StepsAt ss → LetterAt (stepped rd f c b t ss)
    stepped-at ss e =
        finished-at ss (tables (table_limit font_words f) (table_limit colour_words c) ss) (tables-at (table_limit font_words f) (table_limit colour_words c) ss e)

    first-at : (ss : List Step) → StepsAt ss → LetterAt (first rd f c b t ss)
    first-at [] e = tt
    first-at (kept (token p n Shown.opening) ∷ ss) e = stepped-at (kept (token p n Shown.opening) ∷ ss) e
    first-at (kept (token p n Shown.closing) ∷ ss) e = tt
    first-at (kept (token p n Shown.line_break) ∷ ss) e = tt
    first-at (kept (token p n Shown.ignorable) ∷ ss) e = tt
    first-at (kept (token p n (Shown.text q bs)) ∷ ss) e = tt
    first-at (kept (token p n (Shown.word w num)) ∷ ss) e = tt
    first-at (kept (token p n (Shown.unknown q bs num)) ∷ ss) e = tt
    first-at (kept (token p n (Shown.symbol b num)) ∷ ss) e = tt
    first-at (hidden ∷ ss) e = stepped-at (hidden ∷ ss) e
    first-at (font_table late ts ∷ ss) e = stepped-at (font_table late ts ∷ ss) e
    first-at (colour_table late ts ∷ ss) e = stepped-at (colour_table late ts ∷ ss) e

  -- a name at its font's place is the font's own
  name-own : (f : Font) → NameAt f → name_in src f ≡ own_name f
  name-own f h = ap (λ (n : List ℕ). record { key = f.key; name = n }) h

  names-own : (fs : List Font) → NamesAt fs → names_in src fs ≡ own_names fs
  unfolding names_in own_names
  names-own [] h = refl
  names-own (f ∷ fs) h = rw (name-own f h.0, names-own fs h.1)

  said-own : (x : Found Letter) → LetterAt x → said_by src x ≡ say_of x
  said-own (found l) h = rw (names-own l.tables.fonts h)
  said-own (refused r) h = refl

  -- what a source's steps say, its names read from the source or told by their bytes
  pub letter-names : (rd : Reading) (f c b t : ℕ)
      → let x : Found Letter = first rd f c b t (walk (items (token_stream rd src))) in said_by src x ≡ say_of x
  letter-names rd f c b t =
      let ss : List Step = walk (items (token_stream rd src)) in
      said-own (first rd f c b t ss) (first-at rd f c b t ss (walk_at 0 (items (token_stream rd src)) (texts-at (token_stream rd src) (stream-places rd src))))
