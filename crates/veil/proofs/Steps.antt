-- What a letter says is read off the steps of the walk, and no place is looked at but that a refusal has one.
--     begun-steps   the letter of tokens is that of the steps that the walk makes of them
--     say-bare      it says the same without the places
-- Assumes nothing.
use mathlib.Core.Path.{◌≡◌, refl, sym, ap, ◌∙◌}
use mathlib.Core.List.{List, [], ◌∷◌}
use mathlib.Core.Bool.{Bool, true, false, cond, ◌||◌, ◌&&◌}
use Prim.Native.Nat.{ℕ, ◌+◌, ◌-◌}
use lib.ListN.{length, take}
use lib.Dec.{eqb, ltb}
use Rattle.answers.specs.declared.Why.TheVariants.{NoTokens, FirstToken, TableLineBreak, FontRoom, BlockRoom, TextRoom}
use Rattle.answers.specs.Answers.{refusal, refusal_at, Found, found, refused, Fate, becomes, fails, found_at}
use Rattle.answers.proofs.Refusals.{at_zero}
use Rattle.classes.specs.declared.Class.TheVariants.{Semicolon}
use Rattle.classes.specs.Bytes.{in_class, body as body_length}
use Rattle.rooms.specs.Streams.{Stream, end, stop, ◌▸◌, each, items, ended, answer}
use Rattle.rooms.specs.Rooms.{table_limit, capacity}
use Rattle.tokens.specs.Tokens.{Shown, Token, token, slice_of, shown_in, shown_by}
use Rattle.fonts.specs.Rows.{Font, Fonts, no_fonts, has_key, inserted, stored, font_words}
use Rattle.fonts.specs.Fonts.{named, rekeyed, font_word, font_token, next_font}
use Rattle.fonts.specs.Rows.{table_of}
use Rattle.fonts.specs.Fonts.{fonts_from, fonts}
use Rattle.colours.specs.Colours.{Colours, colour_token, next_colour, colours_from, table_of as colour_table_of, no_colours, colours, colour_words}
use Rattle.walk.specs.declared.Aim.{Aim}
use Rattle.walk.specs.declared.Aim.TheVariants.{Nothing, Hide, Fonts as ReadFonts, Colours as ReadColours}
use Rattle.walk.specs.Walk.{aim, is_break, table_word, Step, kept, hidden, font_table, colour_table, entered, passed_by, walk_from, walk}
use Rattle.header.specs.Entering.{Tables, with_fonts, with_colours, read_step}
use Rattle.header.specs.Header.{no_tables, next_step, tables_from, tables}
use Rattle.readings.specs.declared.Reading.{Reading}
use Rattle.blocks.specs.Pages.{Piece, blocks, text_of, block_words, text_capacity, Last, none, last, starts, roomy}
use Rattle.machine.specs.Machine.{at, start}
use Rattle.machine.proofs.Places.{unplaced, unplaced_all, bare_refusal, bare as unstopped, start-unplaced}
use Rattle.runs.specs.Runs.{rows, steps_by}
use Rattle.deeds.specs.Deeds.{token_deed}
use Rattle.body.specs.Body.{act_of, acts, body}
use Rattle.parser.specs.Parsing.{begun, Sizes, Letter, letter_from, placed, bodied, headed, walked}
use Rattle.veil.specs.Said.{Named, Said, refuses, says}
use Rattle.veil.proofs.Bare.{bare, bare_all, seen, bare_token, bare_tokens, bare_step, bare_steps}
use Rattle.answers.specs.declared.Refusal.{Refusal}
use Rattle.std.specs.Prelude.{Result, Ok, Err, Option, Some, None}

-- ---- a letter by its steps, in rooms for so many fonts and colours, and of b words and t bytes

module _ (rd : Reading) (b t : ℕ) (ss : List Step) where
  abbrev pub laid : Stream Refusal Piece
  laid = roomy (capacity block_words b) (text_capacity t) none (body rd ss)

  abbrev pub finished : Found Tables → Found Letter
  finished (found h) = letter_from h laid (answer 0 laid)
  finished (refused r) = refused r

module _ (rd : Reading) (f c b t : ℕ) where
  abbrev pub stepped : List Step → Found Letter
  stepped ss = finished rd b t ss (tables (table_limit font_words f) (table_limit colour_words c) ss)

  -- the look at the first token, at the first step
  abbrev pub first : List Step → Found Letter
  first [] = refused (refusal NoTokens)
  first (kept (token p n Shown.opening) ∷ ss) = stepped (kept (token p n Shown.opening) ∷ ss)
  first (kept (token p n Shown.closing) ∷ ss) = refused (refusal_at FirstToken p)
  first (kept (token p n Shown.line_break) ∷ ss) = refused (refusal_at FirstToken p)
  first (kept (token p n Shown.ignorable) ∷ ss) = refused (refusal_at FirstToken p)
  first (kept (token p n (Shown.text q bs)) ∷ ss) = refused (refusal_at FirstToken p)
  first (kept (token p n (Shown.word w num)) ∷ ss) = refused (refusal_at FirstToken p)
  first (kept (token p n (Shown.unknown q bs num)) ∷ ss) = refused (refusal_at FirstToken p)
  first (kept (token p n (Shown.symbol b num)) ∷ ss) = refused (refusal_at FirstToken p)
  first (hidden ∷ ss) = stepped (hidden ∷ ss)
  first (font_table late ts ∷ ss) = stepped (font_table late ts ∷ ss)
  first (colour_table late ts ∷ ss) = stepped (colour_table late ts ∷ ss)

  first_opening : (a : Aim) (p n : ℕ) (ts : List Token) (ss : List Step)
      → first (entered a (token p n Shown.opening) ts ∷ ss) ≡ stepped (entered a (token p n Shown.opening) ts ∷ ss)
  first_opening Nothing p n ts ss = refl
  first_opening Hide p n ts ss = refl
  first_opening (ReadFonts late) p n ts ss = refl
  first_opening (ReadColours late) p n ts ss = refl

headed-steps : (rd : Reading) (b t : ℕ) (ts : List Token) (x : Found Tables) → headed rd b t ts x ≡ finished rd b t (walk ts) x
unfolding bodied placed
headed-steps rd b t ts (found h) = refl
headed-steps rd b t ts (refused r) = refl

pub begun-steps : (rd : Reading) (z : Sizes) (ts : List Token)
    → walked rd z (begun ts) ≡ first rd z.fonts z.colours z.blocks z.text (walk ts)
unfolding walk_from
begun-steps rd z [] = refl
begun-steps rd z (token p n Shown.opening ∷ ts) =
    let all : List Token = token p n Shown.opening ∷ ts in
    headed-steps rd z.blocks z.text all (tables (table_limit font_words z.fonts) (table_limit colour_words z.colours) (walk all))
    ∙ sym (first_opening rd z.fonts z.colours z.blocks z.text (aim (shown_by ts)) p n ts (walk_from (passed_by Shown.opening (shown_by ts)) ts))
begun-steps rd z (token p n Shown.closing ∷ ts) = refl
begun-steps rd z (token p n Shown.line_break ∷ ts) = refl
begun-steps rd z (token p n Shown.ignorable ∷ ts) = refl
begun-steps rd z (token p n (Shown.text q bs) ∷ ts) = refl
begun-steps rd z (token p n (Shown.word w num) ∷ ts) = refl
begun-steps rd z (token p n (Shown.unknown q bs num) ∷ ts) = refl
begun-steps rd z (token p n (Shown.symbol b num) ∷ ts) = refl

-- ---- the body

token-bare : (rd : Reading) (t : Shown) → token_deed rd (bare t) ≡ token_deed rd t
token-bare rd Shown.opening = refl
token-bare rd Shown.closing = refl
token-bare rd Shown.line_break = refl
token-bare rd Shown.ignorable = refl
token-bare rd (Shown.text p bs) = refl
token-bare rd (Shown.word w num) = refl
token-bare rd (Shown.unknown p bs num) = refl
token-bare rd (Shown.symbol b num) = refl

act-bare : (rd : Reading) (s : Step) → act_of rd (bare_step s) ≡ unplaced (act_of rd s)
act-bare rd (kept t) = ap (at 0) (token-bare rd (shown_in t))
act-bare rd hidden = refl
act-bare rd (font_table late ts) = refl
act-bare rd (colour_table late ts) = refl

acts-bare : (rd : Reading) (ss : List Step) → acts rd (bare_steps ss) ≡ unplaced_all (acts rd ss)
unfolding acts bare_steps
acts-bare rd [] = refl
acts-bare rd (s ∷ ss) = rw (act-bare rd s, acts-bare rd ss)

-- the body says the same, and where it stops it says the same refusal
body-bare : (rd : Reading) (ss : List Step) → body rd (bare_steps ss) ≡ unstopped (body rd ss)
unfolding body
body-bare rd ss = ap (start rows (steps_by rd)) (acts-bare rd ss) ∙ start-unplaced rows (steps_by rd) (acts rd ss)

items-bare : (s : Stream Refusal Piece) → items (unstopped s) ≡ items s
unfolding items each
items-bare end = refl
items-bare (stop r) = refl
items-bare (x ▸ s) = ap (λ (l : List Piece). x ∷ l) (items-bare s)

-- where there is no room, the refusal has no place
roomy-bare : (s : Stream Refusal Piece) (b t : ℕ) (l : Last) → roomy b t l (unstopped s) ≡ unstopped (roomy b t l s)
unfolding roomy each
roomy-bare end b t l = refl
roomy-bare (stop r) b t l = refl
roomy-bare (x ▸ s) b t l =
    go (starts l x.style && eqb b 0) (ltb t (length x.bytes)) _ _ (roomy-bare s (cond (starts l x.style) (b - 1) b) (t - length x.bytes) (last x.style))
  where
    go : (y z : Bool) (more more' : Stream Refusal Piece) → more' ≡ unstopped more
        → cond y (stop (refusal BlockRoom)) (cond z (stop (refusal TextRoom)) (x ▸ more')) ≡ unstopped (cond y (stop (refusal BlockRoom)) (cond z (stop (refusal TextRoom)) (x ▸ more)))
    go true z more more' e = refl
    go false true more more' e = refl
    go false false more more' e = ap (λ (r : Stream Refusal Piece). x ▸ r) e

-- an answer without its place
abbrev bare_outcome : Result ℕ Refusal → Result ℕ Refusal
bare_outcome (Ok n) = Ok n
bare_outcome (Err r) = Err (bare_refusal r)

answer-bare : (s : Stream Refusal Piece) (n : ℕ) → answer n (unstopped s) ≡ bare_outcome (answer n s)
unfolding each ended
answer-bare end n = refl
answer-bare (stop r) n = refl
answer-bare (x ▸ s) n = answer-bare s (n + 1)

-- ---- the tables

abbrev bare_font : Font → Font
bare_font f = record { key = f.key; place = 0; name = f.name }

bare_fonts : List Font → List Font
bare_fonts [] = []
bare_fonts (f ∷ fs) = bare_font f ∷ bare_fonts fs

abbrev bare_state : Fonts → Fonts
bare_state s = record { table = bare_fonts s.table; font = bare_font s.font }

abbrev bare_found : Found Fonts → Found Fonts
bare_found (found s) = found (bare_state s)
bare_found (refused r) = refused (bare_refusal r)

abbrev bare_fate : Fate Fonts → Fate Fonts
bare_fate (becomes s) = becomes (bare_state s)
bare_fate (fails why) = fails why

length-bare : (fs : List Font) → length (bare_fonts fs) ≡ length fs
unfolding bare_fonts
length-bare [] = refl
length-bare (f ∷ fs) = rw (length-bare fs)

key-bare : (k : ℕ) (fs : List Font) → has_key k (bare_fonts fs) ≡ has_key k fs
unfolding has_key bare_fonts
key-bare k [] = refl
key-bare k (f ∷ fs) = ap (λ (x : Bool). eqb f.key k || x) (key-bare k fs)

inserted-bare : (f : Font) (fs : List Font) → inserted (bare_font f) (bare_fonts fs) ≡ bare_fonts (inserted f fs)
unfolding inserted bare_fonts
inserted-bare f [] = refl
inserted-bare f (g ∷ gs) = go (ltb g.key f.key) (eqb g.key f.key) (inserted-bare f gs)
  where
    go : (x y : Bool) → inserted (bare_font f) (bare_fonts gs) ≡ bare_fonts (inserted f gs)
        → cond x (bare_font g ∷ inserted (bare_font f) (bare_fonts gs)) (cond y (bare_font f ∷ bare_fonts gs) (bare_font f ∷ bare_font g ∷ bare_fonts gs))
        ≡ bare_fonts (cond x (g ∷ inserted f gs) (cond y (f ∷ gs) (f ∷ g ∷ gs)))
    go true y e = ap (λ (l : List Font). bare_font g ∷ l) e
    go false true e = refl
    go false false e = refl

stored-bare : (limit : ℕ) (s : Fonts) → stored limit (bare_state s) ≡ bare_fate (stored limit s)
unfolding stored
stored-bare limit s =
    rw (key-bare s.font.key s.table, length-bare s.table, inserted-bare s.font s.table)
    (go (has_key s.font.key s.table || ltb (length s.table) limit))
  where
    go : (x : Bool)
        → cond x (becomes (record { table = bare_fonts (inserted s.font s.table); font = bare_font s.font })) (fails FontRoom)
        ≡ bare_fate (cond x (becomes (record {
          table =
              inserted s.font s.table;
          font = s.font;
        })) (fails FontRoom))
    go true = refl
    go false = refl

rekeyed-bare : (num : Option ℕ) (x : Fate Fonts) → rekeyed num (bare_fate x) ≡ bare_fate (rekeyed num x)
rekeyed-bare None (becomes s) = refl
rekeyed-bare (Some v) (becomes s) = refl
rekeyed-bare None (fails why) = refl
rekeyed-bare (Some v) (fails why) = refl

font-word-bare : (limit w : ℕ) (num : Option ℕ) (s : Fonts)
    → font_word limit w num (bare_state s) ≡ bare_fate (font_word limit w num s)
unfolding font_word
font-word-bare limit w num s = go (eqb w 9)
  where
    go : (x : Bool)
        → cond x (rekeyed num (stored limit (bare_state s))) (becomes (bare_state s)) ≡ bare_fate (cond x (rekeyed num (stored limit s)) (becomes s))
    go true = ap (rekeyed num) (stored-bare limit s) ∙ rekeyed-bare num (stored limit s)
    go false = refl

named-bare : (f : Font) (p : ℕ) (bs : List ℕ) → named (bare_font f) 0 bs ≡ bare_font (named f p bs)
unfolding named
named-bare f p bs = go (eqb (body_length (in_class Semicolon) bs) 0)
  where
    go : (x : Bool)
        → ◌≡◌ {A = Font} (record { key = f.key; place = cond x 0 0; name = take (body_length (in_class Semicolon) bs) bs })
        (record { key = f.key; place = 0; name = take (body_length (in_class Semicolon) bs) bs })
    go true = refl
    go false = refl

font-token-bare : (limit : ℕ) (t : Shown) (s : Fonts) → font_token limit (bare t) (bare_state s) ≡ bare_fate (font_token limit t s)
unfolding font_token
font-token-bare limit (Shown.word w num) s = font-word-bare limit w num s
font-token-bare limit (Shown.text p bs) s =
    ap (λ (f : Font). becomes (record { table = bare_fonts s.table; font = f })) (named-bare s.font p bs)
font-token-bare limit Shown.closing s = stored-bare limit s
font-token-bare limit Shown.opening s = refl
font-token-bare limit Shown.line_break s = refl
font-token-bare limit Shown.ignorable s = refl
font-token-bare limit (Shown.unknown p bs num) s = refl
font-token-bare limit (Shown.symbol b num) s = refl

found-bare : (p : ℕ) (x : Fate Fonts) → found_at 0 (bare_fate x) ≡ bare_found (found_at p x)
found-bare p (becomes s) = refl
found-bare p (fails why) = ap refused (at_zero why)

next-font-bare : (limit : ℕ) (x : Found Fonts) (t : Token)
    → next_font limit (bare_found x) (bare_token t) ≡ bare_found (next_font limit x t)
next-font-bare limit (found s) t = ap (found_at 0) (font-token-bare limit (shown_in t) s) ∙ found-bare (slice_of t) (font_token limit (shown_in t) s)
next-font-bare limit (refused r) t = refl

fonts-from-bare : (limit : ℕ) (x : Found Fonts) (ts : List Token)
    → fonts_from limit (bare_found x) (bare_tokens ts) ≡ bare_found (fonts_from limit x ts)
unfolding fonts_from bare_all shown_by seen
fonts-from-bare limit x [] = refl
fonts-from-bare limit x (t ∷ ts) =
    ap (λ (y : Found Fonts). fonts_from limit y (bare_tokens ts)) (next-font-bare limit x t) ∙ fonts-from-bare limit (next_font limit x t) ts

abbrev bare_table : Found (List Font) → Found (List Font)
bare_table (found fs) = found (bare_fonts fs)
bare_table (refused r) = refused (bare_refusal r)

table-bare : (x : Found Fonts) → table_of (bare_found x) ≡ bare_table (table_of x)
table-bare (found s) = refl
table-bare (refused r) = refl

no-fonts-bare : found no_fonts ≡ bare_found (found no_fonts)
unfolding bare_fonts
no-fonts-bare = refl

fonts-bare : (limit : ℕ) (ts : List Token) → fonts limit (bare_tokens ts) ≡ bare_table (fonts limit ts)
unfolding fonts
fonts-bare limit ts =
    ap (λ (x : Found Fonts). table_of (fonts_from limit x (bare_tokens ts))) no-fonts-bare
    ∙ ap table_of (fonts-from-bare limit (found no_fonts) ts)
    ∙ table-bare (fonts_from limit (found no_fonts) ts)

colour-token-bare : (limit : ℕ) (t : Shown) (s : Colours) → colour_token limit (bare t) s ≡ colour_token limit t s
unfolding colour_token
colour-token-bare limit (Shown.word w num) s = refl
colour-token-bare limit (Shown.text p bs) s = refl
colour-token-bare limit Shown.closing s = refl
colour-token-bare limit Shown.opening s = refl
colour-token-bare limit Shown.line_break s = refl
colour-token-bare limit Shown.ignorable s = refl
colour-token-bare limit (Shown.unknown p bs num) s = refl
colour-token-bare limit (Shown.symbol b num) s = refl

abbrev bare_colours : Found Colours → Found Colours
bare_colours (found s) = found s
bare_colours (refused r) = refused (bare_refusal r)

found-colours-bare : (p : ℕ) (x : Fate Colours) → found_at 0 x ≡ bare_colours (found_at p x)
found-colours-bare p (becomes s) = refl
found-colours-bare p (fails why) = ap refused (at_zero why)

next-colour-bare : (limit : ℕ) (x : Found Colours) (t : Token) → next_colour limit (bare_colours x) (bare_token t) ≡ bare_colours (next_colour limit x t)
next-colour-bare limit (found s) t = ap (found_at 0) (colour-token-bare limit (shown_in t) s) ∙ found-colours-bare (slice_of t) (colour_token limit (shown_in t) s)
next-colour-bare limit (refused r) t = refl

colours-from-bare : (limit : ℕ) (x : Found Colours) (ts : List Token)
    → colours_from limit (bare_colours x) (bare_tokens ts) ≡ bare_colours (colours_from limit x ts)
unfolding colours_from bare_all shown_by seen
colours-from-bare limit x [] = refl
colours-from-bare limit x (t ∷ ts) =
    ap (λ (y : Found Colours). colours_from limit y (bare_tokens ts)) (next-colour-bare limit x t) ∙ colours-from-bare limit (next_colour limit x t) ts

abbrev bare_list : Found (List ℕ) → Found (List ℕ)
bare_list (found cs) = found cs
bare_list (refused r) = refused (bare_refusal r)

colour-table-bare : (x : Found Colours) → colour_table_of (bare_colours x) ≡ bare_list (colour_table_of x)
colour-table-bare (found s) = refl
colour-table-bare (refused r) = refl

colours-bare : (limit : ℕ) (ts : List Token) → colours limit (bare_tokens ts) ≡ bare_list (colours limit ts)
unfolding colours
colours-bare limit ts = ap colour_table_of (colours-from-bare limit (found no_colours) ts) ∙ colour-table-bare (colours_from limit (found no_colours) ts)

abbrev bare_tables : Tables → Tables
bare_tables h = record { fonts = bare_fonts h.fonts; colours = h.colours }

abbrev bare_header : Found Tables → Found Tables
bare_header (found h) = found (bare_tables h)
bare_header (refused r) = refused (bare_refusal r)

with-fonts-bare : (h : Tables) (x : Found (List Font)) → with_fonts (bare_tables h) (bare_table x) ≡ bare_header (with_fonts h x)
with-fonts-bare h (found fs) = refl
with-fonts-bare h (refused r) = refl

with-colours-bare : (h : Tables) (x : Found (List ℕ)) → with_colours (bare_tables h) (bare_list x) ≡ bare_header (with_colours h x)
with-colours-bare h (found cs) = refl
with-colours-bare h (refused r) = refl

-- tokens without places have a table's word at 0
word-bare : (ts : List Token) → table_word (bare_tokens ts) ≡ 0
unfolding table_word bare_all shown_by seen
word-bare [] = refl
word-bare (t ∷ ts) = rw (word-bare ts) (go (is_break (bare (shown_in t))))
  where
    go : (x : Bool) → ◌≡◌ {A = ℕ} (cond x 0 0) 0
    go true = refl
    go false = refl

late-bare : (p : ℕ) → p ≡ 0 → refusal_at TableLineBreak p ≡ refusal TableLineBreak
late-bare p e = ap (refusal_at TableLineBreak) e

module _ (f c : ℕ) where
  read-bare : (s : Step) (h : Tables) → read_step f c (bare_step s) (bare_tables h) ≡ bare_header (read_step f c s h)
  read-bare (kept t) h = refl
  read-bare hidden h = refl
  read-bare (font_table true ts) h = ap refused (late-bare (table_word (bare_tokens ts)) (word-bare ts))
  read-bare (font_table false ts) h = ap (with_fonts (bare_tables h)) (fonts-bare f ts) ∙ with-fonts-bare h (fonts f ts)
  read-bare (colour_table true ts) h = ap refused (late-bare (table_word (bare_tokens ts)) (word-bare ts))
  read-bare (colour_table false ts) h = ap (with_colours (bare_tables h)) (colours-bare c ts) ∙ with-colours-bare h (colours c ts)

  next-bare : (x : Found Tables) (s : Step) → next_step f c (bare_header x) (bare_step s) ≡ bare_header (next_step f c x s)
  next-bare (found h) s = read-bare s h
  next-bare (refused r) s = refl

  tables-from-bare : (x : Found Tables) (ss : List Step)
      → tables_from f c (bare_header x) (bare_steps ss) ≡ bare_header (tables_from f c x ss)
  unfolding tables_from bare_steps
  tables-from-bare x [] = refl
  tables-from-bare x (s ∷ ss) =
      ap (λ (y : Found Tables). tables_from f c y (bare_steps ss)) (next-bare x s) ∙ tables-from-bare (next_step f c x s) ss

  no-tables-bare : found no_tables ≡ bare_header (found no_tables)
  unfolding bare_fonts
  no-tables-bare = refl

  tables-bare : (ss : List Step) → tables f c (bare_steps ss) ≡ bare_header (tables f c ss)
  tables-bare ss =
      ap (λ (x : Found Tables). tables_from f c x (bare_steps ss)) no-tables-bare
      ∙ tables-from-bare (found no_tables) ss

-- ---- what a letter says, a font's name told by its bytes

abbrev pub own_name : Font → Named
own_name f = record { key = f.key; name = f.name }

unfoldable pub own_names : List Font → List Named
own_names [] = []
own_names (f ∷ fs) = own_name f ∷ own_names fs

abbrev pub say_of : Found Letter → Said
say_of (found l) =
    says (record {
      fonts = own_names l.tables.fonts;
      colours = l.tables.colours;
      blocks = blocks l.pieces;
      text = text_of l.pieces;
    })
say_of (refused r) = refuses r.why

names-bare : (fs : List Font) → own_names (bare_fonts fs) ≡ own_names fs
unfolding own_names bare_fonts
names-bare [] = refl
names-bare (f ∷ fs) = ap (λ (l : List Named). own_name f ∷ l) (names-bare fs)

ended-bare : (h : Tables) (s : Stream Refusal Piece) (o : Result ℕ Refusal) → say_of (letter_from (bare_tables h) (unstopped s) (bare_outcome o)) ≡ say_of (letter_from h s o)
ended-bare h s (Ok n) = rw (names-bare h.fonts, items-bare s)
ended-bare h s (Err r) = refl

module _ (rd : Reading) (f c b t : ℕ) where
  laid-bare : (ss : List Step) → laid rd b t (bare_steps ss) ≡ unstopped (laid rd b t ss)
  laid-bare ss = ap (roomy (capacity block_words b) (text_capacity t) none) (body-bare rd ss) ∙ roomy-bare (body rd ss) (capacity block_words b) (text_capacity t) none

  finished-bare : (ss : List Step) (x : Found Tables)
      → say_of (finished rd b t (bare_steps ss) (bare_header x)) ≡ say_of (finished rd b t ss x)
  finished-bare ss (found h) =
      ap (λ (s : Stream Refusal Piece). say_of (letter_from (bare_tables h) s (answer 0 s))) (laid-bare ss)
      ∙ ap (λ (o : Result ℕ Refusal). say_of (letter_from (bare_tables h) (unstopped (laid rd b t ss)) o)) (answer-bare (laid rd b t ss) 0)
      ∙ ended-bare h (laid rd b t ss) (answer 0 (laid rd b t ss))
  finished-bare ss (refused r) = refl

  stepped-bare : (ss : List Step) → say_of (stepped rd f c b t (bare_steps ss)) ≡ say_of (stepped rd f c b t ss)
  stepped-bare ss =
      ap (λ (x : Found Tables). say_of (finished rd b t (bare_steps ss) x)) (tables-bare (table_limit font_words f) (table_limit colour_words c) ss)
      ∙ finished-bare ss (tables (table_limit font_words f) (table_limit colour_words c) ss)

  pub say-bare : (ss : List Step) → say_of (first rd f c b t (bare_steps ss)) ≡ say_of (first rd f c b t ss)
  unfolding bare_steps
  say-bare [] = refl
  say-bare (kept (token p n Shown.opening) ∷ ss) = stepped-bare (kept (token p n Shown.opening) ∷ ss)
  say-bare (kept (token p n Shown.closing) ∷ ss) = refl
  say-bare (kept (token p n Shown.line_break) ∷ ss) = refl
  say-bare (kept (token p n Shown.ignorable) ∷ ss) = refl
  say-bare (kept (token p n (Shown.text q bs)) ∷ ss) = refl
  say-bare (kept (token p n (Shown.word w num)) ∷ ss) = refl
  say-bare (kept (token p n (Shown.unknown q bs num)) ∷ ss) = refl
  say-bare (kept (token p n (Shown.symbol b num)) ∷ ss) = refl
  say-bare (hidden ∷ ss) = stepped-bare (hidden ∷ ss)
  say-bare (font_table late ts ∷ ss) = stepped-bare (font_table late ts ∷ ss)
  say-bare (colour_table late ts ∷ ss) = stepped-bare (colour_table late ts ∷ ss)
