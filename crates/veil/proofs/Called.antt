-- Hidden stays hidden, carried to the program: what two calls of `reader::read` leave, on letters with one veil.
--     read-cut      a call that succeeds has cut its letter
--     same-calls    two calls that the contract permits leave the same, but for places and tokens
--     alike-calls   the same of letters that differ inside ignored groups
-- It follows from the contract alone. Assumes nothing.
use mathlib.Core.Path.{◌≡◌, refl, sym, ap, ◌∙◌}
use mathlib.Core.List.{List, [], ◌∷◌, ◌++◌}
use Prim.Native.Nat.{ℕ, suc, ◌-◌}
use native.Mathlib.Omega.{arith}
use lib.ListN.{length, replicate}
use Rattle.answers.specs.declared.Why.{Why}
use Rattle.answers.specs.declared.Refusal.{Refusal}
use Rattle.answers.specs.Answers.{Found, found, refused, answer_number}
use Rattle.rooms.specs.Rooms.{filled}
use Rattle.rooms.specs.Streams.{items}
use Rattle.cutter.specs.Cutting.{token_stream, cut_answer}
use Rattle.fonts.specs.Rows.{Font, font_record, table_words}
use Rattle.readings.specs.declared.Reading.{Reading}
use Rattle.blocks.specs.Pages.{Piece, blocks, text_of, records}
use Rattle.parser.specs.declared.Counts.{Counts}
use Rattle.parser.specs.Parsing.{Sizes, Letter}
use Rattle.reader.specs.Reading.{cut, letter_of, answered, read_answer, holding, font_room, colour_room, block_room}
use Rattle.parser.specs.Parsing.{answer_counts}
use Rattle.reader.specs.Reading.{text_room}
use Rattle.reader.specs.Reading.{Reads}
use Rattle.veil.specs.Veil.{veil, Alike}
use Rattle.veil.specs.Said.{Named, name_in, names_in, Content, Said, refuses, says, said_by, said, SameRooms, fonts_at}
use Rattle.veil.specs.Said.{unplaced}
use Rattle.veil.proofs.Steps.{own_names, say_of}
use Rattle.veil.proofs.Groups.{alike-veil}
use Rattle.veil.proofs.HiddenStays.{said-own, hidden-stays-hidden}
use Rattle.std.specs.Prelude.{Result, Ok, Err}

-- ---- a font table in its room

fonts-at : (src : List ℕ) (fs : List Font) (ws : List ℕ) → fonts_at src (length fs) (table_words fs ++ ws) ≡ names_in src fs
unfolding fonts_at names_in table_words font_record
fonts-at src [] ws = refl
fonts-at src (f ∷ fs) ws = ap (λ (l : List Named). name_in src f ∷ l) (fonts-at src fs ws)

-- how many words its records have, and these without the places
words : List Named → ℕ
words [] = 0
words (x ∷ xs) = suc (suc (suc (words xs)))

pairs : List Named → List ℕ
pairs [] = []
pairs (x ∷ xs) = x.key ∷ length x.name ∷ pairs xs

length-table : (fs : List Font) → length (table_words fs) ≡ words (own_names fs)
unfolding words own_names table_words font_record
length-table [] = refl
length-table (f ∷ fs) = rw (length-table fs)

table-unplaced : (fs : List Font) (ws : List ℕ) → unplaced (table_words fs ++ ws) ≡ pairs (own_names fs) ++ unplaced ws
unfolding unplaced pairs own_names table_words font_record
table-unplaced [] ws = refl
table-unplaced (f ∷ fs) ws = ap (λ (l : List ℕ). f.key ∷ length f.name ∷ l) (table-unplaced fs ws)

length-names : (src : List ℕ) (fs : List Font) → length (names_in src fs) ≡ length fs
unfolding names_in
length-names src [] = refl
length-names src (f ∷ fs) = rw (length-names src fs)

-- ---- what is said, part by part

abbrev fonts_of : Said → List Named
fonts_of (says c) = c.fonts
fonts_of (refuses r) = []

abbrev colours_of : Said → List ℕ
colours_of (says c) = c.colours
colours_of (refuses r) = []

abbrev blocks_of : Said → List Piece
blocks_of (says c) = c.blocks
blocks_of (refuses r) = []

abbrev text_in : Said → List ℕ
text_in (says c) = c.text
text_in (refuses r) = []

says-refuses : {c : Content} {r : Why} → says c ≡ refuses r → ⊥
says-refuses e = let z : ◌≡◌ {A = ℕ} 0 1 = cc in omega arith

-- ---- two calls

-- What they leave alike: the answer's number; the counts but that of tokens; the rooms of colours, blocks and text; the fonts'
-- keys and names; and the font rooms but for the places. On a refusal counts and rooms are zero
pub record SameLeft (a b : List ℕ) (r q : Result Counts Refusal) (fs cs bs tx gs ds es ux : List ℕ) : Type 0 where
  pub number : answer_number r ≡ answer_number q
  pub font-count : (answer_counts r).fonts ≡ (answer_counts q).fonts
  pub colour-count : (answer_counts r).colours ≡ (answer_counts q).colours
  pub block-count : (answer_counts r).blocks ≡ (answer_counts q).blocks
  pub text-count : (answer_counts r).text ≡ (answer_counts q).text
  pub colours : cs ≡ ds
  pub blocks : bs ≡ es
  pub text : tx ≡ ux
  pub fonts : fonts_at a (answer_counts r).fonts fs ≡ fonts_at b (answer_counts q).fonts gs
  pub font-rooms : unplaced fs ≡ unplaced gs

module _ (rd : Reading) (a b : List ℕ) (z y : Sizes) (same : SameRooms z y) where
  abbrev Left : Found Letter → Found Letter → Type 0
  Left x x' = SameLeft a b (answered rd a x) (answered rd b x')
      (holding z.fonts (λ (l : Letter). table_words l.tables.fonts) x)
      (holding z.colours (λ (l : Letter). l.tables.colours) x)
      (holding z.blocks (λ (l : Letter). records 0 (blocks l.pieces)) x)
      (holding z.text (λ (l : Letter). text_of l.pieces) x)
      (holding y.fonts (λ (l : Letter). table_words l.tables.fonts) x')
      (holding y.colours (λ (l : Letter). l.tables.colours) x')
      (holding y.blocks (λ (l : Letter). records 0 (blocks l.pieces)) x')
      (holding y.text (λ (l : Letter). text_of l.pieces) x')

  filled-unplaced : (fs gs : List Font) → own_names fs ≡ own_names gs
      → unplaced (filled z.fonts (table_words fs)) ≡ unplaced (filled y.fonts (table_words gs))
  filled-unplaced fs gs e =
      let k : z.fonts - length (table_words fs) ≡ y.fonts - length (table_words gs) = rw (length-table fs, length-table gs, e, same.fonts) in
      table-unplaced fs (replicate (z.fonts - length (table_words fs)) 0)
      ∙ ap (λ (l : List Named). pairs l ++ unplaced (replicate (z.fonts - length (table_words fs)) 0)) e
      ∙ ap (λ (n : ℕ). pairs (own_names gs) ++ unplaced (replicate n 0)) k
      ∙ sym (table-unplaced gs (replicate (y.fonts - length (table_words gs)) 0))

  same-found : (l k : Letter) → said_by a (found l) ≡ said_by b (found k) → say_of (found l) ≡ say_of (found k)
      → Left (found l) (found k)
  same-found l k e o =
      let names : names_in a l.tables.fonts ≡ names_in b k.tables.fonts = ap fonts_of e in
      let cs : l.tables.colours ≡ k.tables.colours = ap colours_of e in
      let bs : blocks l.pieces ≡ blocks k.pieces = ap blocks_of e in
      let tx : text_of l.pieces ≡ text_of k.pieces = ap text_in e in
      record {
        number = refl;
        font-count =
            sym (length-names a l.tables.fonts)
            ∙ ap (λ (xs : List Named). length xs) names
            ∙ length-names b k.tables.fonts;
        colour-count = rw cs;
        block-count = rw bs;
        text-count = rw tx;
        colours = rw (cs, same.colours);
        blocks = rw (bs, same.blocks);
        text = rw (tx, same.text);
        fonts =
            fonts-at a l.tables.fonts (replicate (z.fonts - length (table_words l.tables.fonts)) 0)
            ∙ names
            ∙ sym (fonts-at b k.tables.fonts (replicate (y.fonts - length (table_words k.tables.fonts)) 0));
        font-rooms = filled-unplaced l.tables.fonts k.tables.fonts (ap fonts_of o);
      }

  same-refused : (r q : Refusal) → refuses r.why ≡ refuses q.why → Left (refused r) (refused q)
  same-refused r q e =
      let k : r.why ≡ q.why = cc in
      record {
        number = rw k;
        font-count = refl;
        colour-count = refl;
        block-count = refl;
        text-count = refl;
        colours = rw same.colours;
        blocks = rw same.blocks;
        text = rw same.text;
        fonts = (unfold fonts_at in refl);
        font-rooms = rw same.fonts;
      }

  same-letters : (x x' : Found Letter) → said_by a x ≡ said_by b x' → say_of x ≡ say_of x' → Left x x'
  same-letters (found l) (found k) e o = same-found l k e o
  same-letters (found l) (refused q) e o = absurd (says-refuses e)
  same-letters (refused r) (found k) e o = absurd (says-refuses (sym e))
  same-letters (refused r) (refused q) e o = same-refused r q e

-- ---- the theorem

-- a call that succeeds has cut its letter
pub read-cut : (rd : Reading) (src : List ℕ) (z : Sizes) {c : Counts} → read_answer rd src z ≡ Ok c
    → (n : ℕ) × (cut_answer rd src z.tokens ≡ Ok n)
unfolding read_answer letter_of
read-cut rd src z {c} e = go (cut_answer rd src z.tokens) refl e
  where
    go : (o : Result ℕ Refusal) → cut_answer rd src z.tokens ≡ o → answered rd src (cut rd z (items (token_stream rd src)) o) ≡ Ok c
        → (n : ℕ) × (cut_answer rd src z.tokens ≡ Ok n)
    go (Ok n) q f = (n, q)
    go (Err r) q f = absurd (let w : ◌≡◌ {A = ℕ} 0 1 = cc in omega arith)

-- Two calls of `read`: `Reads` is its contract, for a source and rooms of such sizes, with the answer and the five rooms that
-- the call leaves. Premises as in `hidden-stays-hidden`
module _ (rd : Reading) (a b : List ℕ) (z y : Sizes) (same : SameRooms z y) {n m : ℕ} (u : cut_answer rd a z.tokens ≡ Ok n) (v : cut_answer rd b y.tokens ≡ Ok m) where
  pub same-calls : veil rd a ≡ veil rd b → {r q : Result Counts Refusal} {tk fs cs bs tx uk gs ds es ux : List ℕ}
      → Reads rd a z r tk fs cs bs tx → Reads rd b y q uk gs ds es ux → SameLeft a b r q fs cs bs tx gs ds es ux
  unfolding read_answer font_room colour_room block_room text_room said
  same-calls e p q =
      let f : said_by a (letter_of rd a z) ≡ said_by b (letter_of rd b y) = hidden-stays-hidden rd a b z y same u v e in
      let o : say_of (letter_of rd a z) ≡ say_of (letter_of rd b y) = sym (said-own rd a z u) ∙ f ∙ said-own rd b y v in
      rw (p.answer, p.fonts, p.colours, p.blocks, p.text, q.answer, q.fonts, q.colours, q.blocks, q.text)
      (same-letters rd a b z y same (letter_of rd a z) (letter_of rd b y) f o)

  pub alike-calls : Alike rd a b → {r q : Result Counts Refusal} {tk fs cs bs tx uk gs ds es ux : List ℕ}
      → Reads rd a z r tk fs cs bs tx → Reads rd b y q uk gs ds es ux → SameLeft a b r q fs cs bs tx gs ds es ux
  alike-calls k p q = same-calls (alike-veil rd k) p q
