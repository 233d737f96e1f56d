-- What any letter reads to without indents, stored, is read back as the same blocks and text:
--     read-back   the promise of specs/Promise
-- The pieces of a letter that was read are all those of the body; the blocks that they are joined to are good and small, so the
-- writer writes them as one list (storing/proofs/Writing), and that list is read as them (roundtrips/proofs/RoundTrips). Assumes
-- nothing.
use mathlib.Core.Path.{◌≡◌, refl, sym, ap, subst, ◌∙◌}
use mathlib.Core.List.{List, [], ◌∷◌}
use mathlib.Core.Bool.{Bool, true, false, cond, not}
use Prim.Native.Nat.{ℕ, ◌+◌, ◌*◌, ◌≤◌, ◌<◌}
use native.Mathlib.Omega.{arith}
use borrow.Author.Tests.{ltb-true}
use lib.ListN.{length, take}
use lib.Dec.{ltb}
use Rattle.answers.specs.declared.Why.TheVariants.{OutputRoom}
use Rattle.answers.specs.Answers.{refusal, answer_number, Found, found, refused}
use Rattle.rooms.specs.Streams.{Stream, items, answer}
use Rattle.rooms.specs.Rooms.{capacity, filled, table_limit}
use Rattle.rooms.proofs.Rooms.{settled-over}
use Rattle.sevens.specs.Sevens.{byte_layout}
use Rattle.tokens.specs.Tokens.{Shown, Token, token}
use Rattle.cutter.specs.Cutting.{token_stream, cut_answer}
use Rattle.walk.specs.Walk.{walk}
use Rattle.header.specs.Entering.{Tables}
use Rattle.header.specs.Header.{tables}
use Rattle.readings.specs.declared.Reading.{Reading}
use Rattle.readings.specs.declared.Reading.TheVariants.{Plain}
use Rattle.blocks.specs.Pages.{Piece, none, blocks, text_of, records, block_words, text_capacity, roomy}
use Rattle.blocks.proofs.Blocks.{text-blocks, length-records}
use Rattle.body.specs.Body.{body}
use Rattle.parser.specs.declared.Counts.{Counts}
use Rattle.parser.specs.Parsing.{begun, Sizes, Letter, letter_from, placed, bodied, headed, walked}
use Rattle.reader.specs.Reading.{cut, letter_of, counts_of}
use Rattle.reader.specs.Reading.{answered, read_answer, block_room, text_room}
use Rattle.storing.specs.Bytes.{list_bytes}
use Rattle.stored.specs.Checks.{checked}
use Rattle.stored.proofs.Ample.{check-reads}
use Rattle.storing.specs.Good.{Good, Flat}
use Rattle.storing.specs.Storing.{write_answer}
use Rattle.storing.proofs.Writing.{good-count, indented-records, good-list, write-indent, write-good}
use Rattle.roundtrips.specs.Trips.{Small}
use Rattle.roundtrips.proofs.Ample.{roomy-whole, roomy-text, take-filled, Reads}
use Rattle.roundtrips.proofs.RoundTrips.{list-reads}
use Rattle.previews.specs.Promise.{blocks_read, text_read, StoredAs, ReadBack, Kept, has_indent, Promise}
use Rattle.previews.proofs.Tokens.{All, FineIn, tokens-fine}
use Rattle.previews.proofs.Pieces.{Storable, body-storable}
use Rattle.previews.proofs.Joining.{items-storable, blocks-storable, storable-good, storable-flat, storable-small}
use Rattle.fonts.specs.Rows.{font_words}
use Rattle.colours.specs.Colours.{colour_words}
use Rattle.answers.specs.declared.Refusal.{Refusal}
use Rattle.std.specs.Prelude.{Result, Ok, Err}

-- ---- the pieces of a letter that was read

-- they are those of the body, and all of them found room
abbrev Laid : Reading → ℕ → ℕ → List Token → Found Letter → Type 0
Laid rd b t ts (found l) = (n : ℕ) × (answer 0 (placed rd b t ts) ≡ Ok n) × (l.pieces ≡ items (placed rd b t ts))
Laid rd b t ts (refused r) = Unit {0}

bodied-laid : (rd : Reading) (b t : ℕ) (ts : List Token) (h : Tables) → Laid rd b t ts (bodied rd b t ts h)
unfolding bodied
bodied-laid rd b t ts h = go (answer 0 (placed rd b t ts)) refl
  where
    go : (o : Result ℕ Refusal) → answer 0 (placed rd b t ts) ≡ o → Laid rd b t ts (letter_from h (placed rd b t ts) o)
    go (Ok n) e = (n, e, refl)
    go (Err r) e = tt

headed-laid : (rd : Reading) (b t : ℕ) (ts : List Token) (x : Found Tables) → Laid rd b t ts (headed rd b t ts x)
headed-laid rd b t ts (found h) = bodied-laid rd b t ts h
headed-laid rd b t ts (refused r) = tt

module _ (rd : Reading) (z : Sizes) where
  begun-laid : (ts : List Token) → Laid rd z.blocks z.text ts (walked rd z (begun ts))
  begun-laid [] = tt
  begun-laid (token p n Shown.opening ∷ ts) =
      let all : List Token = token p n Shown.opening ∷ ts in
      headed-laid rd z.blocks z.text all (tables (table_limit font_words z.fonts) (table_limit colour_words z.colours) (walk all))
  begun-laid (token p n Shown.closing ∷ ts) = tt
  begun-laid (token p n Shown.line_break ∷ ts) = tt
  begun-laid (token p n Shown.ignorable ∷ ts) = tt
  begun-laid (token p n (Shown.text q bs) ∷ ts) = tt
  begun-laid (token p n (Shown.word w num) ∷ ts) = tt
  begun-laid (token p n (Shown.unknown q bs num) ∷ ts) = tt
  begun-laid (token p n (Shown.symbol b num) ∷ ts) = tt

  cut-laid : (ts : List Token) (o : Result ℕ Refusal) → Laid rd z.blocks z.text ts (cut rd z ts o)
  cut-laid ts (Ok n) = begun-laid ts
  cut-laid ts (Err r) = tt

  letter-laid : (src : List ℕ) → Laid rd z.blocks z.text (items (token_stream rd src)) (letter_of rd src z)
  unfolding letter_of
  letter-laid src = cut-laid (items (token_stream rd src)) (cut_answer rd src z.tokens)

-- ---- pieces that found room

module _ (rd : Reading) (b t : ℕ) (ts : List Token) {n : ℕ} (d : answer 0 (placed rd b t ts) ≡ Ok n) where
  placed-storable : All FineIn ts → All (Storable rd) (items (placed rd b t ts))
  unfolding placed
  placed-storable h =
      let e : roomy (capacity block_words b) (text_capacity t) none (body rd (walk ts)) ≡ body rd (walk ts) =
      roomy-whole (body rd (walk ts)) (capacity block_words b) (text_capacity t) none 0 d in
      subst (λ (s : Stream Refusal Piece). All (Storable rd) (items s)) (sym e) (items-storable rd (body rd (walk ts)) (body-storable rd ts h))

  placed-text : length (text_of (items (placed rd b t ts))) ≤ text_capacity t
  unfolding placed
  placed-text = roomy-text (body rd (walk ts)) (capacity block_words b) (text_capacity t) none 0 d

  placed-short : length (text_of (items (placed rd b t ts))) ≤ 2147483647
  placed-short = go (ltb t 2147483647) refl placed-text
    where
      go : (y : Bool) → ltb t 2147483647 ≡ y → length (text_of (items (placed rd b t ts))) ≤ cond y t 2147483647
          → length (text_of (items (placed rd b t ts))) ≤ 2147483647
      go true i h = let k = ltb-true t 2147483647 i in omega (arith, h, k)
      go false i h = omega (arith, h)

-- ---- the rooms of a letter that was read

module _ (rd : Reading) (src : List ℕ) (z : Sizes) {l : Letter} (e : letter_of rd src z ≡ found l) where
  block_room_lem : block_room rd src z ≡ filled z.blocks (records 0 (blocks l.pieces))
  unfolding block_room
  block_room_lem = rw e

  text-room : text_room rd src z ≡ filled z.text (text_of l.pieces)
  unfolding text_room
  text-room = rw e

-- ---- blocks, stored and read back

module _ (xs : List Piece) (good : Good none xs ≡ true) (flat : Flat xs ≡ true) (short : length (text_of xs) ≤ 2147483647) where
  -- a room that is too small
  write-full : (total : ℕ) → total < length (list_bytes xs)
      → write_answer total (records 0 xs) (text_of xs) ≡ Err (refusal OutputRoom)
  unfolding write_answer
  write-full total h = rw (good-list xs good short flat) (settled-over byte_layout (refusal OutputRoom) total (length (list_bytes xs)) (omega arith))

  good-stored : StoredAs (records 0 xs) (text_of xs) (list_bytes xs)
  good-stored = record {
    answer = λ total f. (write-good xs total good flat short f).0;
    room = λ total f. (write-good xs total good flat short f).1;
    full = write-full;
  }

  good-back : Small xs → (b t : ℕ) → length xs * block_words ≤ b → length (text_of xs) ≤ t → Reads (list_bytes xs) xs b t
  good-back small b t h k =
      let few : length xs < 4294967296 = omega (arith, good-count xs none good) in
      list-reads xs good flat small few b t (record { blocks = rw (length-records xs 0) h; text = k; counts = short })

-- what is read back in ample rooms, the check accepts
back-checked : (c : Counts) (ws tx s : List ℕ) → ReadBack c ws tx s → answer_number (checked s) ≡ 0
back-checked c ws tx s h =
    let b : ℕ = (length s + c.blocks) * block_words in
    let t : ℕ = 2147483647 + c.text in
    sym (check-reads s b t (omega arith) (omega arith)) ∙ ap answer_number (h b t (omega arith) (omega arith)).answer

-- ---- a letter that was read

-- its blocks xs: what the rooms hold, by the counts c, is their records and their text
record Blocks (rd : Reading) (src : List ℕ) (z : Sizes) (c : Counts) : Type 0 where
  xs : List Piece
  storable : All (Storable rd) xs
  good : Good none xs ≡ true
  small : Small xs
  short : length (text_of xs) ≤ 2147483647
  blocks : c.blocks ≡ length xs
  text : c.text ≡ length (text_of xs)
  words : blocks_read rd src z c ≡ records 0 xs
  bytes : text_read rd src z c ≡ text_of xs

module _ (rd : Reading) (src : List ℕ) (z : Sizes) where
  letter-blocks : (l : Letter) → letter_of rd src z ≡ found l
      → Laid rd z.blocks z.text (items (token_stream rd src)) (found l) → Blocks rd src z (counts_of rd src l)
  letter-blocks l e (n, d, p) =
      let xs : List Piece = blocks l.pieces in
      let ts : List Token = items (token_stream rd src) in
      let c : Counts = counts_of rd src l in
      let h : All (Storable rd) l.pieces =
      subst (All (Storable rd)) (sym p) (placed-storable rd z.blocks z.text ts d (tokens-fine rd src)) in
      let same : text_of xs ≡ text_of l.pieces = text-blocks l.pieces in
      let short : length (text_of xs) ≤ 2147483647 = rw (same, p) (placed-short rd z.blocks z.text ts d) in
      record {
        xs = xs;
        storable = blocks-storable rd l.pieces h;
        good = storable-good rd l.pieces h;
        small = storable-small rd xs (blocks-storable rd l.pieces h) short;
        short = short;
        blocks = refl;
        text = ap length (sym same);
        words = ap (take (c.blocks * block_words)) (block_room_lem rd src z e)
            ∙ take-filled z.blocks (records 0 xs) (c.blocks * block_words) (length-records xs 0);
        bytes = ap (take c.text) (text-room rd src z e) ∙ take-filled z.text (text_of l.pieces) c.text refl ∙ sym same;
      }

  read-blocks : (c : Counts) → read_answer rd src z ≡ Ok c → Blocks rd src z c
  unfolding read_answer
  read-blocks c a = go (letter_of rd src z) refl (letter-laid rd z src) a
    where
      go : (x : Found Letter) → letter_of rd src z ≡ x → Laid rd z.blocks z.text (items (token_stream rd src)) x
          → answered rd src x ≡ Ok c → Blocks rd src z c
      go (found l) e d b =
          let same : counts_of rd src l ≡ c = cc in
          subst (λ (k : Counts). Blocks rd src z k) same (letter-blocks l e d)
      go (refused r) e d b = let w : ◌≡◌ {A = ℕ} 0 1 = cc in absurd (omega arith)

  module _ (c : Counts) (r : Blocks rd src z c) where
    -- a block of the letter has an indent, if one of these has
    indents-are : has_indent rd src z c ≡ not (Flat r.xs)
    indents-are = rw (r.words, r.blocks) (indented-records r.xs 0)

    blocks-kept : Flat r.xs ≡ true → Kept c (blocks_read rd src z c) (text_read rd src z c)
    blocks-kept flat =
        let xs : List Piece = r.xs in
        let back : ReadBack c (records 0 xs) (text_of xs) (list_bytes xs) = rw (r.blocks, r.text) (good-back xs r.good flat r.short r.small) in
        rw (r.words, r.bytes)
        (list_bytes xs, good-stored xs r.good flat r.short, back, back-checked c (records 0 xs) (text_of xs) (list_bytes xs) back)

-- ---- the promise

not-false : (b : Bool) → not b ≡ false → b ≡ true
not-false true e = refl
not-false false e = sym e

not-true : (b : Bool) → not b ≡ true → b ≡ false
not-true true e = sym e
not-true false e = refl

pub read_back : Promise
read_back = record {
  plain = λ src z c a.
      let r = read-blocks Plain src z c a in
      indents-are Plain src z c r ∙ ap not (storable-flat Plain refl r.xs r.storable);
  kept = λ rd src z c a e.
      let r = read-blocks rd src z c a in
      blocks-kept rd src z c r (not-false (Flat r.xs) (sym (indents-are rd src z c r) ∙ e));
  indent = λ rd src z c a e total.
      let r = read-blocks rd src z c a in
      rw (r.words, r.bytes)
      (write-indent r.xs r.good r.short (not-true (Flat r.xs) (sym (indents-are rd src z c r) ∙ e)) total);
}
