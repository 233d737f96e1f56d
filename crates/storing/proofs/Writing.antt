-- What is written, and of which blocks: the writer's half of the round trips.
--     GoodOne, good-one, one-good    what each good block keeps
--     good-count                     good blocks are at most as many as their text has bytes
--     stream-good                    good blocks are written as the list that they are
--     stream-ends                    only good blocks are written, and as that list
--     write-good                     so are the answer and the room
-- Assumes nothing.
use mathlib.Core.Path.{◌≡◌, refl, sym, ap, ◌∙◌}
use mathlib.Core.List.{List, [], ◌∷◌, ◌++◌}
use mathlib.Core.Bool.{Bool, true, false, cond, not, ◌&&◌}
use Prim.Native.Nat.{ℕ, zero, suc, ◌+◌, ◌*◌, ◌/◌, ◌%◌, ◌≤◌, ◌<◌}
use native.Mathlib.Omega.{arith}
use borrow.Author.Tests.{ltb-true, lt-ltb, leb-true, le-leb, eqb-true, eq-eqb}
use lib.ListN.{length, get_or, take, drop, length-append, length-take, length-drop, take-append-drop}
use lib.Seq.{take_at, drop_at, drop-drop, drop-cons, drop-length}
use lib.Dec.{leb, ltb, eqb}
use Rattle.answers.specs.declared.Why.TheVariants.{StoredField, OutputRoom, IndentNotZero}
use Rattle.answers.specs.Answers.{refusal}
use Rattle.classes.proofs.Runs.{and_left, and_right}
use Rattle.rooms.specs.Streams.{Stream, end, stop, and_then, answer, ended}
use Rattle.rooms.specs.Rooms.{filled, settled, content}
use Rattle.rooms.proofs.Streams.{answer-then, ok_err}
use Rattle.rooms.proofs.Rooms.{settled-fits}
use Rattle.sevens.specs.Sevens.{written, byte_layout, streamed}
use Rattle.sevens.proofs.Streamed.{answer-streamed, streamed-append, encode-streamed}
use Rattle.wellformed.specs.WellFormed.{is_utf8}
use Rattle.fields.specs.Fields.{in_range}
use Rattle.blocks.specs.Pages.{Piece, piece, Last, none, last, starts, text_of, block_record, records, block_words}
use Rattle.blocks.proofs.Blocks.{length-records}
use Rattle.styles.specs.Styles.{style_at, flush}
use Rattle.storing.specs.Fitting.{place_at, length_at, fits}
use Rattle.storing.proofs.Fitting.{Fit, fits-fit, fit_all}
use Rattle.storing.specs.Bytes.{block_bytes, blocks_bytes, list_bytes}
use Rattle.storing.specs.Lists.{pieces_from, bytes_of, whole, list_stream}
use Rattle.storing.proofs.Lists.{list-is}
use Rattle.storing.specs.Storing.{indented, list_answer, write_answer, write_room}
use Rattle.storing.specs.Good.{Good, Flat}
use Rattle.answers.specs.declared.Refusal.{Refusal}
use Rattle.std.specs.Prelude.{Ok, Err}

-- ---- good blocks

-- what a block keeps, and those behind it
pub record GoodOne (l : Last) (x : Piece) (xs : List Piece) : Type 0 where
  pub range : in_range x.style ≡ true
  pub some : 0 < length x.bytes
  pub change : starts l x.style ≡ true
  pub whole : is_utf8 x.bytes ≡ true
  pub rest : Good (last x.style) xs ≡ true

module _ (l : Last) (x : Piece) (xs : List Piece) where
  pub good-one : Good l (x ∷ xs) ≡ true → GoodOne l x xs
  unfolding Good
  good-one h =
      let t1 = in_range x.style in
      let t2 = ltb 0 (length x.bytes) in
      let t3 = starts l x.style in
      let t4 = is_utf8 x.bytes in
      let t5 = Good (last x.style) xs in
      let h1 = and_right t1 (t2 && (t3 && (t4 && t5))) h in
      let h2 = and_right t2 (t3 && (t4 && t5)) h1 in
      let h3 = and_right t3 (t4 && t5) h2 in
      record {
        range = and_left t1 (t2 && (t3 && (t4 && t5))) h;
        some = ltb-true 0 (length x.bytes) (and_left t2 (t3 && (t4 && t5)) h1);
        change = and_left t3 (t4 && t5) h2;
        whole = and_left t4 t5 h3;
        rest = and_right t4 t5 h3;
      }

  pub one-good : GoodOne l x xs → Good l (x ∷ xs) ≡ true
  unfolding Good
  one-good g = rw (g.range, lt-ltb 0 (length x.bytes) g.some, g.change, g.whole, g.rest)

pub good-count : (xs : List Piece) (l : Last) → Good l xs ≡ true → length xs ≤ length (text_of xs)
unfolding text_of
good-count [] l h = omega arith
good-count (x ∷ xs) l h =
    let g = good-one l x xs h in
    omega (arith, g.some, length-append x.bytes (text_of xs), good-count xs (last x.style) g.rest)

-- ---- records one after the other

module _ (k : ℕ) (l : Last) (p : ℕ) (ws tx : List ℕ) where
  row_more : fits l p ws tx ≡ true → bytes_of (pieces_from (suc k) l p ws tx)
      ≡ and_then (streamed (block_bytes (piece (style_at ws) (take (length_at ws) (drop p tx)))))
      (bytes_of (pieces_from k (last (style_at ws)) (p + length_at ws) (drop block_words ws) tx))
  unfolding pieces_from bytes_of
  row_more f = rw f

  row-stop : fits l p ws tx ≡ false → (m n : ℕ) → answer m (bytes_of (pieces_from (suc k) l p ws tx)) ≡ Ok n → ⊥
  unfolding pieces_from bytes_of ended
  row-stop f m n e = ok_err (sym (rw f at e))

blocks-cons : (x : Piece) (xs : List Piece)
    → and_then (streamed (block_bytes x)) (streamed (blocks_bytes xs)) ≡ streamed (blocks_bytes (x ∷ xs))
unfolding blocks_bytes
blocks-cons x xs = sym (streamed-append (block_bytes x) (blocks_bytes xs))

-- a block's record says its style, place and length
module _ (x : Piece) (p : ℕ) (ws : List ℕ) where
  record-style : style_at (block_record x.style p (length x.bytes) ++ ws) ≡ x.style
  unfolding block_record style_at
  record-style = refl

  record-place : place_at (block_record x.style p (length x.bytes) ++ ws) ≡ p
  unfolding block_record
  record-place = refl

  record-length : length_at (block_record x.style p (length x.bytes) ++ ws) ≡ length x.bytes
  unfolding block_record
  record-length = refl

  record-rest : drop block_words (block_record x.style p (length x.bytes) ++ ws) ≡ ws
  unfolding block_record
  record-rest = refl

rows-good : (xs : List Piece) (l : Last) (p : ℕ) (tx : List ℕ) → length tx ≤ 2147483647 → p + length (text_of xs) ≡ length tx
    → drop p tx ≡ text_of xs → Good l xs ≡ true
    → bytes_of (pieces_from (length xs) l p (records p xs) tx) ≡ streamed (blocks_bytes xs)
unfolding text_of records pieces_from bytes_of blocks_bytes streamed
rows-good [] l p tx z e d h = rw (eq-eqb p (length tx) (omega arith))
rows-good (x ∷ xs) l p tx z e d h =
    let g = good-one l x xs h in
    let c : ℕ = length x.bytes in
    let rest : List ℕ = records (p + c) xs in
    let ws : List ℕ = block_record x.style p c ++ rest in
    let a : length (x.bytes ++ text_of xs) ≡ c + length (text_of xs) = length-append x.bytes (text_of xs) in
    let es : style_at ws ≡ x.style = record-style x p rest in
    let ec : length_at ws ≡ c = record-length x p rest in
    let t : take (length_at ws) (drop p tx) ≡ x.bytes = rw (ec, d) (take_at x.bytes (text_of xs) c refl) in
    let f : Fit l p ws tx = record {
      range = rw es g.range;
      place = omega (arith, record-place x p rest);
      count = omega (arith, ec);
      some = rw ec g.some;
      change = rw es g.change;
      here = record-place x p rest;
      within = omega (arith, ec);
      whole = rw t g.whole;
    } in
    let d' : drop (p + c) tx ≡ text_of xs = sym (drop-drop c p tx) ∙ ap (drop c) d ∙ drop_at x.bytes (text_of xs) c refl in
    row_more (length xs) l p ws tx (fit_all l p ws tx f)
    ∙ rw (t, es, ec, record-rest x p rest)
    (ap (and_then (streamed (block_bytes x))) (rows-good xs (last x.style) (p + c) tx z (omega arith) d' g.rest))
    ∙ blocks-cons x xs

-- the count, and then the blocks
list-as : (ws tx : List ℕ) (xs : List Piece) → whole ws ≡ true → length ws / block_words ≡ length xs
    → bytes_of (pieces_from (length xs) none 0 ws tx) ≡ streamed (blocks_bytes xs) → list_stream ws tx ≡ streamed (list_bytes xs)
unfolding list_bytes
list-as ws tx xs w k q = list-is ws tx w ∙ rw (k, q) (sym (streamed-append (written (length xs)) (blocks_bytes xs)))

pub stream-good : (xs : List Piece) → Good none xs ≡ true → length (text_of xs) ≤ 2147483647
    → list_stream (records 0 xs) (text_of xs) ≡ streamed (list_bytes xs)
stream-good xs h s =
    let ws : List ℕ = records 0 xs in
    let l : length ws ≡ length xs * block_words = length-records xs 0 in
    let k : length ws / block_words ≡ length xs = omega arith in
    let few : length ws / block_words ≤ 4294967295 = omega (arith, good-count xs none h) in
    let w : whole ws ≡ true = rw (eq-eqb (length ws % block_words) 0 (omega arith), le-leb (length ws / block_words) 4294967295 few) in
    list-as ws (text_of xs) xs w k (rows-good xs none 0 (text_of xs) s (omega arith) refl h)

-- ---- and back

-- n items from the i-th on
unfoldable items_from : ℕ → ℕ → List ℕ → List ℕ
items_from i zero ws = []
items_from i (suc n) ws = get_or ws i 0 ∷ items_from (suc i) n ws

items-split : (n i : ℕ) (ws : List ℕ) → i + n ≤ length ws → drop i ws ≡ items_from i n ws ++ drop (i + n) ws
unfolding items_from
items-split zero i ws h = let e : i ≡ i + 0 = omega arith in ap (λ (k : ℕ). drop k ws) e
items-split (suc n) i ws h =
    let e : suc i + n ≡ i + suc n = omega arith in
    drop-cons ws i 0 (omega arith)
    ∙ ap (λ (l : List ℕ). get_or ws i 0 ∷ l) (items-split n (suc i) ws (omega arith) ∙ rw e)

record-split : (ws : List ℕ) → block_words ≤ length ws → ws ≡ block_record (style_at ws) (place_at ws) (length_at ws) ++ drop block_words ws
unfolding items_from block_record style_at
record-split ws h = items-split block_words 0 ws h

-- the blocks that words and a text are, behind a block l and p bytes of the text
abbrev Rows : ℕ → Last → ℕ → List ℕ → List ℕ → Type 0
Rows k l p ws tx =
    (xs : List Piece) × (Good l xs ≡ true) × (ws ≡ records p xs) × (drop p tx ≡ text_of xs) × (length xs ≡ k)
    × (bytes_of (pieces_from k l p ws tx) ≡ streamed (blocks_bytes xs))

no_words : (ws : List ℕ) → length ws ≡ 0 → ws ≡ []
no_words [] h = refl
no_words (w ∷ ws) h = absurd (omega arith)

rows_none : (l : Last) (p : ℕ) (ws tx : List ℕ) (m n : ℕ) → length ws ≡ 0
    → answer m (bytes_of (pieces_from 0 l p ws tx)) ≡ Ok n → Rows 0 l p ws tx
unfolding pieces_from bytes_of ended records text_of Good blocks_bytes streamed
rows_none l p ws tx m n z = go (eqb p (length tx)) refl
  where
    go : (t : Bool) → eqb p (length tx) ≡ t → answer m (bytes_of (cond t end (stop (refusal StoredField)))) ≡ Ok n
        → Rows 0 l p ws tx
    go true e a =
        let q : p ≡ length tx = eqb-true p (length tx) e in
        ([], refl, no_words ws z, rw q (drop-length tx), refl, rw e)
    go false e a = absurd (ok_err (sym a))

rows-some : (k : ℕ) (l : Last) (p : ℕ) (ws tx : List ℕ) → length ws ≡ suc k * block_words → fits l p ws tx ≡ true
    → Rows k (last (style_at ws)) (p + length_at ws) (drop block_words ws) tx → Rows (suc k) l p ws tx
unfolding records text_of
rows-some k l p ws tx z f q =
    let w : Fit l p ws tx = fits-fit l p ws tx f in
    let b : List ℕ = take (length_at ws) (drop p tx) in
    let x : Piece = piece (style_at ws) b in
    let c : length b ≡ length_at ws = simp (length-take, length-drop) (omega (arith, w.within)) in
    let g : GoodOne l x q.0 = record {
      range = w.range;
      some = rw c w.some;
      change = w.change;
      whole = w.whole;
      rest = q.1;
    } in
    let r : ws ≡ block_record (style_at ws) p (length b) ++ records (p + length b) q.0 =
    record-split ws (omega arith)
    ∙ ap (λ (i : ℕ). block_record (style_at ws) i (length_at ws) ++ drop block_words ws) w.here
    ∙ ap (λ (i : List ℕ). block_record (style_at ws) p (length_at ws) ++ i) q.2
    ∙ ap (λ (i : ℕ). block_record (style_at ws) p i ++ records (p + i) q.0) (sym c) in
    let t : drop p tx ≡ b ++ text_of q.0 =
    sym (take-append-drop (length_at ws) (drop p tx))
    ∙ ap (λ (i : List ℕ). b ++ i) (drop-drop (length_at ws) p tx ∙ q.3) in (
      x ∷ q.0,
      one-good l x q.0 g,
      r,
      t,
      ap suc q.4,
      row_more k l p ws tx f ∙ ap (and_then (streamed (block_bytes x))) q.5 ∙ blocks-cons x q.0,
    )

rows-ends : (k : ℕ) (l : Last) (p : ℕ) (ws tx : List ℕ) (m n : ℕ) → length ws ≡ k * block_words
    → answer m (bytes_of (pieces_from k l p ws tx)) ≡ Ok n → Rows k l p ws tx
rows-ends zero l p ws tx m n z a = rows_none l p ws tx m n (omega arith) a
rows-ends (suc k) l p ws tx m n z a =
    go (fits l p ws tx) refl (rows-ends k (last (style_at ws)) (p + length_at ws) (drop block_words ws) tx)
  where
    go : (t : Bool) → fits l p ws tx ≡ t
        → ((m n : ℕ) → length (drop block_words ws) ≡ k * block_words
        → answer m (bytes_of (pieces_from k (last (style_at ws)) (p + length_at ws) (drop block_words ws) tx)) ≡ Ok n
        → Rows k (last (style_at ws)) (p + length_at ws) (drop block_words ws) tx)
        → Rows (suc k) l p ws tx
    go true f ih =
        let b : List ℕ = block_bytes (piece (style_at ws) (take (length_at ws) (drop p tx))) in
        let s : Stream Refusal ℕ = bytes_of (pieces_from k (last (style_at ws)) (p + length_at ws) (drop block_words ws) tx) in
        let e : answer (m + length b) s ≡ Ok n =
        sym (answer-then s (streamed b) m (m + length b) (answer-streamed b m))
        ∙ ap (answer m) (sym (row_more k l p ws tx f))
        ∙ a in
        rows-some k l p ws tx z f (ih (m + length b) n (simp length-drop (omega arith)) e)
    go false f ih = absurd (row-stop k l p ws tx f m n a)

list-whole : (ws tx : List ℕ) {n : ℕ} → answer 0 (list_stream ws tx) ≡ Ok n → whole ws ≡ true
unfolding list_stream ended
list-whole ws tx {n} = go (whole ws)
  where
    go : (t : Bool)
        → answer 0 (cond t (and_then (streamed (written (length ws / block_words))) (bytes_of (pieces_from (length ws / block_words) none 0 ws tx)))
        (stop (refusal StoredField))) ≡ Ok n
        → t ≡ true
    go true a = refl
    go false a = absurd (ok_err (sym a))

pub stream-ends : (ws tx : List ℕ) {n : ℕ} → answer 0 (list_stream ws tx) ≡ Ok n
    → (xs : List Piece) × (Good none xs ≡ true) × (ws ≡ records 0 xs) × (tx ≡ text_of xs) × (length xs < 4294967296)
    × (list_stream ws tx ≡ streamed (list_bytes xs))
stream-ends ws tx {n} a =
    let k : ℕ = length ws / block_words in
    let m : ℕ = 0 + length (written k) in
    let w : whole ws ≡ true = list-whole ws tx a in
    let s : Stream Refusal ℕ = bytes_of (pieces_from k none 0 ws tx) in
    let b : answer m s ≡ Ok n =
    sym (answer-then s (streamed (written k)) 0 m (answer-streamed (written k) 0))
    ∙ ap (answer 0) (sym (list-is ws tx w))
    ∙ a in
    let z : length ws % block_words ≡ 0 = eqb-true (length ws % block_words) 0 (and_left (eqb (length ws % block_words) 0) (leb k 4294967295) w) in
    let f : k ≤ 4294967295 = leb-true k 4294967295 (and_right (eqb (length ws % block_words) 0) (leb k 4294967295) w) in
    let q : Rows k none 0 ws tx = rows-ends k none 0 ws tx m n (omega arith) b in
    let d : bytes_of (pieces_from (length q.0) none 0 ws tx) ≡ streamed (blocks_bytes q.0) =
    ap (λ (i : ℕ). bytes_of (pieces_from i none 0 ws tx)) q.4 ∙ q.5 in
    (q.0, q.1, q.2, q.3, rw q.4 (omega arith), list-as ws tx q.0 w (sym q.4) d)

-- ---- indents

-- blocks without indents, one by one
module _ (x : Piece) (xs : List Piece) where
  pub flat-one : Flat (x ∷ xs) ≡ true → (flush x.style ≡ true) × (Flat xs ≡ true)
  unfolding Flat
  flat-one = go (flush x.style) refl
    where
      go : (t : Bool) → flush x.style ≡ t → cond t (Flat xs) false ≡ true → (flush x.style ≡ true) × (Flat xs ≡ true)
      go true e f = (e, f)
      go false e f = let z : ◌≡◌ {A = Bool} true false = sym f in (cc, cc)

  pub one-flat : flush x.style ≡ true → Flat xs ≡ true → Flat (x ∷ xs) ≡ true
  unfolding Flat
  one-flat e f = rw e f

-- the records of blocks have an indent if a block has
pub indented-records : (xs : List Piece) (p : ℕ) → indented (length xs) (records p xs) ≡ not (Flat xs)
unfolding indented records Flat
indented-records [] p = refl
indented-records (x ∷ xs) p =
    let rest : List ℕ = records (p + length x.bytes) xs in
    rw (record-style x p rest, record-rest x p rest, indented-records xs (p + length x.bytes)) (go (flush x.style) (Flat xs))
  where
    go : (t u : Bool) → cond t (not u) true ≡ not (cond t u false)
    go true u = refl
    go false u = refl

-- ---- the answer and the room

module _ (xs : List Piece) (h : Good none xs ≡ true) (s : length (text_of xs) ≤ 2147483647) where
  list-stream : answer 0 (list_stream (records 0 xs) (text_of xs)) ≡ Ok (length (list_bytes xs))
  list-stream =
      let z : 0 + length (list_bytes xs) ≡ length (list_bytes xs) = omega arith in
      ap (answer 0) (stream-good xs h s) ∙ answer-streamed (list_bytes xs) 0 ∙ ap Ok z

  list-indents : indented (length (records 0 xs) / block_words) (records 0 xs) ≡ not (Flat xs)
  list-indents =
      let n : length (records 0 xs) / block_words ≡ length xs = omega (arith, length-records xs 0) in
      rw n (indented-records xs 0)

  pub good-list : Flat xs ≡ true → list_answer (records 0 xs) (text_of xs) ≡ Ok (length (list_bytes xs))
  unfolding list_answer
  good-list g = rw (list-indents, g, list-stream)

  -- "its writer refuses a list that has one", whatever the room
  pub write-indent : Flat xs ≡ false → (total : ℕ) → write_answer total (records 0 xs) (text_of xs) ≡ Err (refusal IndentNotZero)
  unfolding write_answer list_answer settled
  write-indent g total = rw (list-indents, g, list-stream)

module _ (xs : List Piece) (total : ℕ) (h : Good none xs ≡ true) (g : Flat xs ≡ true) (s : length (text_of xs) ≤ 2147483647)
    (f : length (list_bytes xs) ≤ total) where
  good-answer : write_answer total (records 0 xs) (text_of xs) ≡ Ok (length (list_bytes xs))
  unfolding write_answer
  good-answer = rw (good-list xs h s g) (settled-fits byte_layout (refusal OutputRoom) total (length (list_bytes xs)) (omega arith))

  good-room : write_room total (records 0 xs) (text_of xs) ≡ filled total (list_bytes xs)
  unfolding write_room content
  good-room = rw (good-answer, stream-good xs h s, encode-streamed (list_bytes xs))

  pub write-good : (write_answer total (records 0 xs) (text_of xs) ≡ Ok (length (list_bytes xs)))
      × (write_room total (records 0 xs) (text_of xs) ≡ filled total (list_bytes xs))
  write-good = (good-answer, good-room)
