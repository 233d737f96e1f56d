-- The round trips of the stored form (01, Stored form):
--     list-reads      the list of good blocks without indents, whose numbers have 32 bits, the reader reads as those blocks, given room
--     written-reads   so what the writer writes, it reads back as the same blocks and text
--     read-writes     what the reader accepts, the writer writes back as the same bytes, given room
--     one_form        so two lists that read as the same blocks and text are the same bytes
-- All are about the definitions that the contracts of `stored::read_list` and `storing::write_list` cite. Assumes nothing.
use mathlib.Core.Path.{◌≡◌, refl, sym, ap, subst, ◌∙◌}
use mathlib.Core.List.{List}
use mathlib.Core.Bool.{Bool, true, false, cond, not}
use Prim.Native.Nat.{ℕ, ◌+◌, ◌*◌, ◌/◌, ◌≤◌, ◌<◌}
use native.Mathlib.Omega.{arith}
use borrow.Author.Tests.{ltb-true}
use lib.ListN.{length, take}
use lib.Dec.{ltb}
use Rattle.answers.specs.declared.Refusal.{Refusal}
use Rattle.rooms.specs.Streams.{Stream, items, answer}
use Rattle.rooms.specs.Rooms.{capacity, filled, content}
use Rattle.sevens.specs.Sevens.{byte_layout, streamed}
use Rattle.sevens.proofs.Streamed.{answer-streamed, encode-streamed}
use Rattle.blocks.specs.Pages.{Piece, none, text_of, records, block_words, roomy, text_capacity}
use Rattle.blocks.proofs.Blocks.{length-records}
use Rattle.stored.specs.declared.Counts.{Counts}
use Rattle.stored.specs.Stored.{stored, placed, answered, stored_answer, stored_blocks, stored_text}
use Rattle.storing.specs.Bytes.{list_bytes}
use Rattle.storing.specs.Good.{Good, Flat}
use Rattle.storing.specs.Lists.{list_stream}
use Rattle.storing.specs.Storing.{indented, write_answer, write_room}
use Rattle.storing.proofs.Writing.{stream-ends, indented-records, write-good}
use Rattle.storing.proofs.Settling.{written-done}
use Rattle.roundtrips.specs.Trips.{Bytes, Words, Small, all, Room, counts_in, ReadsAs}
use Rattle.roundtrips.proofs.Lists.{list_written, Accepted, list_read}
use Rattle.roundtrips.proofs.Ample.{roomy-all, roomy-whole, roomy-text, small-records, take-filled, Reads, stored-reads}
use Rattle.std.specs.Prelude.{Result, Ok, Err}

-- ---- what the writer writes

-- the blocks that were written
record Wrote (total : ℕ) (ws tx : List ℕ) (n : ℕ) : Type 0 where
  xs : List Piece
  good : Good none xs ≡ true
  flat : Flat xs ≡ true
  words : ws ≡ records 0 xs
  text : tx ≡ text_of xs
  few : length xs < 4294967296
  front : take n (write_room total ws tx) ≡ list_bytes xs

room-is : (total : ℕ) (ws tx bytes : List ℕ) {n : ℕ} → write_answer total ws tx ≡ Ok n → list_stream ws tx ≡ streamed bytes → write_room total ws tx ≡ filled total bytes
unfolding write_room content
room-is total ws tx bytes {n} e s =
    ap (λ (o : Result ℕ Refusal). content byte_layout total o (list_stream ws tx)) e
    ∙ ap (content byte_layout total (Ok n)) s
    ∙ ap (filled total) (encode-streamed bytes)

not-false : (b : Bool) → not b ≡ false → b ≡ true
not-false true e = refl
not-false false e = sym e

-- blocks whose records have no indent have none
pub flat-records : (xs : List Piece) (ws : List ℕ) → ws ≡ records 0 xs → indented (length ws / block_words) ws ≡ false → Flat xs ≡ true
flat-records xs ws e i =
    let n : length (records 0 xs) / block_words ≡ length xs = omega (arith, length-records xs 0) in
    not-false (Flat xs) (sym (indented-records xs 0) ∙ ap (λ (k : ℕ). indented k (records 0 xs)) (sym n) ∙ rw e at i)

wrote : (total : ℕ) (ws tx : List ℕ) {n : ℕ} → write_answer total ws tx ≡ Ok n → Wrote total ws tx n
wrote total ws tx {n} e =
    let done = written-done total ws tx e in
    let a : answer 0 (list_stream ws tx) ≡ Ok n = done.0 in
    let w = stream-ends ws tx a in
    let bytes : List ℕ = list_bytes w.0 in
    let s : list_stream ws tx ≡ streamed bytes = w.5 in
    let d : Ok (0 + length bytes) ≡ Ok n = sym (answer-streamed bytes 0) ∙ ap (answer 0) (sym s) ∙ a in
    let l : length bytes ≡ n = (let z : 0 + length bytes ≡ n = cc in omega (arith, z)) in
    record {
      xs = w.0;
      good = w.1;
      flat = flat-records w.0 ws w.2 done.1;
      words = w.2;
      text = w.3;
      few = w.4;
      front = ap (take n) (room-is total ws tx bytes e s) ∙ take-filled total bytes n l;
    }

capacity-text : (n t : ℕ) → n ≤ t → n ≤ 2147483647 → n ≤ text_capacity t
capacity-text n t h k = go (ltb t 2147483647)
  where
    go : (y : Bool) → n ≤ cond y t 2147483647
    go true = h
    go false = k

module _ (xs : List Piece) (good : Good none xs ≡ true) (flat : Flat xs ≡ true) (small : Small xs) (few : length xs < 4294967296) (b t : ℕ) (room : Room (records 0 xs) (text_of xs) b t) where
  l : length (records 0 xs) ≡ length xs * block_words
  l = length-records xs 0

  all_placed : placed b t (list_bytes xs) ≡ all xs
  unfolding placed
  all_placed =
      ap (roomy (capacity block_words b) (text_capacity t) none) (list_written xs good flat small few)
      ∙ roomy-all xs (capacity block_words b) (text_capacity t) none good (omega (arith, l, room.blocks)) (capacity-text (length (text_of xs)) t room.text room.counts)

  pub list-reads : Reads (list_bytes xs) xs b t
  list-reads = stored-reads (list_bytes xs) xs b t all_placed good

  reads-back : ReadsAs (list_bytes xs) (counts_in (records 0 xs) (text_of xs)) (records 0 xs) (text_of xs) b t
  reads-back =
      let z : length xs ≡ length (records 0 xs) / block_words = omega (arith, l) in
      subst (λ (k : ℕ). ReadsAs (list_bytes xs) (record { blocks = k; text = length (text_of xs) }) (records 0 xs) (text_of xs) b t) z list-reads

pub written-reads : (total : ℕ) (ws tx : List ℕ) {n : ℕ} → Words ws → write_answer total ws tx ≡ Ok n → (b t : ℕ) → Room ws tx b t
    → ReadsAs (take n (write_room total ws tx)) (counts_in ws tx) ws tx b t
written-reads total ws tx {n} small e b t room =
    let w = wrote total ws tx e in
    let sm : Small w.xs = small-records w.xs 0 (subst Words w.words small) in
    let ro : Room (records 0 w.xs) (text_of w.xs) b t = subst (λ (v : List ℕ). Room v (text_of w.xs) b t) w.words (subst (λ (v : List ℕ). Room ws v b t) w.text room) in
    let r = reads-back w.xs w.good w.flat sm w.few b t ro in
    subst (λ (v : List ℕ). ReadsAs v (counts_in ws tx) ws tx b t) (sym w.front)
    (subst (λ (v : List ℕ). ReadsAs (list_bytes w.xs) (counts_in v tx) v tx b t) (sym w.words)
    (subst (λ (v : List ℕ). ReadsAs (list_bytes w.xs) (counts_in (records 0 w.xs) v) (records 0 w.xs) v b t) (sym w.text) r))

-- ---- what the reader accepts

-- an answer that is no refusal
read_done : (ps : List Piece) (o : Result ℕ Refusal) {c : Counts} → answered ps o ≡ Ok c → (n : ℕ) × (o ≡ Ok n)
read_done ps (Ok n) e = (n, refl)
read_done ps (Err r) e = let z : ◌≡◌ {A = ℕ} 0 1 = cc in absurd (omega arith)

module _ (s : List ℕ) (b t : ℕ) (bytes : Bytes s) {c : Counts} (e : stored_answer b t s ≡ Ok c) where
  q : Stream Refusal Piece
  q = placed b t s

  done : (n : ℕ) × (answer 0 q ≡ Ok n)
  unfolding stored_answer q
  done = read_done (items q) (answer 0 q) e

  -- every block found room
  whole : q ≡ stored s
  unfolding placed q
  whole = roomy-whole (stored s) (capacity block_words b) (text_capacity t) none 0 done.1

  accepted : Accepted s (stored s)
  accepted = list_read s bytes 0 (ap (answer 0) (sym whole) ∙ done.1)

  -- the blocks of the list
  xs : List Piece
  xs = items (stored s)

  small-text : length (text_of xs) ≤ text_capacity t
  unfolding placed q xs
  small-text = subst (λ (z : Stream Refusal Piece). length (text_of (items z)) ≤ text_capacity t) whole (roomy-text (stored s) (capacity block_words b) (text_capacity t) none 0 done.1)

  reads : Reads s xs b t
  unfolding xs q
  reads = stored-reads s (items (stored s)) b t (whole ∙ accepted.whole) accepted.good

  counts : (c.blocks ≡ length xs) × (c.text ≡ length (text_of xs))
  counts = let z : Ok c ≡ Ok (record { blocks = length xs; text = length (text_of xs) }) = sym e ∙ reads.answer in (cc, cc)

  -- the blocks and the text that the rooms hold
  words : take (c.blocks * block_words) (stored_blocks b t s) ≡ records 0 xs
  words = ap (take (c.blocks * block_words)) reads.blocks ∙ take-filled b (records 0 xs) (c.blocks * block_words) (length-records xs 0 ∙ ap (λ (n : ℕ). n * block_words) (sym counts.0))

  texts : take c.text (stored_text b t s) ≡ text_of xs
  texts = ap (take c.text) reads.text ∙ take-filled t (text_of xs) c.text (sym counts.1)

  short-text : length (text_of xs) ≤ 2147483647
  short-text = go (ltb t 2147483647) refl small-text
    where
      go : (y : Bool) → ltb t 2147483647 ≡ y → length (text_of xs) ≤ cond y t 2147483647 → length (text_of xs) ≤ 2147483647
      go true i h = let k = ltb-true t 2147483647 i in omega (arith, h, k)
      go false i h = omega (arith, h)

  -- the list is written back as it was
  pub record Writes (total : ℕ) : Type 0 where
    pub answer : write_answer total (take (c.blocks * block_words) (stored_blocks b t s)) (take c.text (stored_text b t s)) ≡ Ok (length s)
    pub room : write_room total (take (c.blocks * block_words) (stored_blocks b t s)) (take c.text (stored_text b t s)) ≡ filled total s

  pub read-writes : (total : ℕ) → length s ≤ total → Writes total
  unfolding xs
  read-writes total h =
      let k : length (list_bytes xs) ≤ total = subst (λ (z : List ℕ). length z ≤ total) accepted.bytes h in
      let w = write-good xs total accepted.good accepted.flat short-text k in
      record {
        answer = rw (words, texts) (w.0 ∙ ap (λ (z : List ℕ). Ok (length z)) (sym accepted.bytes));
        room = rw (words, texts) (w.1 ∙ ap (filled total) (sym accepted.bytes));
      }

-- "one meaning has one stored form"
pub one_form : (s s' : List ℕ) (b t b' t' : ℕ) → Bytes s → Bytes s' → {c : Counts} → stored_answer b t s ≡ Ok c → stored_answer b' t' s' ≡ Ok c
    → take (c.blocks * block_words) (stored_blocks b t s) ≡ take (c.blocks * block_words) (stored_blocks b' t' s') → take c.text (stored_text b t s) ≡ take c.text (stored_text b' t' s')
    → s ≡ s'
one_form s s' b t b' t' by by' {c} e e' p r =
    let total : ℕ = length s + length s' in
    let x = read-writes s b t by e total (omega arith) in
    let y = read-writes s' b' t' by' e' total (omega arith) in
    let ws : List ℕ = take (c.blocks * block_words) (stored_blocks b t s) in
    let tx : List ℕ = take c.text (stored_text b t s) in
    let a : write_answer total ws tx ≡ Ok (length s') = subst (λ (v : List ℕ). write_answer total v tx ≡ Ok (length s')) (sym p)
    (subst (λ (v : List ℕ). write_answer total (take (c.blocks * block_words) (stored_blocks b' t' s')) v ≡ Ok (length s')) (sym r) y.answer) in
    let f : write_room total ws tx ≡ filled total s' = subst (λ (v : List ℕ). write_room total v tx ≡ filled total s') (sym p)
    (subst (λ (v : List ℕ). write_room total (take (c.blocks * block_words) (stored_blocks b' t' s')) v ≡ filled total s') (sym r) y.room) in
    let d : Ok (length s) ≡ Ok (length s') = sym x.answer ∙ a in
    let l : length s ≡ length s' = cc in
    sym (take-filled total s (length s) refl) ∙ ap (take (length s)) (sym x.room ∙ f) ∙ take-filled total s' (length s) (sym l)
