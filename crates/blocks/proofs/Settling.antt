-- Pieces laid into two rooms, and the blocks and text that pieces are: the same (01, Body; 19 and 20).
--     roomy-.., first-..       the next piece, by whether it starts a block and finds room
--     then-..                  what laying does with it
--     meets-.., settle         where a block is open: rooms that hold what came before hold the next blocks behind it
--     begins                   the same from two rooms on
--     lay-refuses, lay-joins   by how the laying ends
--     Filled, joined-filled    rooms that are cleared behind what they hold
--     count-words              the words of a page's blocks fit their room
-- Assumes nothing.
use mathlib.Core.Path.{◌≡◌, refl, sym, ap, ◌∙◌}
use mathlib.Core.List.{List, [], ◌++◌, append-nil, append_assoc}
use mathlib.Core.Bool.{Bool, true, false, not}
use Prim.Native.Nat.{ℕ, suc, ◌+◌, ◌-◌, ◌*◌, ◌<◌, ◌≤◌}
use native.Mathlib.Nat.{div-mul-le_self, mul-le-mul_right, le_trans}
use native.Mathlib.Numerals.{add-one}
use native.Mathlib.Omega.{arith}
use borrow.Author.Tests.{lt-ltb, le-ltb, ltb-true, ltb-false, eq-eqb, ne_eqb, eqb-true, eqb-false}
use lib.ListN.{length, take, drop, replicate, length-append, length-set}
use lib.Seq.{sets, sets-eq, length-sets, length-take-le, take_at}
use lib.Dec.{ltb, eqb}
use Rattle.answers.specs.declared.Refusal.{Refusal}
use Rattle.answers.specs.declared.Why.TheVariants.{BlockRoom, TextRoom}
use Rattle.answers.specs.Answers.{refusal}
use Rattle.rooms.specs.Streams.{Stream, end, stop, ◌▸◌, count, items, answer, ended}
use Rattle.rooms.specs.Rooms.{capacity, put, filled}
use Rattle.rooms.proofs.Rooms.{put_in, length-put}
use Rattle.rooms.proofs.Clearing.{filled-front}
use Rattle.styles.specs.declared.Style.{Style}
use Rattle.styles.specs.Styles.{same_style}
use Rattle.blocks.specs.declared.Page.{Page}
use Rattle.blocks.specs.Pages.{Piece, block_words, block_record, records, text_capacity, text_of, blocks, blocks_from, none, last, starts, roomy}
use Rattle.blocks.specs.Laying.{Laying, on, off, blank, last_in, longer, measured, start_of, add_of, lay_all, Ready}
use Rattle.blocks.proofs.Writing.{twice, cap-le, start-same, start-new, start-full, append-full, append-more}
use Rattle.styles.proofs.Styles.{same_style-eq}
use Rattle.blocks.proofs.Blocks.{length-record, length-records}
use Rattle.blocks.proofs.Records.{style-last, record-grown}
use Rattle.blocks.proofs.Laying.{lay-off}
use Rattle.std.specs.Prelude.{Ok, Err}

-- words behind what stands before them
sets-take : (l : List ℕ) (i : ℕ) (vs : List ℕ) → i + length vs ≤ length l → take (i + length vs) (sets l i vs) ≡ take i l ++ vs
sets-take l i vs h =
    let n : length (take i l ++ vs) ≡ i + length vs = length-append (take i l) vs ∙ rw (length-take-le i l (omega arith)) in
    ap (take (i + length vs)) (sets-eq vs l i h) ∙ take_at (take i l ++ vs) (drop (i + length vs) l) (i + length vs) n

put-take : (b : List ℕ) (k : ℕ) (ws : List ℕ) → k < capacity block_words (length b) → length ws ≡ block_words
    → take ((k + 1) * block_words) (put block_words b k ws) ≡ take (k * block_words) b ++ ws
put-take b k ws h l =
    let n : (k + 1) * block_words ≡ k * block_words + length ws = omega arith in
    rw (← put_in block_words b k ws h, n) (sets-take b (k * block_words) ws (omega arith))

-- a page with an open block behind k others
abbrev page : ℕ → ℕ → ℕ → Page
page k n f = record { blocks = k + 1; text = n; from = f }

-- room for B blocks and C bytes is left; W are the records before the open block's, P the text before its text D
record Going (w v B C k n f : ℕ) (st : Style) (W P D b t : List ℕ) : Type 0 where
  wide : length b ≡ w
  long : length t ≡ v
  left : B + (k + 1) ≡ capacity block_words w
  room : C + n ≡ text_capacity v
  front : length P ≡ f
  behind : f + length D ≡ n
  before : length W ≡ k * block_words
  written : take ((k + 1) * block_words) b ≡ W ++ block_record st f (length D)
  text : take n t ≡ P ++ D

module _ {w v B C k n f : ℕ} {st : Style} {W P D b t : List ℕ} (g : Going w v B C k n f st W P D b t) where
  cap-left : text_capacity (length t) - n ≡ C
  cap-left = rw g.long (omega (arith, g.room))

  last-style : last_in b (k + 1) ≡ last st
  last-style = rw (add-one k) (ap last (style-last W b k st f (length D) g.before g.written))

  joins : (s : Style) (x : Bool) → same_style st s ≡ x → x ≡ not (starts (last_in b (k + 1)) s)
  joins s x e = rw last-style (sym e ∙ twice (same_style st s))

  -- text goes behind the text
  going-same : (c : List ℕ) → length c ≤ C
      → Going w v B (C - length c) k (n + length c) f st W P (D ++ c) (measured (page k (n + length c) f) b) (sets t n c)
  going-same c h =
      let l = cap-le v in
      let e : n + length c - f ≡ length (D ++ c) = rw (length-append D c) (omega (arith, g.behind)) in
      record {
        wide = length-set b ((k + 1) * block_words - 1) (n + length c - f) ∙ g.wide;
        long = length-sets t n c ∙ g.long;
        left = g.left;
        room = omega (arith, g.room, h);
        front = g.front;
        behind = rw (length-append D c) (omega (arith, g.behind));
        before = g.before;
        written = record-grown W b k st f (length D) g.before g.written (n + length c - f) ∙ rw e;
        text = sets-take t n c (omega (arith, g.room, g.long, h, l.0)) ∙ rw g.text (append_assoc P D c);
      }

  -- a block starts, without text as yet
  going-new : (s : Style) → 0 < B
      → Going w v (B - 1) C (k + 1) n n s (W ++ block_record st f (length D)) (P ++ D) [] (put block_words b (k + 1) (block_record s n 0)) t
  going-new s l = record {
    wide = length-put block_words b (k + 1) (block_record s n 0) ∙ g.wide;
    long = g.long;
    left = omega (arith, g.left, l);
    room = g.room;
    front = length-append P D ∙ rw g.front g.behind;
    behind = omega arith;
    before = length-append W (block_record st f (length D)) ∙ rw (g.before, length-record st f (length D)) (omega arith);
    written = put-take b (k + 1) (block_record s n 0) (rw g.wide (omega (arith, g.left, l))) (length-record s n 0) ∙ rw g.written;
    text = g.text ∙ sym (append-nil (P ++ D));
  }

going-first : (b t : List ℕ) (s : Style) → 0 < capacity block_words (length b)
    → Going (length b) (length t) (capacity block_words (length b) - 1) (text_capacity (length t)) 0 0 0 s [] [] [] (put block_words b 0 (block_record s 0 0)) t
going-first b t s l = record {
  wide = length-put block_words b 0 (block_record s 0 0);
  long = refl;
  left = omega (arith, l);
  room = omega arith;
  front = refl;
  behind = refl;
  before = refl;
  written = put-take b 0 (block_record s 0 0) l (length-record s 0 0);
  text = refl;
}

-- the next piece, by whether it starts a block and finds room
module _ (B C : ℕ) (st : Style) (x : Piece) (s : Stream Refusal Piece) where
  module _ (e : same_style st x.style ≡ true) where
    roomy-over : C < length x.bytes → roomy B C (last st) (x ▸ s) ≡ stop (refusal TextRoom)
    unfolding roomy
    roomy-over h = rw (e, lt-ltb C (length x.bytes) h)

    roomy-same : length x.bytes ≤ C → roomy B C (last st) (x ▸ s) ≡ x ▸ roomy B (C - length x.bytes) (last st) s
    unfolding roomy
    roomy-same h =
        rw (e, le-ltb C (length x.bytes) h)
        (ap (λ (z : Style). x ▸ roomy B (C - length x.bytes) (last z) s) (sym (same_style-eq st x.style e)))

  module _ (e : same_style st x.style ≡ false) where
    roomy-full : B ≡ 0 → roomy B C (last st) (x ▸ s) ≡ stop (refusal BlockRoom)
    unfolding roomy
    roomy-full z = rw (e, eq-eqb B 0 z)

    roomy-new-over : (B ≡ 0 → ⊥) → C < length x.bytes → roomy B C (last st) (x ▸ s) ≡ stop (refusal TextRoom)
    unfolding roomy
    roomy-new-over z h = rw (e, ne_eqb B 0 z, lt-ltb C (length x.bytes) h)

    roomy-new : (B ≡ 0 → ⊥) → length x.bytes ≤ C → roomy B C (last st) (x ▸ s) ≡ x ▸ roomy (B - 1) (C - length x.bytes) (last x.style) s
    unfolding roomy
    roomy-new z h = rw (e, ne_eqb B 0 z, le-ltb C (length x.bytes) h)

module _ (B C : ℕ) (x : Piece) (s : Stream Refusal Piece) where
  first-full : B ≡ 0 → roomy B C none (x ▸ s) ≡ stop (refusal BlockRoom)
  unfolding roomy
  first-full z = rw (eq-eqb B 0 z)

  first-over : (B ≡ 0 → ⊥) → C < length x.bytes → roomy B C none (x ▸ s) ≡ stop (refusal TextRoom)
  unfolding roomy
  first-over z h = rw (ne_eqb B 0 z, lt-ltb C (length x.bytes) h)

  first_fits : (B ≡ 0 → ⊥) → length x.bytes ≤ C → roomy B C none (x ▸ s) ≡ x ▸ roomy (B - 1) (C - length x.bytes) (last x.style) s
  unfolding roomy
  first_fits z h = rw (ne_eqb B 0 z, le-ltb C (length x.bytes) h)

-- a piece laid, by where its block is and whether its text finds room
module _ (p q : Page) (s : Style) (c b b' t : List ℕ) (e : on q b' t ≡ start_of p s b t) where
  then-over : text_capacity (length t) - q.text < length c → add_of p s c b t ≡ off (refusal TextRoom)
  unfolding add_of
  then-over h = rw (← e) (sym (append-full q c b' t refl h refl))

  then-fits : length c ≤ text_capacity (length t) - q.text
      → add_of p s c b t ≡ on (longer q (length c)) (measured (longer q (length c)) b') (sets t q.text c)
  unfolding add_of
  then-fits h = rw (← e) (sym (append-more q c b' t refl h refl))

then-full : (p : Page) (s : Style) (c b t : List ℕ) {r : Refusal} → off r ≡ start_of p s b t → add_of p s c b t ≡ off r
unfolding add_of
then-full p s c b t e = rw (← e)

-- what is in the rooms, where blocks bs with the text u came to what was there before
record Settled (w v k : ℕ) (W T : List ℕ) (place : ℕ) (bs : List Piece) (u : List ℕ) (p : Page) (b t : List ℕ) : Type 0 where
  counted : p.blocks ≡ k + length bs
  text : p.text ≡ length T + length u
  words : take (p.blocks * block_words) b ≡ W ++ records place bs
  bytes : take p.text t ≡ T ++ u
  wide : length b ≡ w
  long : length t ≡ v
  fits : p.blocks ≤ capacity block_words w
  room : p.text ≤ text_capacity v

abbrev Meets : ℕ → ℕ → ℕ → List ℕ → List ℕ → ℕ → (List Piece → List Piece) → Stream Refusal Piece → Laying → Type 0
Meets w v k W T place join q (on p b t) =
    Settled w v k W T place (join (items q)) (text_of (items q)) p b t × ((m : ℕ) → answer m q ≡ Ok (m + count q))
Meets w v k W T place join q (off r) = (m : ℕ) → answer m q ≡ Err r

more-done : (q : Stream Refusal Piece) (m n : ℕ) → answer (m + 1) q ≡ Ok (m + 1 + n) → answer (m + 1) q ≡ Ok (m + suc n)
more-done q m n e = let z : m + 1 + n ≡ m + suc n = omega arith in e ∙ rw z

module _ (w v k place : ℕ) (W : List ℕ) (x : Piece) (q : Stream Refusal Piece) where
  meets-same : (st : Style) (P D : List ℕ) → same_style st x.style ≡ true → (l : Laying)
      → Meets w v k W (P ++ (D ++ x.bytes)) place (blocks_from st (D ++ x.bytes)) q l → Meets w v k W (P ++ D) place (blocks_from st D) (x ▸ q) l
  unfolding items ended count blocks_from text_of
  meets-same st P D e (on p b t) h =
      let s = h.0 in (
        rw e (record {
          counted = s.counted;
          text = s.text ∙ simp length-append (omega arith);
          words = s.words;
          bytes = s.bytes ∙ rw (← append_assoc P D x.bytes) (append_assoc (P ++ D) x.bytes (text_of (items q)));
          wide = s.wide;
          long = s.long;
          fits = s.fits;
          room = s.room;
        }),
        λ m. more-done q m (count q) (h.1 (m + 1)),
      )
  meets-same st P D e (off r) h = λ m. h (m + 1)

  meets-new : (st : Style) (T D : List ℕ) (n : ℕ) → same_style st x.style ≡ false → place + length D ≡ n → (l : Laying)
      → Meets w v (k + 1) (W ++ block_record st place (length D)) (T ++ x.bytes) n (blocks_from x.style x.bytes) q l
      → Meets w v k W T place (blocks_from st D) (x ▸ q) l
  unfolding items ended count blocks_from text_of records
  meets-new st T D n e z (on p b t) h =
      let s = h.0 in (
        rw e (record {
          counted = s.counted ∙ (omega arith);
          text = s.text ∙ simp length-append (omega arith);
          words = s.words ∙ rw z (append_assoc W (block_record st place (length D)) (records n (blocks_from x.style x.bytes (items q))));
          bytes = s.bytes ∙ append_assoc T x.bytes (text_of (items q));
          wide = s.wide;
          long = s.long;
          fits = s.fits;
          room = s.room;
        }),
        λ m. more-done q m (count q) (h.1 (m + 1)),
      )
  meets-new st T D n e z (off r) h = λ m. h (m + 1)

  meets-first : (l : Laying) → Meets w v k W x.bytes place (blocks_from x.style x.bytes) q l → Meets w v k W [] place blocks (x ▸ q) l
  unfolding items ended count blocks text_of
  meets-first (on p b t) h =
      let s = h.0 in (
        record {
          counted = s.counted;
          text = s.text ∙ rw length-append (omega arith);
          words = s.words;
          bytes = s.bytes;
          wide = s.wide;
          long = s.long;
          fits = s.fits;
          room = s.room;
        },
        λ m. more-done q m (count q) (h.1 (m + 1)),
      )
  meets-first (off r) h = λ m. h (m + 1)

meets-stop : (w v k place : ℕ) (W T : List ℕ) (join : List Piece → List Piece) (r : Refusal) (s : Stream Refusal Piece)
    → Meets w v k W T place join (stop r) (lay_all (off r) s)
unfolding ended
meets-stop w v k place W T join r s = rw (lay-off r s) (λ m. refl)

abbrev Settles : ℕ → ℕ → Stream Refusal Piece → Type 0
Settles w v s =
    (B C k n f : ℕ) (st : Style) (W P D b t : List ℕ) → Going w v B C k n f st W P D b t
    → Meets w v k W (P ++ D) f (blocks_from st D) (roomy B C (last st) s) (lay_all (on (page k n f) b t) s)

settle-end : (w v : ℕ) → Settles w v end
unfolding lay_all roomy items ended count blocks_from text_of records
settle-end w v B C k n f st W P D b t g = (
  record {
    counted = refl;
    text = rw length-append (omega (arith, g.front, g.behind));
    words = g.written ∙ ap (λ (l : List ℕ). W ++ l) (sym (append-nil (block_record st f (length D))));
    bytes = g.text ∙ sym (append-nil (P ++ D));
    wide = g.wide;
    long = g.long;
    fits = omega (arith, g.left);
    room = omega (arith, g.room);
  },
  λ m. ap (λ (j : ℕ). Ok j) (let z : m ≡ m + 0 = omega arith in z),
)

settle-stop : (w v : ℕ) (r : Refusal) → Settles w v (stop r)
unfolding lay_all roomy ended
settle-stop w v r B C k n f st W P D b t g = λ m. refl

module _ (w v : ℕ) (x : Piece) (s : Stream Refusal Piece) (ih : Settles w v s) (B C k n f : ℕ) (st : Style) (W P D b t : List ℕ)
    (g : Going w v B C k n f st W P D b t) where
  abbrev Goal : Type 0
  Goal = Meets w v k W (P ++ D) f (blocks_from st D) (roomy B C (last st) (x ▸ s)) (lay_all (on (page k n f) b t) (x ▸ s))

  module _ (e : same_style st x.style ≡ true) where
    stays : on (page k n f) b t ≡ start_of (page k n f) x.style b t
    stays = start-same (page k n f) x.style b t (joins g x.style true e) refl

    step-over : C < length x.bytes → Goal
    unfolding lay_all
    step-over h =
        rw (roomy-over B C st x s e h, then-over (page k n f) (page k n f) x.style x.bytes b b t stays (rw (cap-left g) h))
        (meets-stop w v k f W (P ++ D) (blocks_from st D) (refusal TextRoom) s)

    step_same : length x.bytes ≤ C → Goal
    unfolding lay_all
    step_same h =
        let q : Page = page k (n + length x.bytes) f in
        rw (roomy-same B C st x s e h, then-fits (page k n f) (page k n f) x.style x.bytes b b t stays (rw (cap-left g) h))
        (meets-same w v k f W x (roomy B (C - length x.bytes) (last st) s) st P D e (lay_all (on q (measured q b) (sets t n x.bytes)) s)
        (ih B (C - length x.bytes) k (n + length x.bytes) f st W P (D ++ x.bytes) (measured q b) (sets t n x.bytes) (going-same g x.bytes h)))

  module _ (e : same_style st x.style ≡ false) where
    step-full : B ≡ 0 → Goal
    unfolding lay_all
    step-full z =
        let h : capacity block_words (length b) ≤ k + 1 = rw g.wide (omega (arith, g.left, z)) in
        let full : off (refusal BlockRoom) ≡ start_of (page k n f) x.style b t =
        start-full (page k n f) x.style b t (joins g x.style false e) refl h refl in
        rw (roomy-full B C st x s e z, then-full (page k n f) x.style x.bytes b t full)
        (meets-stop w v k f W (P ++ D) (blocks_from st D) (refusal BlockRoom) s)

    module _ (z : B ≡ 0 → ⊥) where
      abbrev b' : List ℕ
      b' = put block_words b (k + 1) (block_record x.style n 0)

      opens : on (page (k + 1) n n) b' t ≡ start_of (page k n f) x.style b t
      unfolding block_record
      opens = start-new (page k n f) x.style b t (joins g x.style false e) refl (rw g.wide (omega (arith, g.left, z))) refl

      step-new-over : C < length x.bytes → Goal
      unfolding lay_all
      step-new-over h =
          rw (roomy-new-over B C st x s e z h, then-over (page k n f) (page (k + 1) n n) x.style x.bytes b b' t opens (rw (cap-left g) h))
          (meets-stop w v k f W (P ++ D) (blocks_from st D) (refusal TextRoom) s)

      step-new : length x.bytes ≤ C → Goal
      unfolding lay_all
      step-new h =
          let q : Page = page (k + 1) (n + length x.bytes) n in
          rw (roomy-new B C st x s e z h, then-fits (page k n f) (page (k + 1) n n) x.style x.bytes b b' t opens (rw (cap-left g) h))
          (meets-new w v k f W x (roomy (B - 1) (C - length x.bytes) (last x.style) s) st (P ++ D) D n e g.behind
          (lay_all (on q (measured q b') (sets t n x.bytes)) s)
          (ih (B - 1) (C - length x.bytes) (k + 1) (n + length x.bytes) n x.style (W ++ block_record st f (length D)) (P ++ D) x.bytes
          (measured q b') (sets t n x.bytes) (going-same (going-new g x.style (omega (arith, z))) x.bytes h)))

  step : Goal
  step = at (same_style st x.style) refl (eqb B 0) refl (ltb C (length x.bytes)) refl
    where
      at : (y : Bool) → same_style st x.style ≡ y → (z : Bool) → eqb B 0 ≡ z → (u : Bool) → ltb C (length x.bytes) ≡ u → Goal
      at true e z i true h = step-over e (ltb-true C (length x.bytes) h)
      at true e z i false h = step_same e (ltb-false C (length x.bytes) h)
      at false e true i u h = step-full e (eqb-true B 0 i)
      at false e false i true h = step-new-over e (eqb-false B 0 i) (ltb-true C (length x.bytes) h)
      at false e false i false h = step-new e (eqb-false B 0 i) (ltb-false C (length x.bytes) h)

settle : (w v : ℕ) (s : Stream Refusal Piece) → Settles w v s
settle w v end = settle-end w v
settle w v (stop r) = settle-stop w v r
settle w v (x ▸ s) = step w v x s (settle w v s)

-- and from two rooms on
abbrev Begins : List ℕ → List ℕ → Stream Refusal Piece → Type 0
Begins b t s =
    Meets (length b) (length t) 0 [] [] 0 blocks (roomy (capacity block_words (length b)) (text_capacity (length t)) none s) (lay_all (on blank b t) s)

begin-end : (b t : List ℕ) → Begins b t end
unfolding lay_all roomy items ended count blocks text_of records
begin-end b t =
    let zero-le : (n : ℕ) → 0 ≤ n = λ n. omega arith in (
      record {
        counted = refl;
        text = refl;
        words = refl;
        bytes = refl;
        wide = refl;
        long = refl;
        fits = zero-le (capacity block_words (length b));
        room = zero-le (text_capacity (length t));
      },
      λ m. ap (λ (j : ℕ). Ok j) (let z : m ≡ m + 0 = omega arith in z),
    )

begin-stop : (b t : List ℕ) (r : Refusal) → Begins b t (stop r)
unfolding lay_all roomy ended
begin-stop b t r = λ m. refl

module _ (b t : List ℕ) (x : Piece) (s : Stream Refusal Piece) where
  begin-full : capacity block_words (length b) ≡ 0 → Begins b t (x ▸ s)
  unfolding lay_all
  begin-full z =
      let h : capacity block_words (length b) ≤ 0 = omega (arith, z) in
      rw (
        first-full (capacity block_words (length b)) (text_capacity (length t)) x s z,
        then-full blank x.style x.bytes b t (start-full blank x.style b t {x = false} refl refl h refl),
      )
      (meets-stop (length b) (length t) 0 0 [] [] blocks (refusal BlockRoom) s)

  module _ (z : capacity block_words (length b) ≡ 0 → ⊥) where
    abbrev b₁ : List ℕ
    b₁ = put block_words b 0 (block_record x.style 0 0)

    first-opens : on (page 0 0 0) b₁ t ≡ start_of blank x.style b t
    unfolding block_record
    first-opens = start-new blank x.style b t {x = false} refl refl (omega (arith, z)) refl

    begin-over : text_capacity (length t) < length x.bytes → Begins b t (x ▸ s)
    unfolding lay_all
    begin-over h =
        rw (
          first-over (capacity block_words (length b)) (text_capacity (length t)) x s z h,
          then-over blank (page 0 0 0) x.style x.bytes b b₁ t first-opens (omega (arith, h)),
        )
        (meets-stop (length b) (length t) 0 0 [] [] blocks (refusal TextRoom) s)

    begin-fits : length x.bytes ≤ text_capacity (length t) → Begins b t (x ▸ s)
    unfolding lay_all
    begin-fits h =
        let B : ℕ = capacity block_words (length b) - 1 in
        let C : ℕ = text_capacity (length t) - length x.bytes in
        let q : Page = page 0 (0 + length x.bytes) 0 in
        rw (
          first_fits (capacity block_words (length b)) (text_capacity (length t)) x s z h,
          then-fits blank (page 0 0 0) x.style x.bytes b b₁ t first-opens (omega (arith, h)),
        )
        (meets-first (length b) (length t) 0 0 [] x (roomy B C (last x.style) s) (lay_all (on q (measured q b₁) (sets t 0 x.bytes)) s)
        (settle (length b) (length t) s B C 0 (0 + length x.bytes) 0 x.style [] [] x.bytes (measured q b₁) (sets t 0 x.bytes)
        (going-same (going-first b t x.style (omega (arith, z))) x.bytes h)))

  begin-more : Begins b t (x ▸ s)
  begin-more = at (eqb (capacity block_words (length b)) 0) refl (ltb (text_capacity (length t)) (length x.bytes)) refl
    where
      at : (y : Bool) → eqb (capacity block_words (length b)) 0 ≡ y → (u : Bool) → ltb (text_capacity (length t)) (length x.bytes) ≡ u → Begins b t (x ▸ s)
      at true i u h = begin-full (eqb-true (capacity block_words (length b)) 0 i)
      at false i true h = begin-over (eqb-false (capacity block_words (length b)) 0 i) (ltb-true (text_capacity (length t)) (length x.bytes) h)
      at false i false h = begin-fits (eqb-false (capacity block_words (length b)) 0 i) (ltb-false (text_capacity (length t)) (length x.bytes) h)

begins : (b t : List ℕ) (s : Stream Refusal Piece) → Begins b t s
begins b t end = begin-end b t
begins b t (stop r) = begin-stop b t r
begins b t (x ▸ s) = begin-more b t x s

-- what the rooms hold when all the pieces of q are laid
pub record Joined (q : Stream Refusal Piece) (b t : List ℕ) (p : Page) (b' t' : List ℕ) : Type 0 where
  pub done : answer 0 q ≡ Ok (count q)
  pub counted : p.blocks ≡ length (blocks (items q))
  pub text : p.text ≡ length (text_of (items q))
  pub words : take (p.blocks * block_words) b' ≡ records 0 (blocks (items q))
  pub bytes : take p.text t' ≡ text_of (items q)
  pub wide : length b' ≡ length b
  pub long : length t' ≡ length t
  pub fits : p.blocks ≤ capacity block_words (length b)
  pub room : p.text ≤ text_capacity (length t)

-- the pieces that find room
abbrev pub placed : List ℕ → List ℕ → Stream Refusal Piece → Stream Refusal Piece
placed b t s = roomy (capacity block_words (length b)) (text_capacity (length t)) none s

pub lay-refuses : (s : Stream Refusal Piece) (b t : List ℕ) {r : Refusal} → lay_all (on blank b t) s ≡ off r → answer 0 (placed b t s) ≡ Err r
lay-refuses s b t e = (rw e at (begins b t s)) 0

pub lay-joins : (s : Stream Refusal Piece) (b t : List ℕ) {p : Page} {b' t' : List ℕ} → lay_all (on blank b t) s ≡ on p b' t' → Joined (placed b t s) b t p b' t'
lay-joins s b t {p} {b'} {t'} e = joined (rw e at (begins b t s))
  where
    joined : Meets (length b) (length t) 0 [] [] 0 blocks (placed b t s) (on p b' t') → Joined (placed b t s) b t p b' t'
    joined h =
        let g = h.0 in
        let z : (n : ℕ) → 0 + n ≡ n = λ n. omega arith in
        record {
          done = h.1 0 ∙ ap (λ (n : ℕ). Ok n) (z (count (placed b t s)));
          counted = g.counted ∙ z (length (blocks (items (placed b t s))));
          text = g.text ∙ z (length (text_of (items (placed b t s))));
          words = g.words;
          bytes = g.bytes;
          wide = g.wide;
          long = g.long;
          fits = g.fits;
          room = g.room;
        }

-- rooms that are cleared behind what they hold
pub record Filled (q : Stream Refusal Piece) (b t : List ℕ) (n m : ℕ) (b' t' : List ℕ) : Type 0 where
  pub counted : n ≡ length (blocks (items q))
  pub text : m ≡ length (text_of (items q))
  pub words : b' ≡ filled (length b) (records 0 (blocks (items q)))
  pub bytes : t' ≡ filled (length t) (text_of (items q))

pub joined-filled : {q : Stream Refusal Piece} {b t : List ℕ} {p : Page} {b₁ t₁ : List ℕ} → Joined q b t p b₁ t₁ → {b₂ t₂ : List ℕ}
    → b₂ ≡ take (p.blocks * block_words) b₁ ++ replicate (length b₁ - p.blocks * block_words) 0
    → t₂ ≡ take p.text t₁ ++ replicate (length t₁ - p.text) 0 → Filled q b t p.blocks p.text b₂ t₂
joined-filled {q} {b} {t} {p} {b₁} {t₁} j {b₂} {t₂} u v =
    let bl : List Piece = blocks (items q) in
    let lr : length (records 0 bl) ≡ p.blocks * block_words = length-records bl 0 ∙ rw j.counted in
    record {
      counted = j.counted;
      text = j.text;
      words = filled-front (length b) (p.blocks * block_words) (records 0 bl) b₁ b₂ u j.words lr j.wide;
      bytes = filled-front (length t) p.text (text_of (items q)) t₁ t₂ v j.bytes (sym j.text) j.long;
    }

-- the words of a page's blocks fit their room
pub count-words : {p : Page} (w v : ℕ) → Ready p w v → p.blocks * block_words ≤ w
count-words w v h = le_trans (mul-le-mul_right block_words h.page.blocks) (div-mul-le_self w block_words)
