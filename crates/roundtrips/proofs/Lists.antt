-- A whole list without rooms, there and back.
--     good-fit, good_more       blocks that may stand one after the other, one by one
--     blocks-written, list_written   what blocks are as bytes, read
--     Read, blocks-read, list_read   what was read is its bytes
-- Assumes nothing.
use mathlib.Core.Path.{◌≡◌, refl, sym, ap, ◌∙◌}
use mathlib.Core.List.{List, [], ◌∷◌, ◌++◌, append_assoc}
use mathlib.Core.Bool.{true}
use Prim.Native.Nat.{ℕ, zero, suc, ◌+◌, ◌<◌}
use native.Mathlib.Omega.{arith}
use lib.ListN.{length, take, drop, take-append-drop}
use lib.Seq.{drop-append_seam, take-append_seam, drop-drop}
use Rattle.rooms.specs.Streams.{Stream, ◌▸◌, items, answer, ended}
use Rattle.rooms.proofs.Streams.{ok_err}
use Rattle.sevens.specs.declared.Numeral.{Numeral}
use Rattle.answers.specs.declared.Why.{Why}
use Rattle.sevens.specs.Sevens.{number_of, written}
use Rattle.sevens.proofs.Sevens.{read-written, written_read}
use Rattle.blocks.specs.Pages.{Piece, piece, Last, none, last}
use Rattle.stored.specs.declared.entry.Entry.{Entry}
use Rattle.stored.specs.Entries.{entry}
use Rattle.stored.specs.Stored.{over, entered, blocks_from, counted, stored}
use Rattle.storing.specs.Bytes.{numbers_bytes, numbers_in, block_bytes, blocks_bytes, list_bytes}
use Rattle.storing.specs.Good.{Good, Flat}
use Rattle.storing.proofs.Writing.{good-one, one-good, flat-one, one-flat}
use Rattle.roundtrips.specs.Trips.{Bytes, Small, all}
use Rattle.roundtrips.proofs.Numbers.{bytes_drop}
use Rattle.roundtrips.proofs.Blocks.{Fit, entry-written, Back, entry_read}
use Rattle.answers.specs.declared.Refusal.{Refusal}
use Rattle.std.specs.Prelude.{Result, Ok, Err}

pub good-fit : (l : Last) (x : Piece) (xs : List Piece) → Good l (x ∷ xs) ≡ true → Flat (x ∷ xs) ≡ true → Small (x ∷ xs) → Fit l x
good-fit l x xs g e (w, h, more) =
    let o = good-one l x xs g in
    record { range = o.range; some = o.some; differs = o.change; utf8 = o.whole; words = w; short = h; bare = (flat-one x xs e).0 }

good_more : (l : Last) (x : Piece) (xs : List Piece) → Fit l x → Good (last x.style) xs ≡ true → Good l (x ∷ xs) ≡ true
good_more l x xs f g = one-good l x xs (record { range = f.range; some = f.some; change = f.differs; whole = f.utf8; rest = g })

-- ---- written, then read

module _ (x : Piece) (t : List ℕ) where
  m : ℕ
  m = length (numbers_bytes (numbers_in x))

  behind-numbers : drop m (block_bytes x ++ t) ≡ x.bytes ++ t
  unfolding m block_bytes
  behind-numbers = ap (drop m) (append_assoc (numbers_bytes (numbers_in x)) x.bytes t) ∙ drop-append_seam (numbers_bytes (numbers_in x)) (x.bytes ++ t)

  pub entered-written : (l : Last) (more : Last → List ℕ → Stream Refusal Piece) → Fit l x
      → entered (entry l (block_bytes x ++ t)) (block_bytes x ++ t) more ≡ x ▸ more (last x.style) t
  unfolding m
  entered-written l more f =
      let a : take (length x.bytes) (x.bytes ++ t) ≡ x.bytes = take-append_seam x.bytes t in
      let b : drop (m + length x.bytes) (block_bytes x ++ t) ≡ t =
      sym (drop-drop (length x.bytes) m (block_bytes x ++ t)) ∙ rw behind-numbers (drop-append_seam x.bytes t) in
      rw (entry-written l x t f, b, behind-numbers, a) refl

pub blocks-written : (xs : List Piece) (l : Last) → Good l xs ≡ true → Flat xs ≡ true → Small xs → blocks_from (length xs) l (blocks_bytes xs) ≡ all xs
unfolding blocks_from blocks_bytes all
blocks-written [] l g e s = refl
blocks-written (x ∷ xs) l g e s =
    entered-written x (blocks_bytes xs) l (blocks_from (length xs)) (good-fit l x xs g e s)
    ∙ ap (λ (z : Stream Refusal Piece). x ▸ z) (blocks-written xs (last x.style) (good-one l x xs g).rest (flat-one x xs e).1 s.2)

pub list_written : (xs : List Piece) → Good none xs ≡ true → Flat xs ≡ true → Small xs → length xs < 4294967296 → stored (list_bytes xs) ≡ all xs
unfolding stored list_bytes
list_written xs g e s h =
    rw (read-written (length xs) (blocks_bytes xs) h, drop-append_seam (written (length xs)) (blocks_bytes xs)) (blocks-written xs none g e s)

-- ---- read, then written

pub record Read (k : ℕ) (l : Last) (s : List ℕ) (q : Stream Refusal Piece) : Type 0 where
  pub whole : q ≡ all (items q)
  pub bytes : s ≡ blocks_bytes (items q)
  pub good : Good l (items q) ≡ true
  pub flat : Flat (items q) ≡ true
  pub small : Small (items q)
  pub counted : length (items q) ≡ k

read-over : (l : Last) (s : List ℕ) (j : ℕ) {r : ℕ} → answer j (over s) ≡ Ok r → Read 0 l s (over s)
unfolding ended items all blocks_bytes Good Flat
read-over l [] j e = record { whole = refl; bytes = refl; good = refl; flat = refl; small = omega arith; counted = refl }
read-over l (b ∷ s) j e = absurd (ok_err (sym e))

read_more : (k : ℕ) (l : Last) (s : List ℕ) (x : Entry) (q : Stream Refusal Piece) → Back l s x → Read k (last x.style) (drop (x.numbers + x.text) s) q
    → Read (suc k) l s (piece x.style (take x.text (drop x.numbers s)) ▸ q)
unfolding items all blocks_bytes
read_more k l s x q b r = record {
  whole = ap (λ (z : Stream Refusal Piece). piece x.style (take x.text (drop x.numbers s)) ▸ z) r.whole;
  bytes = sym (take-append-drop (x.numbers + x.text) s) ∙ rw (b.bytes, ← r.bytes);
  good = good_more l (piece x.style (take x.text (drop x.numbers s))) (items q) b.fit r.good;
  flat = one-flat (piece x.style (take x.text (drop x.numbers s))) (items q) b.fit.bare r.flat;
  small = (b.fit.words, b.fit.short, r.small);
  counted = ap suc r.counted;
}

pub blocks-read : (k : ℕ) (l : Last) (s : List ℕ) → Bytes s → (j : ℕ) {r : ℕ} → answer j (blocks_from k l s) ≡ Ok r → Read k l s (blocks_from k l s)
unfolding blocks_from ended
blocks-read zero l s b j e = read-over l s j e
blocks-read (suc k) l s b j {r} e = go (entry l s) refl e (λ l' m d. blocks-read k l' (drop m s) (bytes_drop s m b) (j + 1) d)
  where
    go : (x : Result Entry Refusal) → entry l s ≡ x → answer j (entered x s (blocks_from k)) ≡ Ok r
        → ((l' : Last) (m : ℕ) → answer (j + 1) (blocks_from k l' (drop m s)) ≡ Ok r → Read k l' (drop m s) (blocks_from k l' (drop m s)))
        → Read (suc k) l s (entered x s (blocks_from k))
    go (Ok x) d f more =
        read_more k l s x (blocks_from k (last x.style) (drop (x.numbers + x.text) s)) (entry_read l s b d) (more (last x.style) (x.numbers + x.text) f)
    go (Err q) d f more = absurd (ok_err (sym f))

-- the blocks of a list that is accepted
pub record Accepted (s : List ℕ) (q : Stream Refusal Piece) : Type 0 where
  pub whole : q ≡ all (items q)
  pub bytes : s ≡ list_bytes (items q)
  pub good : Good none (items q) ≡ true
  pub flat : Flat (items q) ≡ true
  pub small : Small (items q)
  pub few : length (items q) < 4294967296

pub list_read : (s : List ℕ) → Bytes s → (j : ℕ) {r : ℕ} → answer j (stored s) ≡ Ok r → Accepted s (stored s)
unfolding stored ended list_bytes
list_read s b j {r} e = go (number_of s) refl e
  where
    go : (x : Result Numeral Why) → number_of s ≡ x → answer j (counted x s) ≡ Ok r → Accepted s (counted x s)
    go (Ok x) d f =
        let w = written_read s b d in
        let i = blocks-read x.value none (drop x.length s) (bytes_drop s x.length b) j f in
        record {
          whole = i.whole;
          bytes = sym (take-append-drop x.length s) ∙ rw (w.0, ← i.bytes, i.counted);
          good = i.good;
          flat = i.flat;
          small = i.small;
          few = rw i.counted w.1;
        }
    go (Err why) d f = absurd (ok_err (sym f))
