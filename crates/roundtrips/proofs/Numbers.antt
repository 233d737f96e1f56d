-- Numbers one after the other, there and back.
-- Assumes nothing.
use mathlib.Core.Path.{◌≡◌, refl, ap, ◌∙◌}
use mathlib.Core.List.{List, [], ◌∷◌, ◌++◌, append_assoc}
use Prim.Native.Nat.{ℕ, zero, suc, ◌≤◌, ◌<◌}
use native.Mathlib.Omega.{arith}
use lib.ListN.{length, take, drop, length-append}
use lib.Seq.{drop-append_seam, take-add}
use Rattle.answers.specs.Answers.{Found, found, refused}
use Rattle.sevens.specs.declared.Numeral.{Numeral}
use Rattle.answers.specs.declared.Why.{Why}
use Rattle.std.specs.Prelude.{Result, Ok, Err}
use Rattle.sevens.specs.Sevens.{number_of, written}
use Rattle.sevens.proofs.Sevens.{read-written, written_read}
use Rattle.stored.specs.Entries.{Numbers, behind, and_more, numbers_from}
use Rattle.storing.specs.Bytes.{numbers_bytes}
use Rattle.roundtrips.specs.Trips.{Bytes, Words}

-- the rest of a list of bytes
pub bytes_drop : (s : List ℕ) (n : ℕ) → Bytes s → Bytes (drop n s)
bytes_drop s zero h i = h i
bytes_drop [] (suc n) h i = h i
bytes_drop (b ∷ s) (suc n) h i = bytes_drop s n (λ j. h (suc j)) i

numbers-one : (k n : ℕ) (s : List ℕ) → n < 4294967296 → numbers_from (suc k) (written n ++ s) ≡ behind (n ∷ []) (length (written n)) (numbers_from k s)
unfolding numbers_from
numbers-one k n s h = rw (read-written n s h, drop-append_seam (written n) s)

pub numbers-written : (ns s : List ℕ) → Words ns → numbers_from (length ns) (numbers_bytes ns ++ s) ≡ found (record { values = ns; size = length (numbers_bytes ns) })
unfolding numbers_bytes numbers_from
numbers-written [] s w = refl
numbers-written (n ∷ ns) s w =
    ap (numbers_from (suc (length ns))) (append_assoc (written n) (numbers_bytes ns) s)
    ∙ numbers-one (length ns) n (numbers_bytes ns ++ s) (w 0)
    ∙ rw (numbers-written ns s (λ i. w (suc i)), length-append (written n) (numbers_bytes ns))

-- numbers that were read stand there as they are written
abbrev pub ReadBack : List ℕ → Found Numbers → Type 0
ReadBack s (found q) = (take q.size s ≡ numbers_bytes q.values) × Words q.values
ReadBack s (refused r) = 0 ≤ length s

words-cons : (n : ℕ) (ns : List ℕ) → n < 4294967296 → Words ns → Words (n ∷ ns)
words-cons n ns h w zero = h
words-cons n ns h w (suc i) = w i

back_more : (s : List ℕ) (v n : ℕ) (x : Found Numbers) → take n s ≡ written v → v < 4294967296 → ReadBack (drop n s) x → ReadBack s (behind (v ∷ []) n x)
unfolding numbers_bytes
back_more s v n (found q) e h (a, w) = (take-add n q.size s ∙ rw (e, a), words-cons v q.values h w)
back_more s v n (refused r) e h g = omega arith

pub numbers-read : (k : ℕ) (s : List ℕ) → Bytes s → ReadBack s (numbers_from k s)
unfolding numbers_from numbers_bytes
numbers-read zero s b = (refl, λ i. omega arith)
numbers-read (suc k) s b = go (number_of s) refl (λ n. numbers-read k (drop n s) (bytes_drop s n b))
  where
    go : (x : Result Numeral Why) → number_of s ≡ x → ((n : ℕ) → ReadBack (drop n s) (numbers_from k (drop n s))) → ReadBack s (and_more x (λ (n : ℕ). numbers_from k (drop n s)))
    go (Ok x) e more = let w = written_read s b e in back_more s x.value x.length (numbers_from k (drop x.length s)) w.0 w.1 (more x.length)
    go (Err why) e more = omega arith
