-- Place and length of a slice, written behind what its tokens show.
--     seal-in, -out          a token that the room holds, one that it does not
--     sealed_more, -none     the loop over the tokens of a slice: one more, none left
--     sealed-wrote           what a slice shows, written and then sealed, is its tokens written
-- Assumes nothing.
use mathlib.Core.Path.{◌≡◌, refl, sym, ap, ◌∙◌}
use mathlib.Core.List.{List, [], ◌∷◌, ◌++◌}
use mathlib.Core.Bool.{Bool, true, false, cond}
use Prim.Native.Nat.{ℕ, suc, ◌+◌, ◌-◌, ◌*◌, ◌≤◌, ◌<◌}
use native.Mathlib.Numerals.{towards_suc}
use native.Mathlib.Omega.{arith}
use borrow.Author.Tests.{lt-ltb, le-ltb}
use lib.ListN.{length, set}
use lib.Seq.{sets, set_comm, length-sets}
use lib.Dec.{ltb}
use Rattle.rooms.specs.Rooms.{capacity, put, put_all, Wrote}
use Rattle.rooms.specs.Streams.{Stream, end, stop, ◌▸◌, count, each}
use Rattle.rooms.proofs.Streams.{ended-count}
use Rattle.answers.specs.declared.Why.{Why}
use Rattle.tokens.specs.Tokens.{Shown, token, shown_words, token_words, record_words, record_of, slice_words, shown_layout, token_layout, sealed, sealed_all}
use Rattle.std.specs.Prelude.{Result, Ok}

-- ---- runs of stores

-- a store before a run of stores
set-sets : (ws l : List ℕ) (i j a : ℕ) → j < i → set (sets l i ws) j a ≡ sets (set l j a) i ws
set-sets [] l i j a h = refl
set-sets (w ∷ ws) l i j a h =
    set-sets ws (set l i w) (suc i) j a (omega arith) ∙ ap (λ (m : List ℕ). sets m (suc i) ws) (set_comm l i j w a (λ e. omega arith))

-- one run after the other, at places apart
sets-sets : (vs ws l : List ℕ) (i j : ℕ) → j + length vs ≤ i → sets (sets l i ws) j vs ≡ sets (sets l j vs) i ws
sets-sets [] ws l i j h = refl
sets-sets (v ∷ vs) ws l i j h =
    ap (λ (m : List ℕ). sets m (suc j) vs) (set-sets ws l i j v (omega arith)) ∙ sets-sets vs ws (set l j v) i (suc j) (omega arith)

-- one run behind the other
sets-append : (xs ys l : List ℕ) (i : ℕ) → sets (sets l i xs) (i + length xs) ys ≡ sets l i (xs ++ ys)
sets-append [] ys l i = ap (λ (k : ℕ). sets l k ys) (omega arith)
sets-append (x ∷ xs) ys l i = ap (λ (k : ℕ). sets (sets (set l i x) (suc i) xs) k ys) (omega arith) ∙ sets-append xs ys (set l i x) (suc i)

-- ---- one token

module _ (p l : ℕ) where
  pub length-sealed : (room : List ℕ) (n : ℕ) → length (sealed p l room n) ≡ length room
  unfolding sealed
  length-sealed room n = go (ltb n (capacity token_words (length room)))
    where
      go : (t : Bool) → length (cond t (sets room (n * token_words + shown_words) (slice_words p l)) room) ≡ length room
      go true = length-sets room (n * token_words + shown_words) (slice_words p l)
      go false = refl

  pub seal-in : (room : List ℕ) (n : ℕ) → n < capacity token_words (length room)
      → set (set room (n * token_words + 6) p) (n * token_words + 7) l ≡ sealed p l room n
  unfolding sealed
  seal-in room n h = rw (lt-ltb n (capacity token_words (length room)) h) (simp towards_suc)

  pub seal-out : (room : List ℕ) (n : ℕ) → capacity token_words (length room) ≤ n → room ≡ sealed p l room n
  unfolding sealed
  seal-out room n h = rw (le-ltb n (capacity token_words (length room)) h)

  -- what the token itself shows, and then its slice
  sealed-own : (room ws : List ℕ) (n : ℕ) → length ws ≡ shown_words → sealed p l (put token_words room n ws) n ≡ put token_words room n (ws ++ slice_words p l)
  unfolding sealed put
  sealed-own room ws n e = go (ltb n (capacity token_words (length room))) refl
    where
      go : (t : Bool) → ltb n (capacity token_words (length room)) ≡ t
          → cond (ltb n (capacity token_words (length (cond t (sets room (n * token_words) ws) room)))) (sets (cond t (sets room (n * token_words) ws) room) (n * token_words + shown_words) (slice_words p l)) (cond t (sets room (n * token_words) ws) room)
          ≡ cond t (sets room (n * token_words) (ws ++ slice_words p l)) room
      go true h =
          rw (length-sets room (n * token_words) ws, h)
          (ap (λ (k : ℕ). sets (sets room (n * token_words) ws) (n * token_words + k) (slice_words p l)) (sym e) ∙ sets-append ws (slice_words p l) room (n * token_words))
      go false h = rw h

  -- a later token, written before it or behind it
  sealed-put : (room ws : List ℕ) (n k : ℕ) → n < k → sealed p l (put token_words room k ws) n ≡ put token_words (sealed p l room n) k ws
  unfolding sealed put
  sealed-put room ws n k h =
      rw (length-either (ltb k c) _ (length-sets room (k * token_words) ws), length-either (ltb n c) _ (length-sets room (n * token_words + shown_words) (slice_words p l)))
      (go (ltb n c) (ltb k c))
    where
      c : ℕ
      c = capacity token_words (length room)

      length-either : (t : Bool) (x : List ℕ) → length x ≡ length room → length (cond t x room) ≡ length room
      length-either true x e = e
      length-either false x e = refl

      go : (t u : Bool) → cond t (sets (cond u (sets room (k * token_words) ws) room) (n * token_words + shown_words) (slice_words p l)) (cond u (sets room (k * token_words) ws) room)
          ≡ cond u (sets (cond t (sets room (n * token_words + shown_words) (slice_words p l)) room) (k * token_words) ws) (cond t (sets room (n * token_words + shown_words) (slice_words p l)) room)
      go true true = sets-sets (slice_words p l) ws room (k * token_words) (n * token_words + shown_words) (omega arith)
      go true false = refl
      go false true = refl
      go false false = refl

  sealed-put_all : {E : Type 0} (s : Stream E Shown) (room : List ℕ) (n k : ℕ) → n < k → sealed p l (put_all shown_layout room k s) n ≡ put_all shown_layout (sealed p l room n) k s
  unfolding put_all
  sealed-put_all end room n k h = refl
  sealed-put_all (stop r) room n k h = refl
  sealed-put_all (x ▸ s) room n k h =
      sealed-put_all s (put token_words room k (record_words (record_of x))) n (k + 1) (omega arith)
      ∙ ap (λ (m : List ℕ). put_all shown_layout m (k + 1) s) (sealed-put room (record_words (record_of x)) n k h)

  -- all tokens of a slice
  sealed-all : {E F : Type 0} (g : E → F) (s : Stream E Shown) (room : List ℕ) (n : ℕ) → sealed_all p l (put_all shown_layout room n s) n (count s) ≡ put_all token_layout room n (each g (token p l) s)
  unfolding put_all sealed_all count each
  sealed-all g end room n = refl
  sealed-all g (stop r) room n = refl
  sealed-all g (x ▸ s) room n =
      ap (λ (m : List ℕ). sealed_all p l m (n + 1) (count s)) (sealed-put_all s (put token_words room n (record_words (record_of x))) n (n + 1) (omega arith) ∙ ap (λ (m : List ℕ). put_all shown_layout m (n + 1) s) (sealed-own room (record_words (record_of x)) n refl))
      ∙ sealed-all g s (put token_words room n (record_words (record_of x) ++ slice_words p l)) (n + 1)

  pub sealed-wrote : {F : Type 0} (g : Why → F) {s : Stream Why Shown} {r : Result ℕ Why} {room room' room'' : List ℕ} {n m : ℕ} → Wrote shown_layout n room s r room' → r ≡ Ok m
      → room'' ≡ sealed_all p l room' n (m - n) → room'' ≡ put_all token_layout room n (each g (token p l) s)
  sealed-wrote g {s} {r} {room} {room'} {room''} {n} {m} w d q =
      let c : m ≡ n + count s = ended-count s n m (sym w.says ∙ d) in
      let k : m - n ≡ count s = omega arith in
      q ∙ ap (λ (z : List ℕ). sealed_all p l z n (m - n)) (w.holds m d) ∙ ap (sealed_all p l (put_all shown_layout room n s) n) k ∙ sealed-all g s room n

-- ---- the loop: i tokens from n on are sealed, and the rest are still to be

pub sealed_more : (p l : ℕ) (room : List ℕ) (i m : ℕ) → i < m → sealed_all p l room i (m - i) ≡ sealed_all p l (sealed p l room i) (i + 1) (m - (i + 1))
unfolding sealed_all
sealed_more p l room i m h =
    let k : m - i ≡ suc (m - (i + 1)) = omega arith in
    rw k

pub sealed_none : (p l : ℕ) (room : List ℕ) (i m : ℕ) → m ≤ i → sealed_all p l room i (m - i) ≡ room
unfolding sealed_all
sealed_none p l room i m h =
    let k : m - i ≡ 0 = omega arith in
    rw k
