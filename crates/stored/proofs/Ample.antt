-- Lists that are read with ample rooms.
--     count-stored   a list has at most a block for each byte
--     roomy-blocks   a block room that is larger than it need be changes nothing
--     check-reads    the check's answer is the reader's, where the rooms are ample
-- Assumes nothing.
use mathlib.Core.Path.{◌≡◌, refl, sym, ap, ◌∙◌}
use mathlib.Core.List.{List, [], ◌∷◌}
use mathlib.Core.Bool.{Bool, true, false, cond, ◌&&◌}
use Prim.Native.Nat.{ℕ, zero, suc, ◌+◌, ◌-◌, ◌≤◌, ◌<◌}
use native.Mathlib.Omega.{arith}
use borrow.Author.Tests.{le-ltb, ne_eqb}
use lib.ListN.{length, drop, length-drop}
use lib.Dec.{ltb, eqb}
use Rattle.answers.specs.declared.Why.TheVariants.{TextRoom, BlockRoom}
use Rattle.answers.specs.Answers.{refusal, answer_number}
use Rattle.rooms.specs.Streams.{Stream, end, stop, ◌▸◌, items, count, answer}
use Rattle.rooms.specs.Rooms.{capacity}
use Rattle.sevens.specs.declared.Numeral.{Numeral}
use Rattle.answers.specs.declared.Why.{Why}
use Rattle.sevens.specs.Sevens.{number_of}
use Rattle.blocks.specs.Pages.{Piece, Last, none, last, starts, roomy, block_words}
use Rattle.stored.specs.declared.entry.Entry.{Entry}
use Rattle.stored.specs.Entries.{entry}
use Rattle.stored.specs.Stored.{over, entered, blocks_from, counted, stored, placed, answered, stored_answer}
use Rattle.stored.specs.Checks.{checked}
use Rattle.stored.proofs.Entries.{entry-is}
use Rattle.answers.specs.declared.Refusal.{Refusal}
use Rattle.std.specs.Prelude.{Result, Ok, Err}

count-over : (s : List ℕ) → count (over s) ≤ length s
unfolding count
count-over [] = omega arith
count-over (b ∷ s) = omega arith

count-blocks : (k : ℕ) (l : Last) (s : List ℕ) → count (blocks_from k l s) ≤ length s
unfolding blocks_from count
count-blocks zero l s = count-over s
count-blocks (suc k) l s = go (entry l s) refl (λ l' m. count-blocks k l' (drop m s))
  where
    go : (e : Result Entry Refusal) → entry l s ≡ e → ((l' : Last) (m : ℕ) → count (blocks_from k l' (drop m s)) ≤ length (drop m s))
        → count (entered e s (blocks_from k)) ≤ length s
    go (Ok x) e more =
        let w = entry-is l s e in
        let n : ℕ = x.numbers + x.text in
        let h : count (blocks_from k (last x.style) (drop n s)) ≤ length s - n = rw (length-drop n s) at (more (last x.style) n) in
        omega (arith, h, w.within, w.numbers)
    go (Err r) e more = omega arith

pub count-stored : (s : List ℕ) → count (stored s) ≤ length s
unfolding stored count
count-stored s = go (number_of s)
  where
    go : (x : Result Numeral Why) → count (counted x s) ≤ length s
    go (Ok x) = let h = count-blocks x.value none (drop x.length s) in let l = length-drop x.length s in omega (arith, h, l)
    go (Err why) = omega arith

-- the next block, by whether it starts one
one : (b t : ℕ) (y : Bool) (x : Piece) (s z : Stream Refusal Piece) → 0 < b
    → cond (y && eqb b 0) (stop (refusal BlockRoom)) (cond (ltb t (length x.bytes)) (stop (refusal TextRoom)) z) ≡ cond (ltb t (length x.bytes)) (stop (refusal TextRoom)) z
one b t true x s z h = rw (ne_eqb b 0 (λ q. omega arith))
one b t false x s z h = refl

pub roomy-blocks : (x : Stream Refusal Piece) (b c t : ℕ) (l : Last) → count x ≤ b → count x ≤ c → roomy b t l x ≡ roomy c t l x
unfolding roomy count
roomy-blocks end b c t l h k = refl
roomy-blocks (stop r) b c t l h k = refl
roomy-blocks (x ▸ s) b c t l h k =
    one b t (starts l x.style) x s (x ▸ roomy (cond (starts l x.style) (b - 1) b) (t - length x.bytes) (last x.style) s) (omega arith)
    ∙ ap (λ (z : Stream Refusal Piece). cond (ltb t (length x.bytes)) (stop (refusal TextRoom)) (x ▸ z))
    (roomy-blocks s (cond (starts l x.style) (b - 1) b) (cond (starts l x.style) (c - 1) c) (t - length x.bytes) (last x.style)
    (fewer (starts l x.style) b h) (fewer (starts l x.style) c k))
    ∙ sym (one c t (starts l x.style) x s (x ▸ roomy (cond (starts l x.style) (c - 1) c) (t - length x.bytes) (last x.style) s) (omega arith))
  where
    fewer : (y : Bool) (n : ℕ) → suc (count s) ≤ n → count s ≤ cond y (n - 1) n
    fewer true n h = omega arith
    fewer false n h = omega arith

-- "rooms counted as ample"
pub check-reads : (s : List ℕ) (b t : ℕ) → length s ≤ capacity block_words b → 2147483647 ≤ t
    → answer_number (stored_answer b t s) ≡ answer_number (checked s)
unfolding stored_answer checked placed
check-reads s b t h k =
    let c = count-stored s in
    let e : roomy (capacity block_words b) 2147483647 none (stored s) ≡ roomy (length s) 2147483647 none (stored s) =
    roomy-blocks (stored s) (capacity block_words b) (length s) 2147483647 none (omega (arith, c, h)) c in
    rw (le-ltb t 2147483647 k, e) (go (answer 0 (roomy (length s) 2147483647 none (stored s))))
  where
    go : (o : Result ℕ Refusal) → answer_number (answered (items (roomy (length s) 2147483647 none (stored s))) o) ≡ answer_number o
    go (Ok n) = refl
    go (Err r) = refl
