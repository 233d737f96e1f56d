-- What was written, and the room at the end.
--     settle-fits, -over, -refused the room holds it, it does not, it is a refusal
--     written-done                 what is known of what was written
--     settle-answer, settle-room   the answer, and the room with zeros behind the list
-- Assumes nothing.
use mathlib.Core.Path.{◌≡◌, refl, sym, ap, ◌∙◌}
use mathlib.Core.List.{List, ◌++◌}
use mathlib.Core.Bool.{Bool, true, false, cond}
use Prim.Native.Nat.{ℕ, ◌-◌, ◌*◌, ◌/◌, ◌≤◌, ◌<◌}
use native.Mathlib.Omega.{arith}
use borrow.Author.Tests.{leb-true}
use lib.ListN.{length, take, replicate}
use lib.Dec.{leb}
use Rattle.answers.specs.declared.Refusal.{Refusal}
use Rattle.answers.specs.declared.Why.TheVariants.{OutputRoom}
use Rattle.answers.specs.Answers.{refusal, outcome_count}
use Rattle.rooms.specs.Streams.{Stream, count, answer}
use Rattle.rooms.specs.Rooms.{Wrote, encode, settled, content}
use Rattle.rooms.proofs.Streams.{answer-count, ok_err}
use Rattle.rooms.proofs.Rooms.{length-encode, put_all-front, settled-fits, settled-over}
use Rattle.rooms.proofs.Clearing.{cleared, filled-front}
use Rattle.sevens.specs.Sevens.{byte_layout}
use Rattle.storing.proofs.Putting.{wrote-length}
use Rattle.storing.specs.Lists.{list_stream}
use Rattle.blocks.specs.Pages.{block_words}
use Rattle.storing.specs.Storing.{indented, unless_indented, list_answer, write_answer, write_room}
use Rattle.std.specs.Prelude.{Result, Ok, Err}

module _ {o : Result ℕ Refusal} (total : ℕ) where
  pub settle-fits : {n : ℕ} → o ≡ Ok n → n ≤ total → Ok n ≡ settled byte_layout (refusal OutputRoom) total o
  settle-fits {n} e h = rw e (sym (settled-fits byte_layout (refusal OutputRoom) total n (omega arith)))

  pub settle-over : {n : ℕ} → o ≡ Ok n → total < n → {r : Refusal} → r ≡ refusal OutputRoom → Err r ≡ settled byte_layout (refusal OutputRoom) total o
  settle-over {n} e h {r} q = rw (e, q) (sym (settled-over byte_layout (refusal OutputRoom) total n (omega arith)))

  pub settle-refused : {r : Refusal} → o ≡ Err r → Err r ≡ settled byte_layout (refusal OutputRoom) total o
  unfolding settled
  settle-refused e = rw e

-- what is settled was written, and the room holds it
settled-done : (o : Result ℕ Refusal) (total m : ℕ) → settled byte_layout (refusal OutputRoom) total o ≡ Ok m
    → (o ≡ Ok m) × (m ≤ total)
unfolding settled
settled-done (Ok n) total m = go (leb n (total / 1)) refl
  where
    go : (t : Bool) → leb n (total / 1) ≡ t → cond t (Ok n) (Err (refusal OutputRoom)) ≡ Ok m
        → (◌≡◌ {A = Result ℕ Refusal} (Ok n) (Ok m)) × (m ≤ total)
    go true e d = let k : n ≡ m = cc in (d, omega (arith, leb-true n (total / 1) e))
    go false e d = absurd (ok_err (sym d))
settled-done (Err r) total m = λ d. absurd (ok_err (sym d))

-- what is left by the indents was written, and there are none
unindented-done : (i : Bool) (o : Result ℕ Refusal) {n : ℕ} → unless_indented i o ≡ Ok n → (o ≡ Ok n) × (i ≡ false)
unindented-done true (Ok m) e = absurd (ok_err (sym e))
unindented-done false (Ok m) e = (e, refl)
unindented-done true (Err r) e = absurd (ok_err (sym e))
unindented-done false (Err r) e = absurd (ok_err (sym e))

-- an answer that is a count: the list is written, no block has an indent, and the room holds the list
pub written-done : (total : ℕ) (ws tx : List ℕ) {n : ℕ} → write_answer total ws tx ≡ Ok n
    → (answer 0 (list_stream ws tx) ≡ Ok n) × (indented (length ws / block_words) ws ≡ false) × (n ≤ total)
unfolding write_answer list_answer
written-done total ws tx {n} e =
    let q = settled-done (list_answer ws tx) total n e in
    let u = unindented-done (indented (length ws / block_words) ws) (answer 0 (list_stream ws tx)) q.0 in
    (u.0, u.1, q.1)

module _ (ws tx : List ℕ) {room room' : List ℕ} {o b r : Result ℕ Refusal} (w : Wrote byte_layout 0 room (list_stream ws tx) o room')
    (u : b ≡ unless_indented (indented (length ws / block_words) ws) o) (e : r ≡ settled byte_layout (refusal OutputRoom) (length room') b) where
  pub settle-answer : r ≡ write_answer (length room) ws tx
  unfolding write_answer list_answer
  settle-answer = e ∙ rw (wrote-length w, u, w.says)

  module _ {n : ℕ} {room'' : List ℕ} (z : room'' ≡ take n room' ++ replicate (length room' - n) 0) where
    refused-room : n ≡ 0 → room'' ≡ replicate (length room) 0
    refused-room k = cleared room' (z ∙ rw k) ∙ rw (wrote-length w)

    done-room : r ≡ Ok n → room'' ≡ content byte_layout (length room) (Ok n) (list_stream ws tx)
    unfolding content
    done-room d =
        let s : Stream Refusal ℕ = list_stream ws tx in
        let q = settled-done b (length room') n (sym e ∙ d) in
        let v : o ≡ Ok n = (unindented-done (indented (length ws / block_words) ws) o (sym u ∙ q.0)).0 in
        let c : n ≡ count s = answer-count s 0 n (sym w.says ∙ v) ∙ omega arith in
        let k : n ≡ count s * 1 = omega arith in
        let f : take (count s * 1) room' ≡ encode byte_layout s =
        rw (w.holds n v) (put_all-front byte_layout (λ x. refl) s room (omega (arith, wrote-length w, q.1))) in
        let l : length (encode byte_layout s) ≡ n = length-encode byte_layout (λ x. refl) s ∙ sym k in
        filled-front (length room) n (encode byte_layout s) room' _ z (ap (λ (i : ℕ). take i room') k ∙ f) l (wrote-length w)

    pub settle-room : n ≡ outcome_count r → room'' ≡ write_room (length room) ws tx
    unfolding write_room content
    settle-room = go r refl
      where
        holds : Result ℕ Refusal → List ℕ
        holds a = content byte_layout (length room) a (list_stream ws tx)

        go : (q : Result ℕ Refusal) → r ≡ q → n ≡ outcome_count q → room'' ≡ write_room (length room) ws tx
        go (Ok m) d k =
            let f : r ≡ Ok n = d ∙ ap Ok (sym k) in
            done-room f ∙ ap holds (sym f ∙ settle-answer)
        go (Err f) d k = refused-room k ∙ ap holds (sym d ∙ settle-answer)
