-- A list as a stream that ends, and what a room holds of its bytes.
--     count-, answer-, encode-streamed    as many items as bytes; it ends; its words are the list
--     streamed-append                     one list behind another
--     place_after                         the place behind what was written
-- Assumes nothing.
use mathlib.Core.Path.{◌≡◌, refl, sym, ap, ◌∙◌}
use mathlib.Core.List.{List, [], ◌∷◌, ◌++◌}
use Prim.Native.Nat.{ℕ, suc, ◌+◌}
use native.Mathlib.Omega.{arith}
use lib.ListN.{length}
use Rattle.rooms.specs.Streams.{Stream, ◌▸◌, and_then, count, answer, ended}
use Rattle.rooms.specs.Rooms.{Wrote, encode}
use Rattle.rooms.proofs.Streams.{answer-count}
use Rattle.sevens.specs.Sevens.{byte_layout, streamed}
use Rattle.answers.specs.declared.Refusal.{Refusal}
use Rattle.std.specs.Prelude.{Ok}

pub count-streamed : (s : List ℕ) → count (streamed s) ≡ length s
unfolding streamed count
count-streamed [] = refl
count-streamed (b ∷ s) = ap suc (count-streamed s)

pub answer-streamed : (s : List ℕ) (n : ℕ) → answer n (streamed s) ≡ Ok (n + length s)
unfolding streamed ended
answer-streamed [] n = ap Ok (let e : n ≡ n + 0 = omega arith in e)
answer-streamed (b ∷ s) n =
    answer-streamed s (n + 1) ∙ ap Ok (let e : n + 1 + length s ≡ n + suc (length s) = omega arith in e)

pub encode-streamed : (s : List ℕ) → encode byte_layout (streamed s) ≡ s
unfolding streamed encode
encode-streamed [] = refl
encode-streamed (b ∷ s) = ap (λ (l : List ℕ). b ∷ l) (encode-streamed s)

pub streamed-append : (a b : List ℕ) → streamed (a ++ b) ≡ and_then (streamed a) (streamed b)
unfolding streamed and_then
streamed-append [] b = refl
streamed-append (x ∷ a) b = ap (λ (s : Stream Refusal ℕ). x ▸ s) (streamed-append a b)

pub place_after : (s : List ℕ) {n r : ℕ} {room room' : List ℕ} → Wrote byte_layout n room (streamed s) (Ok r) room'
    → r ≡ n + length s
place_after s {n} {r} w = omega (arith, answer-count (streamed s) n r (sym w.says), count-streamed s)
