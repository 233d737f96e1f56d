-- A token room that the cutter filled, read back: its tokens are the source's.
--     record-shown      a record
--     tokens-stream     the records of a stream
--     cut-counts        how many there are, and that they fit
--     cut-tokens        those of a source
--     cuts              so an answer and a content are all of what `cut` promises
-- Assumes nothing.
use mathlib.Core.Path.{◌≡◌, refl, sym, ap, ◌∙◌}
use mathlib.Core.List.{List, ◌∷◌, ◌++◌}
use mathlib.Core.Bool.{Bool, true, false, cond}
use Prim.Native.Nat.{ℕ, suc, ◌+◌, ◌-◌, ◌*◌, ◌≤◌, ◌<◌}
use native.Mathlib.Nat.{div-mul-le_self, mul-le-mul_right, le_trans}
use native.Mathlib.Omega.{arith}
use borrow.Author.Tests.{ne_eqb, leb-true}
use lib.ListN.{length, replicate}
use lib.Dec.{leb, eqb}
use Rattle.answers.specs.declared.Why.TheVariants.{TokenRoom}
use Rattle.answers.specs.Answers.{refusal, outcome_count}
use Rattle.readings.specs.declared.Reading.{Reading}
use Rattle.rooms.specs.Streams.{Stream, end, stop, ◌▸◌, count, items, answer}
use Rattle.rooms.specs.Rooms.{encode, capacity, filled, settled, content}
use Rattle.rooms.proofs.Streams.{Each, answer-count, ok_err}
use Rattle.tokens.specs.Tokens.{Shown, Token, token, has_of, value_of, record_of, record_words, slice_words, token_layout, token_words}
use Rattle.tokenize.proofs.Places.{At, Stands}
use Rattle.cutter.specs.Cutting.{token_stream, cut_answer, cut_room, Cuts}
use Rattle.cutter.proofs.Places.{Placed, stream-places}
use Rattle.cutter.proofs.Starts.{stream-slices}
use Rattle.cutter.proofs.Counts.{count-stream}
use Rattle.tokens.specs.declared.item.Item.TheVariants.{Unknown, Word}
use Rattle.tokens.specs.Items.{property_of, item_of, item_at, part, shown_of, token_at, tokens_all}
use Rattle.answers.specs.declared.Refusal.{Refusal}
use Rattle.std.specs.Prelude.{Result, Ok, Err, Option, Some, None}

number-back : (num : Option ℕ) → property_of (has_of num) (value_of num) ≡ num
number-back None = refl
number-back (Some v) = refl

bytes_back : (src : List ℕ) (p : ℕ) (bs : List ℕ) → At src 0 p bs → part src p (length bs) ≡ bs
unfolding part
bytes_back src p bs a = let e : p ≡ a.from = omega (arith, a.place) in rw e a.same

record-shown : (src : List ℕ) (x : Shown) (z : List ℕ) → Stands src 0 x → shown_of src (item_at (record_words (record_of x) ++ z)) ≡ x
unfolding item_at item_of record_of
record-shown src (Shown.text p bs) z h = ap (Shown.text p) (bytes_back src p bs h)
record-shown src Shown.opening z h = refl
record-shown src Shown.closing z h = refl
record-shown src Shown.line_break z h = refl
record-shown src Shown.ignorable z h = refl
record-shown src (Shown.word w num) z h =
    let q : eqb w 49 ≡ false = ne_eqb w 49 (λ e. let k : w < 49 = h.0 in omega arith) in
    ap (λ (u : Bool). shown_of src (cond u (Unknown 0 0 (property_of (has_of num) (value_of num))) (Word w (property_of (has_of num) (value_of num))))) q
    ∙ ap (Shown.word w) (number-back num)
record-shown src (Shown.unknown p bs num) z h =
    ap (λ (cs : List ℕ). Shown.unknown p cs (property_of (has_of num) (value_of num))) (bytes_back src p bs h.0) ∙ ap (Shown.unknown p bs) (number-back num)
record-shown src (Shown.symbol b num) z h = ap (Shown.symbol b) (number-back num)

-- a record's words, with those of its slice
token_back : (src : List ℕ) (t : Token) (z : List ℕ) → Placed src t → token_at src (token_layout.words t ++ z) ≡ t
token_back src (token p n x) z h = ap (token p n) (record-shown src x (slice_words p n ++ z) h.0)

tokens-stream : (src : List ℕ) (s : Stream Refusal Token) (z : List ℕ) → Each (Placed src) s → tokens_all src (count s) (encode token_layout s ++ z) ≡ items s
unfolding tokens_all count encode items
tokens-stream src end z h = refl
tokens-stream src (stop r) z h = refl
tokens-stream src (t ▸ s) z h =
    ap (λ (x : Token). x ∷ tokens_all src (count s) (encode token_layout s ++ z)) (token_back src t (encode token_layout s ++ z) h.0)
    ∙ ap (λ (xs : List Token). t ∷ xs) (tokens-stream src s z h.1)

length-items : {E A : Type 0} (s : Stream E A) → length (items s) ≡ count s
unfolding items count
length-items end = refl
length-items (stop r) = refl
length-items (x ▸ s) = ap suc (length-items s)

module _ (rd : Reading) where
  module _ (src : List ℕ) (total : ℕ) {o : Result ℕ Refusal} {n : ℕ} (e : o ≡ cut_answer rd src total) (d : o ≡ Ok n) where
    cut-counts : (n ≡ count (token_stream rd src)) × (n * token_words ≤ total)
    unfolding cut_answer settled
    cut-counts = go (answer 0 (token_stream rd src)) refl (sym d ∙ e)
      where
        pick : (m : ℕ) → answer 0 (token_stream rd src) ≡ Ok m → (u : Bool) → leb m (capacity token_words total) ≡ u → Ok n ≡ cond u (Ok m) (Err (refusal TokenRoom))
            → (n ≡ count (token_stream rd src)) × (n * token_words ≤ total)
        pick m a true b q =
            let x : n ≡ m = cc in
            let y : m ≡ 0 + count (token_stream rd src) = answer-count (token_stream rd src) 0 m a in
            let k : m ≤ capacity token_words total = leb-true m (capacity token_words total) b in
            (omega arith, rw x (le_trans (mul-le-mul_right token_words k) (div-mul-le_self total token_words)))
        pick m a false b q = absurd (ok_err q)

        go : (a : Result ℕ Refusal) → answer 0 (token_stream rd src) ≡ a → Ok n ≡ settled token_layout (refusal TokenRoom) total a → (n ≡ count (token_stream rd src)) × (n * token_words ≤ total)
        go (Ok m) a q = pick m a (leb m (capacity token_words total)) refl q
        go (Err r) a q = absurd (ok_err q)

    cut-few : n ≤ 65536
    cut-few = let h = cut-counts.0 in let k = count-stream rd src in omega arith

    -- the room's content is the records and zeros
    cut-room : cut_room rd src total ≡ filled total (encode token_layout (token_stream rd src))
    unfolding cut_room content
    cut-room = ap (λ (a : Result ℕ Refusal). content token_layout total a (token_stream rd src)) (sym e ∙ d)

    cut-tokens : {room : List ℕ} → room ≡ cut_room rd src total → tokens_all src n room ≡ items (token_stream rd src)
    cut-tokens {room} q =
        ap (λ (ws : List ℕ). tokens_all src n ws) (q ∙ cut-room)
        ∙ ap (λ (m : ℕ). tokens_all src m (filled total (encode token_layout (token_stream rd src)))) cut-counts.0
        ∙ tokens-stream src (token_stream rd src) (replicate (total - length (encode token_layout (token_stream rd src))) 0) (stream-places rd src)

  -- an answer that is no count counts nothing
  few-counted : (src : List ℕ) (total : ℕ) (o : Result ℕ Refusal) → o ≡ cut_answer rd src total → (outcome_count o ≤ 65536) × (outcome_count o * token_words ≤ total)
  few-counted src total (Ok n) e = (cut-few src total e refl, (cut-counts src total e refl).1)
  few-counted src total (Err r) e = (omega arith, omega arith)

  pub cuts : (src room : List ℕ) {r : Result ℕ Refusal} {room' : List ℕ} → r ≡ cut_answer rd src (length room) → room' ≡ cut_room rd src (length room) → Cuts rd src room r room'
  cuts src room {r} {room'} e q =
      let f = few-counted src (length room) r e in
      record {
        answer = e;
        content = q;
        few = f.0;
        fits = f.1;
        counts = λ n d. (cut-counts src (length room) e d).0 ∙ sym (length-items (token_stream rd src));
        reads = λ n d. cut-tokens src (length room) e d q;
        slices = stream-slices rd src;
      }
