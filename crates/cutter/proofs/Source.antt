-- The whole source and the last slice, a law for each branch of the code. Assumes nothing.
use mathlib.Core.Path.{◌≡◌, refl, sym, ap, ◌∙◌}
use mathlib.Core.List.{List, [], ◌∷◌, ◌++◌}
use mathlib.Core.Bool.{Bool, true, false, cond, not, ◌&&◌}
use Prim.Native.Nat.{ℕ, ◌+◌, ◌-◌, ◌*◌, ◌≤◌, ◌<◌}
use native.Mathlib.Omega.{arith}
use borrow.Author.Tests.{not-true, not-false, lt-ltb, le-ltb}
use lib.ListN.{length, take, drop, replicate, length-drop}
use lib.Seq.{take_all}
use lib.Dec.{eqb}
use lib.Pointwise.{pointwise}
use Rattle.answers.specs.declared.Refusal.{Refusal}
use Rattle.answers.specs.declared.Why.TheVariants.{SourceTooLong, NotAscii, LastSlice, TokenRoom}
use Rattle.answers.specs.declared.Why.{Why}
use Rattle.answers.specs.Answers.{refusal, refusal_at}
use Rattle.classes.specs.declared.Class.TheVariants.{White}
use Rattle.classes.specs.Bytes.{is_high, in_class, lead, body, any}
use Rattle.readings.specs.declared.Reading.{Reading}
use Rattle.rooms.specs.Streams.{Stream, end, stop, ◌▸◌, count, each}
use Rattle.rooms.specs.Rooms.{capacity, put, put_all, Wrote, encode, settled, content}
use Rattle.rooms.proofs.Streams.{answer-count}
use Rattle.rooms.proofs.Rooms.{wrote_one, length-encode, put_all-front, settled-fits, settled-over}
use Rattle.slices.specs.Slices.{slices_by}
use Rattle.tokens.specs.declared.Kind.TheVariants as kinds
use Rattle.tokens.specs.declared.Record.{Record}
use Rattle.tokens.specs.Tokens.{Shown, Token, token, token_words, record_words, kind_number, bare_record, shown_layout, token_layout, sealed_all}
use Rattle.tokens.proofs.Records.{token-sized, closing-record, wrote-token}
use Rattle.tokens.proofs.Sealing.{sealed-wrote}
use Rattle.standard.specs.Closing.{is_bracket}
use Rattle.cutter.proofs.Closing.{cut_all}
use Rattle.cutter.specs.Cutting.{trim_start, last, all_slices, trimmed, token_stream, cut_answer, cut_room}
use Rattle.std.specs.Prelude.{Result, Ok, Err}

-- a slice that is `}` alone, as the code compares it
pub bracket-alone : (s t : List ℕ) → t ≡ 125 ∷ [] → pointwise eqb s t ≡ is_bracket s
bracket-alone s t e = rw e (go s)
  where
    both : (t : Bool) → t && true ≡ t
    both true = refl
    both false = refl

    none : (t : Bool) → t && false ≡ false
    none true = refl
    none false = refl

    go : (s : List ℕ) → pointwise eqb s (125 ∷ []) ≡ is_bracket s
    go [] = refl
    go (b ∷ []) = both (eqb b 125)
    go (b ∷ c ∷ s) = none (eqb b 125)

module _ (p : ℕ) (s t : List ℕ) (q : t ≡ 125 ∷ []) (r : Bool) (z : r ≡ not (pointwise eqb s t)) where
  last-at : last p s ≡ cond (is_bracket s) (token p 1 Shown.closing ▸ end) (stop (refusal_at LastSlice p))
  unfolding last
  last-at = go s
    where
      go : (s : List ℕ) → last p s ≡ cond (is_bracket s) (token p 1 Shown.closing ▸ end) (stop (refusal_at LastSlice p))
      go [] = refl
      go (b ∷ []) = refl
      go (b ∷ c ∷ s) = refl

  alone : r ≡ not (is_bracket s)
  alone = z ∙ ap not (bracket-alone s t q)

  pub last-other : r ≡ true → last p s ≡ stop (refusal_at LastSlice p)
  last-other e = let n : is_bracket s ≡ false = not-true (is_bracket s) (sym alone ∙ e) in last-at ∙ rw n

  pub last-close : r ≡ false → last p s ≡ token p 1 Shown.closing ▸ end
  last-close e = let n : is_bracket s ≡ true = not-false (is_bracket s) (sym alone ∙ e) in last-at ∙ rw n

-- the bracket's record, and then its slice
pub last-wrote : {x : Stream Refusal Token} {p n : ℕ} {room room' room'' : List ℕ} {r : Record} → x ≡ token p 1 Shown.closing ▸ end → r ≡ bare_record (kind_number kinds.Closing)
    → room' ≡ put token_words room n (record_words r) → room'' ≡ sealed_all p 1 room' n (n + 1 - n) → Wrote token_layout n room x (Ok (n + 1)) room''
unfolding each put_all
last-wrote {p = p} {n = n} {room = room} e q h k =
    let w : Wrote shown_layout n room (Shown.closing ▸ end) (Ok (n + 1)) _ = wrote-token refl (closing-record q) h in
    wrote_one token_layout e (sealed-wrote p 1 (λ (w : Why). refusal_at w p) w refl k)

module _ (rd : Reading) where
  module _ (src : List ℕ) where
    pub stream-long : 65536 < length src → token_stream rd src ≡ stop (refusal SourceTooLong)
    unfolding token_stream
    stream-long h = rw (lt-ltb 65536 (length src) h)

    module _ (h : length src ≤ 65536) (k : Bool) (q : k ≡ any is_high src) where
      pub stream-high : k ≡ true → token_stream rd src ≡ stop (refusal NotAscii)
      unfolding token_stream
      stream-high l = rw (le-ltb 65536 (length src) h, ← q, l)

      -- the trimmed source, as the code has it
      module _ (g : k ≡ false) (a e : ℕ) (x : a ≡ lead (in_class White) src) (y : e ≡ body (in_class White) (take (length src - a) (drop a src))) where
        pub stream-slices : token_stream rd src ≡ all_slices rd a (slices_by rd (take e (take (length src - a) (drop a src))))
        unfolding token_stream trimmed
        stream-slices =
            let t : take (length src - a) (drop a src) ≡ drop a src = take_all (length src - a) (drop a src) (simp length-drop (omega arith)) in
            rw (le-ltb 65536 (length src) h, ← q, g) (cut_all rd src ∙ trimmed-as t)
          where
            trimmed-as : take (length src - a) (drop a src) ≡ drop a src
                → all_slices rd (trim_start src) (slices_by rd (trimmed src)) ≡ all_slices rd a (slices_by rd (take e (take (length src - a) (drop a src))))
            trimmed-as t = rw (y, t, ← x) refl

  -- what `whole` wrote, settled
  module _ (src : List ℕ) {room room' : List ℕ} {r : Result ℕ Refusal} (w : Wrote token_layout 0 room (token_stream rd src) r room') where
    length-wrote : length room' ≡ length room
    length-wrote = w.long

    pub settle-refused : {q : Refusal} → r ≡ Err q → Err q ≡ cut_answer rd src (length room)
    unfolding cut_answer settled
    settle-refused e = ap (settled token_layout (refusal TokenRoom) (length room)) (sym e ∙ w.says)

    pub settle-fits : {n : ℕ} → r ≡ Ok n → n ≤ capacity token_words (length room') → Ok n ≡ cut_answer rd src (length room)
    unfolding cut_answer
    settle-fits {n} e h =
        sym (settled-fits token_layout (refusal TokenRoom) (length room) n (rw length-wrote at h))
        ∙ ap (settled token_layout (refusal TokenRoom) (length room)) (sym e ∙ w.says)

    pub settle-over : {n : ℕ} {q : Refusal} → r ≡ Ok n → capacity token_words (length room') < n → q ≡ refusal TokenRoom → Err q ≡ cut_answer rd src (length room)
    unfolding cut_answer
    settle-over {n} e h f =
        ap Err f
        ∙ sym (settled-over token_layout (refusal TokenRoom) (length room) n (rw length-wrote at h))
        ∙ ap (settled token_layout (refusal TokenRoom) (length room)) (sym e ∙ w.says)

    -- the room after a refusal: zeros
    pub room-refused : {q : Refusal} → Err q ≡ cut_answer rd src (length room) → {room'' : List ℕ} → room'' ≡ replicate (length room') 0 → room'' ≡ cut_room rd src (length room)
    unfolding cut_room content
    room-refused e z = z ∙ rw (← e, length-wrote)

    -- the room after success: the records, and zeros behind them
    pub room_fits : {n : ℕ} → r ≡ Ok n → n ≤ capacity token_words (length room') → {room'' : List ℕ} → room'' ≡ take (n * token_words) room' ++ replicate (length room' - n * token_words) 0 → room'' ≡ cut_room rd src (length room)
    unfolding cut_room content
    room_fits {n} e h z =
        let c : n ≡ count (token_stream rd src) = answer-count (token_stream rd src) 0 n (sym w.says ∙ e) ∙ omega arith in
        let f : take (n * token_words) room' ≡ encode token_layout (token_stream rd src) =
        rw (w.holds n e, c) (put_all-front token_layout token-sized (token_stream rd src) room (rw (c, length-wrote) at h)) in
        let l : length (encode token_layout (token_stream rd src)) ≡ n * token_words = length-encode token_layout token-sized (token_stream rd src) ∙ rw c in
        z ∙ rw (← settle-fits e h, f, length-wrote, l)
