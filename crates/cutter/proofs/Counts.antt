-- A source has at most one token for each byte, and so at most 65,536. Assumes nothing.
use mathlib.Core.Path.{◌≡◌, refl, ap}
use mathlib.Core.List.{List, [], ◌∷◌, ◌++◌}
use mathlib.Core.Bool.{Bool, true, false, cond}
use Prim.Native.Nat.{ℕ, ◌+◌, ◌≤◌}
use native.Mathlib.Omega.{arith}
use borrow.Author.Tests.{ltb-false}
use lib.ListN.{length, length-append, length-take, length-drop}
use lib.Dec.{ltb, leb, eqb}
use Rattle.answers.specs.declared.Why.{Why}
use Rattle.answers.specs.declared.Why.TheVariants.{SourceTooLong, NotAscii, LastSlice, TokenRoom}
use Rattle.answers.specs.Answers.{refusal, refusal_at, outcome_count}
use Rattle.classes.specs.Bytes.{is_high, any}
use Rattle.readings.specs.declared.Reading.{Reading}
use Rattle.rooms.specs.Streams.{Stream, end, stop, ◌▸◌, and_then, count, answer}
use Rattle.rooms.specs.Rooms.{capacity, settled}
use Rattle.rooms.proofs.Streams.{count-then, count-each, answer-count}
use Rattle.slices.specs.Slices.{slices_by}
use Rattle.slices.proofs.Slices.{joined}
use Rattle.slices.proofs.Feeds.{joined-slices_by}
use Rattle.tokens.specs.Tokens.{Shown, Token, token, token_layout, token_words}
use Rattle.readings.specs.declared.Reading.TheVariants.{Plain, Paragraphs, Standard}
use Rattle.answers.specs.declared.Refusal.{Refusal}
use Rattle.standard.specs.Closing.{is_bracket}
use Rattle.cutter.specs.Cutting.{tokens_by, located, last, last_by, all_slices, cut_by, trim_start, trimmed, token_stream, cut_answer}
use Rattle.cutter.proofs.ByReading.{count_by}
use Rattle.cutter.proofs.Closing.{cut_all}
use Rattle.std.specs.Prelude.{Result, Ok, Err}

module _ (rd : Reading) where
  count-located : (p : ℕ) (s : List ℕ) → count (located rd p s) ≤ length s
  unfolding located
  count-located p s = rw (count-each (λ (w : Why). refusal_at w p) (token p (length s)) (tokens_by rd p s)) (count_by rd p s)

  -- a check behind a slice adds none
  count-check : (p : ℕ) (a : Stream Refusal Token) (t : Bool) → count (and_then a (cond t end (stop (refusal_at LastSlice p)))) ≤ count a
  unfolding count
  count-check p a true = omega (arith, count-then a end)
  count-check p a false = omega (arith, count-then a (stop (refusal_at LastSlice p)))

  count-last : (p : ℕ) (s : List ℕ) → count (last p s) ≤ length s
  unfolding last count
  count-last p [] = omega arith
  count-last p (b ∷ []) = go (eqb b 125)
    where
      go : (t : Bool) → count (cond t (token p 1 Shown.closing ▸ end) (stop (refusal_at LastSlice p))) ≤ 1
      go true = omega arith
      go false = omega arith
  count-last p (b ∷ c ∷ s) = omega arith

  count-last-by : (d : Reading) → ((p : ℕ) (s : List ℕ) → count (located d p s) ≤ length s) → (p : ℕ) (s : List ℕ) → count (last_by d p s) ≤ length s
  count-last-by Plain h p s = count-last p s
  count-last-by Paragraphs h p s = count-last p s
  count-last-by Standard h p s = omega (arith, count-check p (located Standard p s) (is_bracket s), h p s)

  count-all : (p : ℕ) (ss : List (List ℕ)) → count (all_slices rd p ss) ≤ length (joined ss)
  unfolding all_slices joined count
  count-all p [] = omega arith
  count-all p (s ∷ []) = omega (arith, count-last-by rd count-located p s, length-append s [])
  count-all p (s ∷ t ∷ ss) =
      omega (arith, count-then (located rd p s) (all_slices rd (p + length s) (t ∷ ss)), count-located p s, count-all (p + length s) (t ∷ ss), length-append s (t ++ joined ss))

  pub length-trimmed : (src : List ℕ) → length (trimmed src) ≤ length src
  unfolding trimmed
  length-trimmed src = simp (length-take, length-drop) (omega arith)

  pub count-stream : (src : List ℕ) → count (token_stream rd src) ≤ 65536
  unfolding token_stream count
  count-stream src = go (ltb 65536 (length src)) refl (any is_high src)
    where
      go : (t : Bool) → ltb 65536 (length src) ≡ t → (u : Bool)
          → count (cond t (stop (refusal SourceTooLong)) (cond u (stop (refusal NotAscii)) (cut_by rd (trim_start src) (slices_by rd (trimmed src))))) ≤ 65536
      go true e u = omega arith
      go false e true = omega arith
      go false e false =
          let j : length (joined (slices_by rd (trimmed src))) ≡ length (trimmed src) = ap length (joined-slices_by rd (trimmed src)) in
          rw (cut_all rd src) (omega (arith, count-all (trim_start src) (slices_by rd (trimmed src)), length-trimmed src, ltb-false 65536 (length src) e))

  -- the count of an answer
  pub count-answer : (src : List ℕ) (total : ℕ) → outcome_count (cut_answer rd src total) ≤ 65536
  unfolding cut_answer settled
  count-answer src total = go (answer 0 (token_stream rd src)) refl
    where
      pick : (n : ℕ) → n ≤ 65536 → (t : Bool) → outcome_count (cond t (Ok n) (Err (refusal TokenRoom))) ≤ 65536
      pick n h true = h
      pick n h false = omega arith

      go : (o : Result ℕ Refusal) → answer 0 (token_stream rd src) ≡ o → outcome_count (settled token_layout (refusal TokenRoom) total o) ≤ 65536
      go (Ok n) e = pick n (omega (arith, answer-count (token_stream rd src) 0 n e, count-stream src)) (leb n (capacity token_words total))
      go (Err r) e = omega arith

  -- the same, in a caller's terms
  pub counted : (src : List ℕ) (total : ℕ) {o : Result ℕ Refusal} {k : ℕ} → o ≡ cut_answer rd src total → k ≡ outcome_count o → k ≤ 65536
  counted src total e q = rw (q, e) (count-answer src total)
