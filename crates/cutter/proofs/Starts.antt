-- A slice starts at the place of each token of a source, and at the place that a refusal of cutting carries.
--     stream-slices   the slices of a source's tokens
--     stream-stops    a refusal
-- Assumes nothing.
use mathlib.Core.Path.{◌≡◌, refl, ap}
use mathlib.Core.List.{List, [], ◌∷◌, ◌++◌}
use mathlib.Core.Bool.{Bool, true, false, cond, ◌&&◌, ◌||◌, false≢true}
use Prim.Native.Nat.{ℕ, ◌+◌, ◌≤◌, ◌<◌}
use native.Mathlib.Omega.{arith}
use borrow.Author.Tests.{eq-eqb, eqb-true}
use lib.ListN.{length, length-append, length-take, length-drop}
use lib.Dec.{eqb, ltb}
use Rattle.answers.specs.declared.Why.{Why}
use Rattle.answers.specs.declared.Why.TheVariants.{SourceTooLong, NotAscii, LastSlice}
use Rattle.answers.specs.declared.Refusal.{Refusal}
use Rattle.answers.specs.Answers.{refusal, refusal_at, Told}
use Rattle.answers.proofs.Refusals.{told_at, told_none, told-weaken}
use Rattle.classes.specs.declared.Class.TheVariants.{White}
use Rattle.classes.specs.Bytes.{in_class, is_high, any}
use Rattle.classes.proofs.Runs.{lead-length}
use Rattle.readings.specs.declared.Reading.{Reading}
use Rattle.rooms.specs.Streams.{Stream, end, stop, ◌▸◌, and_then, each, items, answer, ended}
use Rattle.rooms.proofs.Streams.{Each, ok_err}
use Rattle.readings.specs.declared.Reading.TheVariants.{Plain, Paragraphs, Standard}
use Rattle.slices.specs.Slices.{starts_slice, onto, split, slices, slices_by, is_return, starts_with_feed, take_feed, with_feeds}
use Rattle.slices.specs.Slices.{Behind, anything, starts_standard, behind, split_standard, standard_slices}
use Rattle.slices.proofs.Slices.{joined}
use Rattle.slices.proofs.Feeds.{joined-slices_by}
use Rattle.tokens.specs.Tokens.{Shown, Token, token, slice_of}
use Rattle.standard.specs.Closing.{is_bracket}
use Rattle.cutter.specs.Cutting.{tokens_by, located, last, last_by, all_slices, cut_by, trim_start, trimmed, token_stream, starts_from, SliceAt, SlicesIn}
use Rattle.cutter.proofs.Closing.{cut_all}
use Rattle.cutter.proofs.Places.{Placed, stream-places}
use Rattle.std.specs.Prelude.{Err}

-- ---- no slice is empty

abbrev Full : List (List ℕ) → Type 0
Full [] = Unit {0}
Full (s ∷ ss) = (0 < length s) × Full ss

-- but for the first
abbrev FullTail : List (List ℕ) → Type 0
FullTail [] = Unit {0}
FullTail (s ∷ ss) = Full ss

onto-full : (b : ℕ) (ss : List (List ℕ)) → FullTail ss → Full (onto b ss)
onto-full b [] h = (omega arith, tt)
onto-full b (s ∷ ss) h = (omega arith, h)

full-tail : (ss : List (List ℕ)) → Full ss → FullTail ss
full-tail [] h = tt
full-tail (s ∷ ss) h = h.1

split-full : (before : ℕ) (s : List ℕ) → FullTail (split before s)
unfolding split
split-full before [] = tt
split-full before (b ∷ s) = go (starts_slice before b) (onto-full b (split b s) (split-full b s))
  where
    go : (t : Bool) → Full (onto b (split b s)) → FullTail (cond t ([] ∷ onto b (split b s)) (onto b (split b s)))
    go true h = h
    go false h = full-tail (onto b (split b s)) h

slices-full : (s : List ℕ) → Full (slices s)
unfolding slices
slices-full [] = tt
slices-full (b ∷ s) = onto-full b (split b s) (split-full b s)

take-full : (s : List ℕ) (ts : List (List ℕ)) → 0 < length s → Full ts → Full (take_feed s ts)
take-full s [] h f = (h, tt)
take-full s (t ∷ ts) h f = go (is_return s && starts_with_feed t)
  where
    go : (b : Bool) → Full (cond b ((s ++ t) ∷ ts) (s ∷ t ∷ ts))
    go true = (omega (arith, length-append s t), f.1)
    go false = (h, f)

feeds-full : (ss : List (List ℕ)) → Full ss → Full (with_feeds ss)
unfolding with_feeds
feeds-full [] f = tt
feeds-full (s ∷ ss) f = take-full s (with_feeds ss) f.0 (feeds-full ss f.1)

split-standard-full : (before : Behind) (s : List ℕ) → FullTail (split_standard before s)
unfolding split_standard
split-standard-full before [] = tt
split-standard-full before (b ∷ s) =
    go (starts_standard before b) (onto-full b (split_standard (behind before b) s) (split-standard-full (behind before b) s))
  where
    go : (t : Bool) → Full (onto b (split_standard (behind before b) s)) → FullTail (cond t ([] ∷ onto b (split_standard (behind before b) s)) (onto b (split_standard (behind before b) s)))
    go true h = h
    go false h = full-tail (onto b (split_standard (behind before b) s)) h

standard-full : (s : List ℕ) → Full (standard_slices s)
unfolding standard_slices
standard-full [] = tt
standard-full (b ∷ s) = onto-full b (split_standard (behind anything b) s) (split-standard-full (behind anything b) s)

slices_by-full : (rd : Reading) (s : List ℕ) → Full (slices_by rd s)
slices_by-full Plain s = slices-full s
slices_by-full Paragraphs s = feeds-full (slices s) (slices-full s)
slices_by-full Standard s = standard-full s

-- ---- where a slice starts

starts_first : (p : ℕ) (s : List ℕ) (ss : List (List ℕ)) → starts_from p p (s ∷ ss) ≡ true
unfolding starts_from
starts_first p s ss = rw (eq-eqb p p refl)

starts-later : (q p : ℕ) (s : List ℕ) (ss : List (List ℕ)) → starts_from q (p + length s) ss ≡ true → starts_from q p (s ∷ ss) ≡ true
unfolding starts_from
starts-later q p s ss h = rw h (go (eqb p q))
  where
    go : (t : Bool) → (t || true) ≡ true
    go true = refl
    go false = refl

starts-inside : (q p : ℕ) (ss : List (List ℕ)) → Full ss → starts_from q p ss ≡ true → q < p + length (joined ss)
unfolding starts_from joined
starts-inside q p [] f h = absurd (false≢true h)
starts-inside q p (s ∷ ss) f h = go (eqb p q) refl h (λ k. starts-inside q (p + length s) ss f.1 k)
  where
    go : (t : Bool) → eqb p q ≡ t → (t || starts_from q (p + length s) ss) ≡ true
        → (starts_from q (p + length s) ss ≡ true → q < p + length s + length (joined ss)) → q < p + length (s ++ joined ss)
    go true e k ih = let d : p ≡ q = eqb-true p q e in omega (arith, length-append s (joined ss), f.0)
    go false e k ih = omega (arith, length-append s (joined ss), ih k)

module _ (rd : Reading) where
  slice_at : (src : List ℕ) (q : ℕ) → starts_from q (trim_start src) (slices_by rd (trimmed src)) ≡ true → SliceAt rd src q
  unfolding trimmed
  slice_at src q h =
      let k = trim_start src in
      let j : length (joined (slices_by rd (trimmed src))) ≡ length (trimmed src) = ap length (joined-slices_by rd (trimmed src)) in
      let l : k + length (trimmed src) ≤ length src = simp (length-take, length-drop) (omega (arith, lead-length (in_class White) src)) in
      record { inside = omega (arith, starts-inside q k (slices_by rd (trimmed src)) (slices_by-full rd (trimmed src)) h); starts = h }

  -- ---- tokens and refusals of slices: each has the place of one

  abbrev All : (ℕ → Type 0) → Stream Refusal Token → Type 0
  All P end = Unit {0}
  All P (stop r) = Told P r
  All P (t ▸ s) = P (slice_of t) × All P s

  all_then : (P : ℕ → Type 0) (a b : Stream Refusal Token) → All P a → All P b → All P (and_then a b)
  unfolding and_then
  all_then P end b h k = k
  all_then P (stop r) b h k = h
  all_then P (t ▸ a) b h k = (h.0, all_then P a b h.1 k)

  all-weaken : (P Q : ℕ → Type 0) → ((q : ℕ) → P q → Q q) → (s : Stream Refusal Token) → All P s → All Q s
  all-weaken P Q f end h = tt
  all-weaken P Q f (stop r) h = told-weaken P Q f h
  all-weaken P Q f (t ▸ s) h = (f (slice_of t) h.0, all-weaken P Q f s h.1)

  all-each : (P : ℕ → Type 0) (p n : ℕ) → P p → (s : Stream Why Shown) → All P (each (λ (w : Why). refusal_at w p) (token p n) s)
  unfolding each
  all-each P p n h end = tt
  all-each P p n h (stop w) = told_at P w p h
  all-each P p n h (x ▸ s) = (h, all-each P p n h s)

  all-last : (P : ℕ → Type 0) (p : ℕ) → P p → (s : List ℕ) → All P (last p s)
  unfolding last
  all-last P p h [] = told_at P LastSlice p h
  all-last P p h (b ∷ []) = go (eqb b 125)
    where
      go : (t : Bool) → All P (cond t (token p 1 Shown.closing ▸ end) (stop (refusal_at LastSlice p)))
      go true = (h, tt)
      go false = told_at P LastSlice p h
  all-last P p h (b ∷ c ∷ s) = told_at P LastSlice p h

  all-last-by : (d : Reading) (P : ℕ → Type 0) (p : ℕ) → P p → (s : List ℕ) → All P (last_by d p s)
  unfolding located
  all-last-by Plain P p h s = all-last P p h s
  all-last-by Paragraphs P p h s = all-last P p h s
  all-last-by Standard P p h s =
      all_then P (located Standard p s) (cond (is_bracket s) end (stop (refusal_at LastSlice p))) (all-each P p (length s) h (tokens_by Standard p s)) (go (is_bracket s))
    where
      go : (t : Bool) → All P (cond t end (stop (refusal_at LastSlice p)))
      go true = tt
      go false = told_at P LastSlice p h

  -- a place at which one of the slices starts
  abbrev From : ℕ → List (List ℕ) → ℕ → Type 0
  From p ss q = starts_from q p ss ≡ true

  all-starts : (p : ℕ) (ss : List (List ℕ)) → All (From p ss) (all_slices rd p ss)
  unfolding all_slices
  all-starts p [] = tt
  all-starts p (s ∷ []) = all-last-by rd (From p (s ∷ [])) p (starts_first p s []) s
  all-starts p (s ∷ t ∷ ss) =
      all_then (From p (s ∷ t ∷ ss)) (located rd p s) (all_slices rd (p + length s) (t ∷ ss))
      (unfold located in all-each (From p (s ∷ t ∷ ss)) p (length s) (starts_first p s (t ∷ ss)) (tokens_by rd p s))
      (all-weaken (From (p + length s) (t ∷ ss)) (From p (s ∷ t ∷ ss)) (λ q h. starts-later q p s (t ∷ ss) h) (all_slices rd (p + length s) (t ∷ ss)) (all-starts (p + length s) (t ∷ ss)))

  all-stream : (src : List ℕ) → All (SliceAt rd src) (token_stream rd src)
  unfolding token_stream
  all-stream src = go (ltb 65536 (length src)) (any is_high src)
    where
      go : (t u : Bool) → All (SliceAt rd src) (cond t (stop (refusal SourceTooLong)) (cond u (stop (refusal NotAscii)) (cut_by rd (trim_start src) (slices_by rd (trimmed src)))))
      go true u = told_none (SliceAt rd src) SourceTooLong refl
      go false true = told_none (SliceAt rd src) NotAscii refl
      go false false = rw (cut_all rd src) (all-weaken (From (trim_start src) (slices_by rd (trimmed src))) (SliceAt rd src) (slice_at src) (all_slices rd (trim_start src) (slices_by rd (trimmed src))) (all-starts (trim_start src) (slices_by rd (trimmed src))))

  -- ---- of a source

  slices-in : (src : List ℕ) (s : Stream Refusal Token) → All (SliceAt rd src) s → Each (Placed src) s → SlicesIn rd src (items s)
  unfolding items
  slices-in src end h k = tt
  slices-in src (stop r) h k = tt
  slices-in src (t ▸ s) h k = (record { at = h.0; ends = k.0.1 }, slices-in src s h.1 k.1)

  -- a slice starts at the place of each token, and ends in the source
  pub stream-slices : (src : List ℕ) → SlicesIn rd src (items (token_stream rd src))
  stream-slices src = slices-in src (token_stream rd src) (all-stream src) (stream-places rd src)

  stops_at : (P : ℕ → Type 0) (s : Stream Refusal Token) (n : ℕ) {q : Refusal} → All P s → answer n s ≡ Err q → Told P q
  unfolding ended
  stops_at P end n {q} h e = absurd (ok_err e)
  stops_at P (stop r) n {q} h e = let d : r ≡ q = cc in rw d at h
  stops_at P (t ▸ s) n {q} h e = stops_at P s (n + 1) h.1 e

  -- a slice starts at the place that a refusal of cutting carries
  pub stream-stops : (src : List ℕ) {q : Refusal} → answer 0 (token_stream rd src) ≡ Err q → Told (SliceAt rd src) q
  stream-stops src e = stops_at (SliceAt rd src) (token_stream rd src) 0 (all-stream src) e
