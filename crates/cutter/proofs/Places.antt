-- What the tokens of a source show stands in the source, and so does the slice that each was cut from.
--     located-places, last-places    the tokens of a slice
--     all-places                     those of slices one after the other
--     stream-places                  those of a source
-- Assumes nothing.
use mathlib.Core.Path.{◌≡◌}
use mathlib.Core.List.{List, [], ◌∷◌, ◌++◌}
use mathlib.Core.Bool.{Bool, true, false, cond}
use Prim.Native.Nat.{ℕ, ◌+◌, ◌≤◌}
use native.Mathlib.Omega.{arith}
use lib.ListN.{length, take, drop, length-append, length-take, take-append-drop}
use lib.Dec.{ltb, eqb}
use Rattle.answers.specs.declared.Why.{Why}
use Rattle.answers.specs.declared.Why.TheVariants.{SourceTooLong, NotAscii, LastSlice}
use Rattle.answers.specs.Answers.{refusal, refusal_at}
use Rattle.classes.specs.declared.Class.TheVariants.{White}
use Rattle.classes.specs.Bytes.{in_class, body, is_high, any}
use Rattle.classes.proofs.Runs.{lead-length}
use Rattle.readings.specs.declared.Reading.{Reading}
use Rattle.rooms.specs.Streams.{end, stop, ◌▸◌}
use Rattle.slices.specs.Slices.{slices_by}
use Rattle.slices.proofs.Slices.{joined}
use Rattle.slices.proofs.Feeds.{joined-slices_by}
use Rattle.tokens.specs.Tokens.{Shown, Token, token, slice_of, slice_length_of, shown_in}
use Rattle.readings.specs.declared.Reading.TheVariants.{Plain, Paragraphs, Standard}
use Rattle.standard.specs.Closing.{is_bracket}
use Rattle.rooms.proofs.Streams.{Each, Each-then, Each-each, Each-weaken}
use Rattle.controls.proofs.Places.{Stands, stands_after, stands-before}
use Rattle.cutter.specs.Cutting.{tokens_by, located, last, last_by, all_slices, cut_by, trim_start, trimmed, token_stream}
use Rattle.cutter.proofs.ByReading.{stand-by}
use Rattle.cutter.proofs.Closing.{cut_all}

-- a token of bytes s that stand at p: what it shows stands in them, and its slice ends in them
abbrev pub PlacedIn : List ℕ → ℕ → Token → Type 0
PlacedIn s p t = Stands s p (shown_in t) × (slice_of t + slice_length_of t ≤ p + length s)

-- a token of a source: what it shows stands in the source, and so does the slice that it was cut from
abbrev pub Placed : List ℕ → Token → Type 0
Placed src t = Stands src 0 (shown_in t) × (slice_of t + slice_length_of t ≤ length src)

placed-after : (x s : List ℕ) (p : ℕ) (t : Token) → PlacedIn s (p + length x) t → PlacedIn (x ++ s) p t
placed-after x s p t h = (stands_after x s p (shown_in t) h.0, rw length-append (omega arith))

placed-before : (y s : List ℕ) (p : ℕ) (t : Token) → PlacedIn s p t → PlacedIn (s ++ y) p t
placed-before y s p t h = (stands-before y s p (shown_in t) h.0, rw length-append (omega arith))

module _ (rd : Reading) where
  pub located-places : (p : ℕ) (s : List ℕ) → Each (PlacedIn s p) (located rd p s)
  unfolding located
  located-places p s =
      Each-each (PlacedIn s p) (λ (w : Why). refusal_at w p) (token p (length s)) (tokens_by rd p s)
      (Each-weaken (Stands s p) (λ (t : Shown). PlacedIn s p (token p (length s) t)) (λ t h. (h, omega arith)) (tokens_by rd p s) (stand-by rd p s))

  pub last-places : (p : ℕ) (s : List ℕ) → Each (PlacedIn s p) (last p s)
  unfolding last
  last-places p [] = tt
  last-places p (b ∷ []) = go (eqb b 125)
    where
      go : (t : Bool) → Each (PlacedIn (b ∷ []) p) (cond t (token p 1 Shown.closing ▸ end) (stop (refusal_at LastSlice p)))
      go true = ((tt, omega arith), tt)
      go false = tt
  last-places p (b ∷ c ∷ s) = tt

  last-by-places : (d : Reading) → ((p : ℕ) (s : List ℕ) → Each (PlacedIn s p) (located d p s)) → (p : ℕ) (s : List ℕ) → Each (PlacedIn s p) (last_by d p s)
  last-by-places Plain h p s = last-places p s
  last-by-places Paragraphs h p s = last-places p s
  last-by-places Standard h p s = Each-then (PlacedIn s p) (located Standard p s) (cond (is_bracket s) end (stop (refusal_at LastSlice p))) (h p s) (go (is_bracket s))
    where
      go : (t : Bool) → Each (PlacedIn s p) (cond t end (stop (refusal_at LastSlice p)))
      go true = tt
      go false = tt

  pub all-places : (p : ℕ) (ss : List (List ℕ)) → Each (PlacedIn (joined ss) p) (all_slices rd p ss)
  unfolding all_slices joined
  all-places p [] = tt
  all-places p (s ∷ []) = Each-weaken (PlacedIn s p) _ (placed-before [] s p) (last_by rd p s) (last-by-places rd located-places p s)
  all-places p (s ∷ t ∷ ss) =
      Each-then (PlacedIn (s ++ joined (t ∷ ss)) p) (located rd p s) (all_slices rd (p + length s) (t ∷ ss))
      (Each-weaken (PlacedIn s p) _ (placed-before (joined (t ∷ ss)) s p) (located rd p s) (located-places p s))
      (Each-weaken (PlacedIn (joined (t ∷ ss)) (p + length s)) _ (placed-after s (joined (t ∷ ss)) p) (all_slices rd (p + length s) (t ∷ ss)) (all-places (p + length s) (t ∷ ss)))

  -- the trimmed source stands in the source behind its white front
  trimmed-places : (src : List ℕ) (t : Token) → PlacedIn (trimmed src) (trim_start src) t → Placed src t
  unfolding trimmed
  trimmed-places src t h =
      let k = trim_start src in
      let m = body (in_class White) (drop k src) in
      let e : 0 + length (take k src) ≡ k = rw length-take (omega (arith, lead-length (in_class White) src)) in
      let d : PlacedIn (drop k src) k t = rw take-append-drop at (placed-before (drop m (drop k src)) (take m (drop k src)) k t h) in
      let a : PlacedIn src 0 t = rw take-append-drop at (placed-after (take k src) (drop k src) 0 t (rw e d)) in
      (a.0, omega arith)

  pub stream-places : (src : List ℕ) → Each (Placed src) (token_stream rd src)
  unfolding token_stream
  stream-places src = go (ltb 65536 (length src)) (any is_high src)
    where
      go : (t u : Bool) → Each (Placed src) (cond t (stop (refusal SourceTooLong)) (cond u (stop (refusal NotAscii)) (cut_by rd (trim_start src) (slices_by rd (trimmed src)))))
      go true u = tt
      go false true = tt
      go false false =
          rw (cut_all rd src) (Each-weaken (PlacedIn (trimmed src) (trim_start src)) (Placed src) (trimmed-places src) (all_slices rd (trim_start src) (slices_by rd (trimmed src)))
          (rw (joined-slices_by rd) at (all-places (trim_start src) (slices_by rd (trimmed src)))))
