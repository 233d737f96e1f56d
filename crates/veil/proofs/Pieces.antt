-- A source and its pieces, by any cutting.
--     Cut          pieces that end where they must: a bracket or a line feed alone, and others up to where the next slice starts
--     pieces-mark  a bracket or a line feed is a piece, and what follows it is cut anew
--     cut-pieces   the pieces of a source are such
--     recut        such pieces are the pieces of what they join to
-- Assumes nothing.
use mathlib.Core.Path.{◌≡◌, refl, sym, ap, subst, ◌∙◌}
use mathlib.Core.List.{List, [], ◌∷◌, ◌++◌}
use mathlib.Core.Bool.{Bool, true, false, cond, false≢true}
use Prim.Native.Nat.{ℕ, zero, suc, ◌≤◌}
use native.Mathlib.Nat.{not-suc-le-zero, le_of_suc-le-suc}
use native.Mathlib.Omega.{arith}
use lib.ListN.{length}
use Rattle.tokenize.specs.Tokenize.{is_mark}
use Rattle.slices.specs.Slices.{onto}
use Rattle.veil.specs.Veil.{part, parts, join}
use Rattle.veil.proofs.Cuttings.{Cutting}

-- t goes on without a start where q is known, and ends where r starts, or at the end
unfoldable pub fits : {Q : Type 0} → Cutting Q → Q → List ℕ → List ℕ → Bool
fits k q [] [] = true
fits k q [] (c ∷ r) = k.starts q c
fits k q (c ∷ t) r = cond (k.starts q c) false (fits k (k.next q c) t r)

-- pieces that end where they must
pub data Cut {Q : Type 0} (k : Cutting Q) : List (List ℕ) → Type 0 where
  none : Cut k []
  mark : {b : ℕ} {ps : List (List ℕ)} → is_mark b ≡ true → Cut k ps → Cut k ((b ∷ []) ∷ ps)
  run : {b : ℕ} {t : List ℕ} {ps : List (List ℕ)} → is_mark b ≡ false → fits k (k.next k.fresh b) t (join ps) ≡ true → Cut k ps → Cut k ((b ∷ t) ∷ ps)

module _ {Q : Type 0} (k : Cutting Q) where
  abbrev pub pieces_of : List ℕ → List (List ℕ)
  pieces_of s = parts (k.all s)

  -- what follows a run is cut anew
  split-run : (q : Q) (t r : List ℕ) → fits k q t r ≡ true → k.split q (t ++ r) ≡ t ∷ k.all r
  unfolding fits
  split-run q [] [] h = rw (k.split-none q, k.all_none)
  split-run q [] (c ∷ r) h = rw (k.split-more q c r, k.all_more c r, h, k.again q c h)
  split-run q (c ∷ t) r h = rw (k.split-more q c (t ++ r)) (go (k.starts q c) h (split-run (k.next q c) t r))
    where
      go : (x : Bool) → cond x false (fits k (k.next q c) t r) ≡ true → (fits k (k.next q c) t r ≡ true → k.split (k.next q c) (t ++ r) ≡ t ∷ k.all r)
          → cond x ([] ∷ onto c (k.split (k.next q c) (t ++ r))) (onto c (k.split (k.next q c) (t ++ r))) ≡ (c ∷ t) ∷ k.all r
      go true h ih = absurd (false≢true h)
      go false h ih = ap (onto c) (ih h)

  pieces-run : (b : ℕ) (t r : List ℕ) → is_mark b ≡ false → fits k (k.next k.fresh b) t r ≡ true → pieces_of (b ∷ (t ++ r)) ≡ (b ∷ t) ∷ pieces_of r
  unfolding parts part
  pieces-run b t r m h =
      ap parts (k.all_more b (t ++ r))
      ∙ ap (λ (l : List (List ℕ)). parts (onto b l)) (split-run (k.next k.fresh b) t r h)
      ∙ ap (λ (x : Bool). cond x ((b ∷ []) ∷ part t) ((b ∷ t) ∷ []) ++ parts (k.all r)) m

  pub pieces-mark : (b : ℕ) (s : List ℕ) → is_mark b ≡ true → pieces_of (b ∷ s) ≡ (b ∷ []) ∷ pieces_of s
  unfolding parts part
  pieces-mark b [] m =
      rw (k.all_more b [], k.split-none (k.next k.fresh b), k.all_none)
      (ap (λ (x : Bool). cond x ((b ∷ []) ∷ []) ((b ∷ []) ∷ []) ++ []) m)
  pieces-mark b (c ∷ s) m =
      rw (k.all_more b (c ∷ s), k.split-more (k.next k.fresh b) c s, k.all_more c s, k.marked b c m)
      (go (k.starts (k.next k.fresh b) c) (k.split (k.next k.fresh c) s))
    where
      go : (x : Bool) (l : List (List ℕ)) → parts (onto b (cond x ([] ∷ onto c l) (onto c l))) ≡ (b ∷ []) ∷ parts (onto c l)
      go true l = ap (λ (x : Bool). cond x ((b ∷ []) ∷ []) ((b ∷ []) ∷ []) ++ parts (onto c l)) m
      go false [] = ap (λ (x : Bool). cond x ((b ∷ []) ∷ part (c ∷ [])) ((b ∷ c ∷ []) ∷ []) ++ []) m
      go false (y ∷ ys) = ap (λ (x : Bool). cond x ((b ∷ []) ∷ part (c ∷ y)) ((b ∷ c ∷ y) ∷ []) ++ parts ys) m

  pub recut : {ps : List (List ℕ)} → Cut k ps → pieces_of (join ps) ≡ ps
  unfolding join parts
  recut none = rw k.all_none
  recut (mark {b} {ps} m h) = pieces-mark b (join ps) m ∙ ap (λ (l : List (List ℕ)). (b ∷ []) ∷ l) (recut h)
  recut (run {b} {t} {ps} m f h) = pieces-run b t (join ps) m f ∙ ap (λ (l : List (List ℕ)). (b ∷ t) ∷ l) (recut h)

  -- the first run of a source
  record Run (q : Q) (s : List ℕ) : Type 0 where
    front : List ℕ
    rest : List ℕ
    same : s ≡ front ++ rest
    fit : fits k q front rest ≡ true
    short : length rest ≤ length s

  first : (q : Q) (s : List ℕ) → Run q s
  unfolding fits
  first q [] = record { front = []; rest = []; same = refl; fit = refl; short = omega arith }
  first q (c ∷ s) = go (k.starts q c) refl (first (k.next q c) s)
    where
      go : (x : Bool) → k.starts q c ≡ x → Run (k.next q c) s → Run q (c ∷ s)
      go true e r = record { front = []; rest = c ∷ s; same = refl; fit = e; short = omega arith }
      go false e r =
          record {
            front = c ∷ r.front;
            rest = r.rest;
            same = ap (λ (l : List ℕ). c ∷ l) r.same;
            fit = rw e r.fit;
            short = omega arith;
          }

  -- the pieces of a source end where they must, and join to it
  abbrev Good : List ℕ → Type 0
  Good s = Cut k (pieces_of s) × (join (pieces_of s) ≡ s)

  good_none : Good []
  unfolding parts join
  good_none = rw k.all_none (none, refl)

  good-run : (b : ℕ) (t r : List ℕ) → is_mark b ≡ false → fits k (k.next k.fresh b) t r ≡ true → Good r → Good (b ∷ (t ++ r))
  unfolding join
  good-run b t r m f g =
      rw (pieces-run b t r m f) (run {b = b} {t = t} {ps = pieces_of r} m (rw g.1 f) g.0, ap (λ (l : List ℕ). b ∷ (t ++ l)) g.1)

  good-within : (n : ℕ) (s : List ℕ) → length s ≤ n → Good s
  unfolding join
  good-within zero [] h = good_none
  good-within (suc n) [] h = good_none
  good-within zero (b ∷ s) h = absurd (not-suc-le-zero h)
  good-within (suc n) (b ∷ s) h =
      let f : Run (k.next k.fresh b) s = first (k.next k.fresh b) s in
      go (is_mark b) refl f (good-within n s (le_of_suc-le-suc h)) (good-within n f.rest (omega (arith, f.short)))
    where
      go : (x : Bool) → is_mark b ≡ x → (r : Run (k.next k.fresh b) s) → Good s → Good r.rest → Good (b ∷ s)
      go true e r ih _ = rw (pieces-mark b s e) (mark e ih.0, ap (λ (l : List ℕ). b ∷ l) ih.1)
      go false e r _ ih = subst (λ (l : List ℕ). Good (b ∷ l)) (sym r.same) (good-run b r.front r.rest e r.fit ih)

  pub cut-pieces : (s : List ℕ) → Cut k (pieces_of s)
  cut-pieces s = (good-within (length s) s (omega arith)).0
