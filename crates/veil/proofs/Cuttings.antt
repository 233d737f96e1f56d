-- A cutting, as far as the veil needs it: where a slice starts, by what is known of the bytes before it. The slices of plain reading and those
-- of standard reading are two; what is said of pieces is said of any.
--     Cutting                    a cutting, with the laws that pieces rest on
--     mark-plain, plain-mark     a bracket or a line feed is no backslash, and is special
--     behind-again, mark-behind  in standard reading, what is forgotten where a slice starts, and behind such a byte
--     crate, standard            the two
--     Inner, all-inner           the second byte of a slice starts none
-- Assumes nothing.
use mathlib.Core.Path.{◌≡◌, refl, sym, ap, subst, ◌∙◌}
use mathlib.Core.List.{List, [], ◌∷◌}
use mathlib.Core.Bool.{Bool, true, false, cond, not, ◌&&◌, ◌||◌, and-true, false≢true}
use Prim.Native.Nat.{ℕ}
use lib.Dec.{eqb}
use borrow.Author.Tests.{eqb-true}
use Rattle.classes.specs.Bytes.{is_special}
use Rattle.classes.proofs.Runs.{or_left}
use Rattle.tokenize.specs.Tokenize.{is_mark}
use Rattle.slices.specs.Slices.{starts_slice, onto, split, slices, Behind, anything, escape, return, starts_standard, behind, split_standard, standard_slices}

-- Q is what is known of the bytes before. `again`: where a slice starts, it is forgotten; `marked`: so it is behind a bracket or a line feed
-- that starts a slice; `stops`: and another such byte starts the next one there
pub record Cutting (Q : Type 0) : Type 0 where
  pub starts : Q → ℕ → Bool
  pub next : Q → ℕ → Q
  pub fresh : Q
  pub again : (q : Q) (b : ℕ) → starts q b ≡ true → next q b ≡ next fresh b
  pub marked : (b c : ℕ) → is_mark b ≡ true → next (next fresh b) c ≡ next fresh c
  pub stops : (b c : ℕ) → is_mark b ≡ true → starts (next fresh b) c ≡ false → is_mark c ≡ false
  -- `\*` goes on up to a closing bracket
  pub mutes : starts (next fresh 92) 42 ≡ false
  pub closes : starts (next (next fresh 92) 42) 125 ≡ true
  pub split : Q → List ℕ → List (List ℕ)
  pub split-none : (q : Q) → split q [] ≡ [] ∷ []
  pub split-more : (q : Q) (b : ℕ) (s : List ℕ) → split q (b ∷ s) ≡ cond (starts q b) ([] ∷ onto b (split (next q b) s)) (onto b (split (next q b) s))
  pub all : List ℕ → List (List ℕ)
  pub all_none : all [] ≡ []
  pub all_more : (b : ℕ) (s : List ℕ) → all (b ∷ s) ≡ onto b (split (next fresh b) s)

-- ---- brackets and line feeds

-- such a byte is no backslash
pub mark-plain : (b : ℕ) → is_mark b ≡ true → eqb b 92 ≡ false
mark-plain b m = go (eqb b 92) refl
  where
    go : (t : Bool) → eqb b 92 ≡ t → t ≡ false
    go true e = absurd (false≢true (subst (λ (k : ℕ). is_mark k ≡ true) (eqb-true b 92 e) m))
    go false e = refl

-- and is special
pub plain-mark : (c : ℕ) → is_special c ≡ false → is_mark c ≡ false
plain-mark c = go (eqb c 92) (eqb c 123) (eqb c 125) (eqb c 10)
  where
    go : (w x y z : Bool) → w || (x || (y || z)) ≡ false → (x || y) || z ≡ false
    go true x y z h = absurd (false≢true (sym h))
    go false true y z h = h
    go false false true z h = h
    go false false false z h = h

-- ---- the two cuttings

-- the byte before is known
unfoldable pub crate : Cutting ℕ
unfolding split slices
crate = record {
  starts = starts_slice;
  next = λ q b. b;
  fresh = 32;
  again = λ q b e. refl;
  marked = λ b c m. refl;
  stops = λ b c m e. plain-mark c (sym (and-true (is_special c)) ∙ ap (λ (t : Bool). is_special c && not t) (sym (mark-plain b m)) ∙ e);
  mutes = refl;
  closes = refl;
  split = split;
  split-none = λ q. refl;
  split-more = λ q b s. refl;
  all = slices;
  all_none = refl;
  all_more = λ b s. refl;
}

pub behind-again : (q : Behind) (b : ℕ) → starts_standard q b ≡ true → behind q b ≡ behind anything b
behind-again anything b e = refl
behind-again escape b e = absurd (false≢true e)
behind-again return b e = refl

-- behind a bracket or a line feed that starts a slice nothing is known
pub mark-behind : (b : ℕ) → is_mark b ≡ true → behind anything b ≡ anything
mark-behind b m = rw (mark-plain b m)

unfoldable pub standard : Cutting Behind
unfolding split_standard standard_slices
standard = record {
  starts = starts_standard;
  next = behind;
  fresh = anything;
  again = behind-again;
  marked = λ b c m. ap (λ (q : Behind). behind q c) (mark-behind b m);
  stops = λ b c m e. plain-mark c (or_left (is_special c) (eqb c 13) (ap (λ (q : Behind). starts_standard q c) (sym (mark-behind b m)) ∙ e));
  mutes = refl;
  closes = refl;
  split = split_standard;
  split-none = λ q. refl;
  split-more = λ q b s. refl;
  all = standard_slices;
  all_none = refl;
  all_more = λ b s. refl;
}

-- ---- slices

module _ {Q : Type 0} (k : Cutting Q) where
  -- the second byte of a slice starts none
  abbrev pub Inner : List ℕ → Type 0
  Inner [] = Unit {0}
  Inner (b ∷ []) = Unit {0}
  Inner (b ∷ c ∷ s) = k.starts (k.next k.fresh b) c ≡ false

  abbrev pub Inners : List (List ℕ) → Type 0
  Inners [] = Unit {0}
  Inners (s ∷ ss) = Inner s × Inners ss

  -- nor does the first of what is left of a slice, where q is known
  abbrev Begun : Q → List (List ℕ) → Type 0
  Begun q [] = Unit {0}
  Begun q ([] ∷ ss) = Inners ss
  Begun q ((c ∷ s) ∷ ss) = (k.starts q c ≡ false) × Inners ss

  onto-inner : (b : ℕ) (ss : List (List ℕ)) → Begun (k.next k.fresh b) ss → Inners (onto b ss)
  onto-inner b [] h = (tt, tt)
  onto-inner b ([] ∷ ss) h = (tt, h)
  onto-inner b ((c ∷ s) ∷ ss) h = (h.0, h.1)

  split-begun : (q : Q) (s : List ℕ) → Begun q (k.split q s)
  split-begun q [] = rw (k.split-none q) tt
  split-begun q (b ∷ s) = rw (k.split-more q b s) (go (k.starts q b) refl (k.split (k.next q b) s) (split-begun (k.next q b) s))
    where
      behind-first : (ss : List (List ℕ)) → Begun (k.next q b) ss → (e : k.starts q b ≡ false) → Begun q (onto b ss)
      behind-first [] h e = (e, tt)
      behind-first ([] ∷ ss) h e = (e, h)
      behind-first ((c ∷ s) ∷ ss) h e = (e, h.1)

      go : (t : Bool) → k.starts q b ≡ t → (ss : List (List ℕ)) → Begun (k.next q b) ss → Begun q (cond t ([] ∷ onto b ss) (onto b ss))
      go true e ss h = onto-inner b ss (subst (λ (r : Q). Begun r ss) (k.again q b e) h)
      go false e ss h = behind-first ss h e

  pub all-inner : (s : List ℕ) → Inners (k.all s)
  all-inner [] = rw k.all_none tt
  all-inner (b ∷ s) = rw (k.all_more b s) (onto-inner b (k.split (k.next k.fresh b) s) (split-begun (k.next k.fresh b) s))
