-- A name in the table t, between the places b and e.
--     row-rises, row_fits   the bounds rise, and the name ends within the run
--     row-name              what stands between them is the name
-- Assumes nothing.
use mathlib.Core.Path.{◌≡◌, refl, ap, ◌∙◌}
use mathlib.Core.List.{List, [], ◌∷◌}
use mathlib.Core.Bool.{Bool, true, false, cond, ◌&&◌}
use Prim.Native.Nat.{ℕ, ◌+◌, ◌-◌, ◌≤◌, ◌<◌}
use native.Mathlib.Omega.{arith}
use lib.ListN.{length, get_or, take, drop}
use lib.Dec.{eqb}
use lib.Pointwise.{pointwise, pointwise_long}
use Rattle.std.specs.List.{list_all, zip}
use Rattle.names.specs.Names.{same_bytes, name_of, rows}
use Rattle.names.proofs.Contents.{bounds_at, begins, ends, bounds-rise, bounds-within, bounds-name}

same-pointwise : (a b : List ℕ) → pointwise eqb a b ≡ same_bytes a b
unfolding same_bytes
same-pointwise [] [] = refl
same-pointwise [] (y ∷ b) = refl
same-pointwise (x ∷ a) [] = refl
same-pointwise (x ∷ a) (y ∷ b) = go (eqb x y) (same-pointwise a b)
  where
    go : (t : Bool) → pointwise eqb a b ≡ same_bytes a b → t && pointwise eqb a b ≡ cond t (same_bytes a b) false
    go true e = e
    go false e = refl

zip-pointwise : (a b : List ℕ) → length a ≡ length b → list_all (λ (p : ℕ × ℕ). eqb p.0 p.1) (zip a b) ≡ pointwise eqb a b
zip-pointwise [] [] e = refl
zip-pointwise [] (y ∷ b) e = absurd (omega arith)
zip-pointwise (x ∷ a) [] e = absurd (omega arith)
zip-pointwise (x ∷ a) (y ∷ b) e = ap (λ (t : Bool). eqb x y && t) (zip-pointwise a b (omega arith))

long-pointwise : (a b : List ℕ) → (length a ≡ length b → ⊥) → false ≡ pointwise eqb a b
long-pointwise a b f = go (pointwise eqb a b) refl
  where
    go : (t : Bool) → pointwise eqb a b ≡ t → false ≡ t
    go true q = absurd (f (pointwise_long eqb a b q))
    go false q = refl

module _ (t : List ℕ) (k b e : ℕ) (q : t ≡ rows) (h : k < 49) (p : b ≡ get_or t (bounds_at + k) 0) (r : e ≡ get_or t (bounds_at + k + 1) 0) where
  begins-at : b ≡ begins k
  begins-at = p ∙ rw q

  ends_at : e ≡ ends k
  ends_at = r ∙ rw q

  pub row-rises : b ≤ e
  row-rises = omega (arith, begins-at, ends_at, bounds-rise k h)

  pub row_fits : e ≤ bounds_at
  row_fits = omega (arith, ends_at, bounds-within k h)

  row-name : (w : List ℕ) → pointwise eqb w (take (e - b) (drop b t)) ≡ same_bytes w (name_of k)
  row-name w = rw (q, begins-at, ends_at, bounds-name k h) (same-pointwise w (name_of k))

  module _ (w : List ℕ) where
    pub row-same : length w ≡ length (take (e - b) (drop b t)) → list_all (λ (p : ℕ × ℕ). eqb p.0 p.1) (zip w (take (e - b) (drop b t))) ≡ same_bytes w (name_of k)
    row-same l = zip-pointwise w (take (e - b) (drop b t)) l ∙ row-name w

    pub row-other : (length w ≡ length (take (e - b) (drop b t)) → ⊥) → false ≡ same_bytes w (name_of k)
    row-other f = long-pointwise w (take (e - b) (drop b t)) f ∙ row-name w
