-- The stack of states, whatever a state is: in an array, as the code holds it.
--     length-held             how many states there are
--     held-set, held-push     a store above them, and on top of them
--     held-top                the top
--     open_none, open_full, open_more   an opening bracket, by how many are held
--     held-settle             a store at the top
--     close-top, within-top, close-none, within_none   what is done where there is a state, and where there is none
-- Assumes nothing.
use mathlib.Core.Path.{◌≡◌, refl, ap}
use mathlib.Core.List.{List, ◌∷◌}
use Prim.Native.Nat.{ℕ, zero, suc, ◌+◌, ◌-◌, ◌≤◌, ◌<◌}
use native.Mathlib.Nat.{not-suc-le-zero}
use native.Mathlib.Omega.{arith}
use native.Mathlib.Numerals.{add-one}
use borrow.Author.Tests.{eq-eqb, ne_eqb}
use lib.ListN.{length, get_or, set}
use lib.Seq.{get_or-set_same, get_or-set_other}
use Rattle.answers.specs.declared.Why.TheVariants.{NoState, TooDeep}
use Rattle.answers.specs.Answers.{Fate, becomes, fails}
use Rattle.machine.specs.Stack.{opens, closes, within, topped, moved, held}

module _ {R : Type 0} (none : R) where
  pub length-held : (states : List R) (d : ℕ) → length (held none states d) ≡ d
  unfolding held
  length-held states zero = refl
  length-held states (suc d) = ap suc (length-held states d)

  pub held-set : (states : List R) (d i : ℕ) (r : R) → d ≤ i → held none (set states i r) d ≡ held none states d
  unfolding held
  held-set states zero i r h = refl
  held-set states (suc d) i r h =
      let e : get_or (set states i r) d none ≡ get_or states d none = get_or-set_other states i d r none (λ q. omega arith) in
      let t : held none (set states i r) d ≡ held none states d = held-set states d i r (omega arith) in
      rw (e, t)

  pub held-push : (states : List R) (d : ℕ) (r : R) → d < length states → held none (set states d r) (suc d) ≡ r ∷ held none states d
  unfolding held
  held-push states d r h =
      let e : get_or (set states d r) d none ≡ r = get_or-set_same states d r none h in
      let t : held none (set states d r) d ≡ held none states d = held-set states d d r (omega arith) in
      rw (e, t)

  pub held-top : (states : List R) (d : ℕ) → 0 < d → held none states d ≡ get_or states (d - 1) none ∷ held none states (d - 1)
  unfolding held
  held-top states zero h = absurd (not-suc-le-zero h)
  held-top states (suc d) h = let q : suc d - 1 ≡ d = omega arith in rw q

  -- a store at the top
  pub held-settle : (states : List R) (d : ℕ) (r : R) → 0 < d → d ≤ length states → held none (set states (d - 1) r) d ≡ r ∷ held none states (d - 1)
  held-settle states zero r z h = absurd (not-suc-le-zero z)
  held-settle states (suc d) r z h = let q : suc d - 1 ≡ d = omega arith in rw q (held-push states d r (omega arith))

  module _ (fresh : R) (states : List R) (d : ℕ) where
    pub open_none : d ≡ 0 → 0 < length states → becomes (held none (set states 0 fresh) 1) ≡ moved fresh (held none states d) opens
    unfolding moved held
    open_none e h = rw e (ap becomes (held-push states 0 fresh h))

    module _ (z : 0 < d) where
      pub open_full : d ≡ 64 → fails TooDeep ≡ moved fresh (held none states d) opens
      unfolding moved
      open_full e =
          let q : suc (length (held none states (d - 1))) ≡ 64 = rw length-held (omega arith) in
          rw (held-top states d z, eq-eqb _ 64 q)

      pub open_more : (d ≡ 64 → ⊥) → d < length states → becomes (held none (set states d (get_or states (d - 1) none)) (d + 1)) ≡ moved fresh (held none states d) opens
      unfolding moved
      open_more n h =
          let q : suc (length (held none states (d - 1))) ≡ 64 → ⊥ = λ e. let g : length (held none states (d - 1)) ≡ d - 1 = length-held states (d - 1) in omega arith in
          rw add-one (rw (held-push states d (get_or states (d - 1) none) h, held-top states d z, ne_eqb _ 64 q) refl)

      pub close-top : becomes (held none states (d - 1)) ≡ moved fresh (held none states d) closes
      unfolding moved
      close-top = rw (held-top states d z)

      -- something done to the top state
      pub within-top : (f : R → Fate R) → topped (held none states (d - 1)) (f (get_or states (d - 1) none)) ≡ moved fresh (held none states d) (within f)
      unfolding moved
      within-top f = rw (held-top states d z)

    module _ (z : d ≡ 0) where
      pub close-none : fails NoState ≡ moved fresh (held none states d) closes
      unfolding moved held
      close-none = rw z

      pub within_none : (f : R → Fate R) → fails NoState ≡ moved fresh (held none states d) (within f)
      unfolding moved held
      within_none f = rw z
