-- Characters that are passed over, one law for each way through the code.
--     passed_none, passed-brace, passed-by   whether a token is passed over whole
--     still-brace, still-none, still-some    how many are owed behind it, where some were
--     owed-word, owed-other                  and where none were
-- Assumes nothing.
use mathlib.Core.Path.{◌≡◌, refl, sym, ◌∙◌}
use mathlib.Core.List.{List}
use mathlib.Core.Bool.{Bool, true, false, ◌&&◌}
use Prim.Native.Nat.{ℕ, zero, suc, ◌-◌, ◌≤◌, ◌<◌}
use native.Mathlib.Omega.{arith}
use lib.ListN.{get_or}
use lib.Dec.{eqb, leb}
use Rattle.readings.specs.declared.Reading.{Reading}
use Rattle.settings.specs.Fields.{Setting}
use Rattle.machine.specs.Machine.{Deed, is_brace, counts, left, is_passed, owed_behind}
use Rattle.machine.proofs.Left.{passed-count}
use Rattle.deeds.specs.Turns.{deed_at}
use Rattle.deeds.proofs.Words.{unit-at, owes-other, never-passed}

module _ (rd : Reading) (src ws : List ℕ) (h n : ℕ) where
  pub passed_none : n ≡ 0 → false ≡ is_passed (left n (deed_at rd src ws h))
  unfolding left
  passed_none z = rw z (sym (never-passed rd src ws h))

module _ (d : Deed Setting) (n : ℕ) (z : 0 < n) {b : Bool} (q : b ≡ is_brace d) where
  pub passed-brace : b ≡ true → false ≡ is_passed (left n d)
  passed-brace e = let f : is_brace d ≡ true = sym q ∙ e in rw f at (passed-count n d z)

  pub passed-by : b ≡ false → (k : ℕ) → k ≡ counts d → leb k n ≡ is_passed (left n d)
  passed-by e k c = let f : is_brace d ≡ false = sym q ∙ e in rw c (rw f at (passed-count n d z))

  pub still-brace : b ≡ true → (owes : ℕ) → 0 ≡ owed_behind owes n d
  unfolding owed_behind
  still-brace e owes = go n z
    where
      go : (m : ℕ) → 0 < m → 0 ≡ owed_behind owes m d
      go zero y = absurd (omega arith)
      go (suc m) y = rw (← q, e) refl

  pub still-left : b ≡ false → (owes k : ℕ) → k ≡ counts d → n - k ≡ owed_behind owes n d
  unfolding owed_behind
  still-left e owes k c = go n z
    where
      go : (m : ℕ) → 0 < m → m - k ≡ owed_behind owes m d
      go zero y = absurd (omega arith)
      go (suc m) y = rw (← q, e, ← c) refl

  pub still-none : b ≡ false → (owes k : ℕ) → k ≡ counts d → n ≤ k → 0 ≡ owed_behind owes n d
  still-none e owes k c l = let s : 0 ≡ n - k = omega arith in s ∙ still-left e owes k c

module _ (rd : Reading) (src ws : List ℕ) (owes h n : ℕ) (z : n ≤ 0) where
  none : n ≡ 0
  none = omega arith

  pub owed-word : (eqb (get_or ws 0 0) 5 && eqb (get_or ws 1 0) 2) ≡ true → (0 < h → get_or ws 0 0 ≡ 1) → owes ≡ owed_behind owes n (deed_at rd src ws h)
  unfolding owed_behind
  owed-word c l = rw (none, ← unit-at rd src ws h c l) refl

  pub owed-other : (eqb (get_or ws 0 0) 5 && eqb (get_or ws 1 0) 2) ≡ false → 0 ≡ owed_behind owes n (deed_at rd src ws h)
  unfolding owed_behind
  owed-other c = rw none (sym (owes-other rd src ws h owes c))
