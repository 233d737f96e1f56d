-- The definitions at each branch of the code, with what a callee gave as a variable.
--     alone-surrogate, alone-value         of `alone`
--     taken-pair, taken-high, taken-value  of `taken`
--     met-skipped, met-taken, skipped-fits of `met`
--     step-absent, step_small, step-negative, step-outside    of `step`
--     standard-absent, -small, -negative, -outside            of `standard_step`
-- Assumes nothing.
use mathlib.Core.Path.{◌≡◌}
use mathlib.Core.Bool.{Bool, true, false, cond, ◌&&◌}
use Prim.Native.Nat.{ℕ, ◌+◌, ◌-◌, ◌≤◌, ◌<◌}
use native.Mathlib.Omega.{arith}
use lib.Dec.{leb, ltb}
use borrow.Author.Tests.{ltb-true, lt-ltb, le-ltb, le-leb, lt-leb}
use Rattle.units.proofs.Tests.{and_right}
use Rattle.units.specs.declared.Run.{Run}
use Rattle.units.specs.declared.Gave.{Gave}
use Rattle.units.specs.Units.{is_high, is_low, alone, pair, nothing, cut_short, taken, taken_any, met, met_any, unit_of, step, standard_step, skip_count}
use Rattle.std.specs.Prelude.{Option, Some, None}

pub alone-surrogate : (u : ℕ) → leb 55296 u && leb u 57343 ≡ true → 65533 ≡ alone u
alone-surrogate u p = rw p

pub alone-value : (u : ℕ) → leb 55296 u && leb u 57343 ≡ false → u ≡ alone u
alone-value u p = rw p

module _ (run : Run) (u : ℕ) (l : Bool) (q : l ≡ is_low u) where
  pub taken-pair : ltb 0 run.high && l ≡ true → (v : ℕ) → v ≡ pair run.high u
      → record { run = record { begun = true; skipped = 0; high = 0 }; lost = false; value = Some v } ≡ taken run u
  unfolding taken
  taken-pair p v e = rw (← q, p, e)

  module _ (p : ltb 0 run.high && l ≡ false) (h : Bool) (r : h ≡ is_high u) where
    pub taken-high : h ≡ true
        → record { run = record { begun = true; skipped = 0; high = u }; lost = ltb 0 run.high; value = None } ≡ taken run u
    unfolding taken
    taken-high t = rw (← q, p, ← r, t)

    pub taken-value : h ≡ false → (v : ℕ) → v ≡ alone u
        → record { run = record { begun = true; skipped = 0; high = 0 }; lost = ltb 0 run.high; value = Some v } ≡ taken run u
    unfolding taken
    taken-value t v e = rw (← q, p, ← r, t, e)

-- a count below zero stands at 2^31 or more: nothing is below it
module _ (skip : ℕ) (run : Run) (u : ℕ) where
  test : (b : Bool) → run.begun && (leb u 255 && (ltb skip 2147483648 && ltb run.skipped skip)) ≡ b
      → run.begun && (leb u 255 && ltb run.skipped (skip_count skip)) ≡ b
  test b = go (ltb skip 2147483648)
    where
      go : (t : Bool) → run.begun && (leb u 255 && (t && ltb run.skipped skip)) ≡ b
          → run.begun && (leb u 255 && ltb run.skipped (cond t skip 0)) ≡ b
      go true p = p
      go false p = rw (le-ltb run.skipped 0 (omega arith)) p

  pub met-skipped : run.begun && (leb u 255 && (ltb skip 2147483648 && ltb run.skipped skip)) ≡ true → (g : Gave)
      → g ≡ nothing (record { begun = true; skipped = run.skipped + 1; high = run.high }) → g ≡ met skip run u
  unfolding met
  met-skipped p g e = rw (test true p) e

  pub met-taken : run.begun && (leb u 255 && (ltb skip 2147483648 && ltb run.skipped skip)) ≡ false → (g : Gave)
      → g ≡ taken run u → g ≡ met skip run u
  unfolding met
  met-taken p g e = rw (test false p) e

  -- a skipped unit's count is below the skip count
  pub skipped-fits : run.begun && (leb u 255 && (ltb skip 2147483648 && ltb run.skipped skip)) ≡ true → skip < 4294967296
      → run.skipped + 1 < 4294967296
  skipped-fits p s =
      let q = and_right (leb u 255) (ltb skip 2147483648 && ltb run.skipped skip) (and_right run.begun _ p) in
      omega (arith, ltb-true run.skipped skip (and_right (ltb skip 2147483648) (ltb run.skipped skip) q))

module _ (skip : ℕ) (run : Run) (n : Option ℕ) (g : Gave) where
  pub step-absent : n ≡ None → g ≡ nothing run → g ≡ step skip run n
  unfolding step met_any unit_of
  step-absent p e = rw p e

  module _ (v : ℕ) (p : n ≡ Some v) where
    pub step_small : v < 65536 → g ≡ met skip run v → g ≡ step skip run n
    unfolding step met_any unit_of
    step_small h e = rw (p, lt-ltb v 65536 h) e

    pub step-negative : 65536 ≤ v → 4294901760 ≤ v → g ≡ met skip run (v - 4294901760) → g ≡ step skip run n
    unfolding step met_any unit_of
    step-negative h k e = rw (p, le-ltb v 65536 h, le-leb 4294901760 v k) e

    pub step-outside : 65536 ≤ v → v < 4294901760 → g ≡ nothing run → g ≡ step skip run n
    unfolding step met_any unit_of
    step-outside h k e = rw (p, le-ltb v 65536 h, lt-leb 4294901760 v k) e

module _ (run : Run) (n : Option ℕ) (g : Gave) where
  pub standard-absent : n ≡ None → g ≡ cut_short run → g ≡ standard_step run n
  unfolding standard_step taken_any unit_of
  standard-absent p e = rw p e

  module _ (v : ℕ) (p : n ≡ Some v) where
    pub standard-small : v < 65536 → g ≡ taken run v → g ≡ standard_step run n
    unfolding standard_step taken_any unit_of
    standard-small h e = rw (p, lt-ltb v 65536 h) e

    pub standard-negative : 65536 ≤ v → 4294901760 ≤ v → g ≡ taken run (v - 4294901760) → g ≡ standard_step run n
    unfolding standard_step taken_any unit_of
    standard-negative h k e = rw (p, le-ltb v 65536 h, le-leb 4294901760 v k) e

    pub standard-outside : 65536 ≤ v → v < 4294901760 → g ≡ cut_short run → g ≡ standard_step run n
    unfolding standard_step taken_any unit_of
    standard-outside h k e = rw (p, le-ltb v 65536 h, lt-leb 4294901760 v k) e
