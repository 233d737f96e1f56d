-- A run of `u` tokens, token by token: what `step` gives, from any point of the run on, is what `run_text` defines.
--     pending, staying, rest             what a run that has come so far still gives
--     Fit, fit-before, fit-step          what waits is a high surrogate, and nothing waits before the first unit
--     rest-start, rest-step, rest_end    at the start, over a token, at the end
--     walk, walk-rest                    all tokens in turn
--     utf8_all-append, text-start, text-step, text-end, text-walk    the same in bytes
--     unit_of-small, units_small, kept_small              units are below 65,536 if numbers fit their words
--     decode-scalars, run-scalars, value-scalar, values-scalars     values are scalar values
--     value_written, text-values, text-flushed           so `encode` writes their UTF-8
--     run_text-some                       a text is not empty if there is a unit
-- Assumes nothing.
use mathlib.Core.Path.{◌≡◌, refl, sym, ap, ◌∙◌}
use mathlib.Core.List.{List, [], ◌∷◌, ◌++◌, append-nil, append_assoc}
use mathlib.Core.Bool.{Bool, true, false, cond, ◌&&◌, true≢false}
use Prim.Native.Nat.{ℕ, ◌+◌, ◌-◌, ◌≤◌, ◌<◌}
use native.Mathlib.Omega.{arith}
use lib.Dec.{leb, ltb}
use lib.ListN.{length, length-append}
use borrow.Author.Tests.{ltb-true, le-leb, lt-leb}
use Rattle.tokens.specs.Tokens.{value_of}
use Rattle.utf8.specs.Utf8.{is_scalar, utf8, written}
use Rattle.utf8.proofs.Utf8.{length-utf8, written-scalar}
use Rattle.units.specs.declared.Run.{Run}
use Rattle.units.specs.declared.Gave.{Gave}
use Rattle.units.specs.Units.{unit_of, units, skip_count, later, kept, is_high, is_low, alone, pair, decode, utf8_all, run_text}
use Rattle.units.specs.Units.{before, nothing, taken, met, met_any, step, values, flushed}
use Rattle.units.proofs.Tests.{and_left, and_right, high-waits, high-surrogate}
use Rattle.std.specs.Prelude.{Option, Some, None, option_to_list}

-- ---- by cases

-- a number gives no unit or one
by-unit : (n : Option ℕ) (P : List ℕ → Type 0) → P [] → ((u : ℕ) → P (u ∷ [])) → P (unit_of n)
unfolding unit_of
by-unit None P none one = none
by-unit (Some v) P none one = go (ltb v 65536) (leb 4294901760 v)
  where
    go : (s t : Bool) → P (cond s (v ∷ []) (cond t ((v - 4294901760) ∷ []) []))
    go true t = one v
    go false true = one (v - 4294901760)
    go false false = none

-- whether a later unit is skipped
abbrev skips : ℕ → Run → ℕ → Bool
skips skip run u = leb u 255 && ltb run.skipped (skip_count skip)

-- the run behind a skipped unit
abbrev passed : Run → Run
passed run = record { begun = true; skipped = run.skipped + 1; high = run.high }

-- a unit is skipped or kept
by-met : (skip : ℕ) (run : Run) (u : ℕ) (P : Gave → Type 0)
    → (run.begun ≡ true → skips skip run u ≡ true → P (nothing (passed run))) → (run.begun && skips skip run u ≡ false → P (taken run u))
    → P (met skip run u)
unfolding met
by-met skip run u P over stay = go (run.begun && skips skip run u) refl
  where
    go : (t : Bool) → run.begun && skips skip run u ≡ t → P (cond t (nothing (passed run)) (taken run u))
    go true p = over (and_left run.begun (skips skip run u) p) (and_right run.begun (skips skip run u) p)
    go false p = stay p

-- a kept unit ends a pair, waits, or stands alone
by-taken : (run : Run) (u : ℕ) (P : Gave → Type 0)
    → (ltb 0 run.high ≡ true → is_low u ≡ true
    → P (record { run = record { begun = true; skipped = 0; high = 0 }; lost = false; value = Some (pair run.high u) }))
    → (ltb 0 run.high && is_low u ≡ false → is_high u ≡ true
    → P (record { run = record { begun = true; skipped = 0; high = u }; lost = ltb 0 run.high; value = None }))
    → (ltb 0 run.high && is_low u ≡ false → is_high u ≡ false
    → P (record { run = record { begun = true; skipped = 0; high = 0 }; lost = ltb 0 run.high; value = Some (alone u) }))
    → P (taken run u)
unfolding taken
by-taken run u P both waits stands = go (ltb 0 run.high && is_low u) (is_high u) refl refl
  where
    go : (s t : Bool) → ltb 0 run.high && is_low u ≡ s → is_high u ≡ t
        → P (cond s (record { run = record { begun = true; skipped = 0; high = 0 }; lost = false; value = Some (pair run.high u) })
        (cond t (record { run = record { begun = true; skipped = 0; high = u }; lost = ltb 0 run.high; value = None })
        (record { run = record { begun = true; skipped = 0; high = 0 }; lost = ltb 0 run.high; value = Some (alone u) })))
    go true t p q = both (and_left (ltb 0 run.high) (is_low u) p) (and_right (ltb 0 run.high) (is_low u) p)
    go false true p q = waits p q
    go false false p q = stands p q

-- ---- what a run still gives

-- the high surrogate that waits
unfoldable pub pending : Run → List ℕ
pending run = cond (ltb 0 run.high) (run.high ∷ []) []

-- which of the units to come stay
unfoldable pub staying : ℕ → Run → List ℕ → List ℕ
staying skip run us = cond run.begun (later skip run.skipped us) (kept skip us)

-- the scalar values of a run that has come so far, from here on
unfoldable pub rest : ℕ → Run → List (Option ℕ) → List ℕ
rest skip run ns = decode (pending run ++ staying skip run (units ns))

-- what waits is a high surrogate, and nothing waits before the first unit
pub record Fit (run : Run) : Type 0 where
  pub waiting : ltb 0 run.high ≡ true → is_high run.high ≡ true
  pub unbegun : run.begun ≡ false → run.high ≡ 0

pub fit-before : Fit before
fit-before = record { waiting = λ p. absurd (omega (arith, ltb-true 0 0 p)); unbegun = λ p. refl }

fit-taken : (run : Run) (u : ℕ) → Fit (taken run u).run
fit-taken run u =
    by-taken run u (λ (g : Gave). Fit g.run)
    (λ p q. record { waiting = λ r. absurd (omega (arith, ltb-true 0 0 r)); unbegun = λ r. absurd (true≢false r) })
    (λ p q. record { waiting = λ r. q; unbegun = λ r. absurd (true≢false r) })
    (λ p q. record { waiting = λ r. absurd (omega (arith, ltb-true 0 0 r)); unbegun = λ r. absurd (true≢false r) })

pub fit-step : {run : Run} (skip : ℕ) (n : Option ℕ) → Fit run → Fit (step skip run n).run
unfolding step met_any
fit-step {run} skip n f =
    by-unit n (λ (us : List ℕ). Fit (met_any skip run us).run) f
    (λ u. by-met skip run u (λ (g : Gave). Fit g.run)
    (λ p q. record { waiting = f.waiting; unbegun = λ r. absurd (true≢false r) })
    (λ p. fit-taken run u))

-- ---- the laws of `rest`

pub rest-start : (skip : ℕ) (ns : List (Option ℕ)) → rest skip before ns ≡ decode (kept skip (units ns))
unfolding rest pending staying
rest-start skip ns = refl

-- a unit that is no high surrogate takes no unit behind it
decode-value : (u : ℕ) (us : List ℕ) → is_high u ≡ false → decode (u ∷ us) ≡ alone u ∷ decode us
unfolding decode
decode-value u [] p = refl
decode-value u (v ∷ us) p = rw p

-- what waits is lost if no low surrogate comes
decode-lost : {run : Run} (u : ℕ) (us : List ℕ) → Fit run → ltb 0 run.high && is_low u ≡ false
    → decode (pending run ++ (u ∷ us)) ≡ flushed run ++ decode (u ∷ us)
unfolding pending flushed decode
decode-lost {run} u us f = go (ltb 0 run.high) refl
  where
    go : (t : Bool) → ltb 0 run.high ≡ t → t && is_low u ≡ false
        → decode (cond t (run.high ∷ []) [] ++ (u ∷ us)) ≡ cond t (65533 ∷ []) [] ++ decode (u ∷ us)
    go true p q = rw (f.waiting p, q, high-surrogate run.high (f.waiting p))
    go false p q = refl

rest-taken : {run : Run} (u : ℕ) (us : List ℕ) → Fit run
    → decode (pending run ++ (u ∷ us)) ≡ values (taken run u) ++ decode (pending (taken run u).run ++ us)
unfolding pending values flushed decode
rest-taken {run} u us f =
    by-taken run u (λ (g : Gave). decode (pending run ++ (u ∷ us)) ≡ values g ++ decode (pending g.run ++ us))
    (λ p q. rw (p, f.waiting p, q))
    (λ p q. decode-lost u us f p ∙ rw (high-waits u q, append-nil))
    (λ p q. decode-lost u us f p ∙ rw (decode-value u us q, append_assoc))

-- a unit that stays is followed by a fresh count
staying-keeps : (skip : ℕ) (run : Run) (u : ℕ) (us : List ℕ) → run.begun && skips skip run u ≡ false
    → staying skip run (u ∷ us) ≡ u ∷ later skip 0 us
unfolding staying later kept
staying-keeps skip run u us = go run.begun
  where
    go : (t : Bool) → t && skips skip run u ≡ false
        → cond t (later skip run.skipped (u ∷ us)) (kept skip (u ∷ us)) ≡ u ∷ later skip 0 us
    go true p = rw p
    go false p = refl

staying-taken : (skip : ℕ) (run : Run) (u : ℕ) (us : List ℕ) → staying skip (taken run u).run us ≡ later skip 0 us
unfolding staying
staying-taken skip run u us =
    by-taken run u (λ (g : Gave). staying skip g.run us ≡ later skip 0 us) (λ p q. refl) (λ p q. refl) (λ p q. refl)

-- a skipped unit gives nothing
rest_over : (skip : ℕ) (run : Run) (u : ℕ) (us : List ℕ) → run.begun ≡ true → skips skip run u ≡ true
    → decode (pending run ++ staying skip run (u ∷ us))
    ≡ values (nothing (passed run)) ++ decode (pending (passed run) ++ staying skip (passed run) us)
unfolding pending staying values later
rest_over skip run u us p q = rw (p, q)

rest-met : {run : Run} (skip u : ℕ) (us : List ℕ) → Fit run
    → decode (pending run ++ staying skip run (u ∷ us))
    ≡ values (met skip run u) ++ decode (pending (met skip run u).run ++ staying skip (met skip run u).run us)
rest-met {run} skip u us f =
    by-met skip run u
    (λ (g : Gave). decode (pending run ++ staying skip run (u ∷ us)) ≡ values g ++ decode (pending g.run ++ staying skip g.run us))
    (rest_over skip run u us)
    (λ p. rw (staying-keeps skip run u us p, staying-taken skip run u us) (rest-taken u (later skip 0 us) f))

pub rest-step : {run : Run} (skip : ℕ) (n : Option ℕ) (ns : List (Option ℕ)) → Fit run
    → rest skip run (n ∷ ns) ≡ values (step skip run n) ++ rest skip (step skip run n).run ns
unfolding rest units step met_any values
rest-step {run} skip n ns f =
    by-unit n
    (λ (us : List ℕ). decode (pending run ++ staying skip run (us ++ units ns))
    ≡ values (met_any skip run us) ++ decode (pending (met_any skip run us).run ++ staying skip (met_any skip run us).run (units ns)))
    refl
    (λ u. rest-met skip u (units ns) f)

-- nothing comes: what waits is lost
pub rest_end : {run : Run} (skip : ℕ) → Fit run → rest skip run [] ≡ flushed run
unfolding rest units staying later kept pending flushed decode
rest_end {run} skip f = go run.begun (ltb 0 run.high) refl
  where
    go : (s t : Bool) → ltb 0 run.high ≡ t → decode (cond t (run.high ∷ []) [] ++ cond s [] []) ≡ cond t (65533 ∷ []) []
    go true true p = rw (high-surrogate run.high (f.waiting p))
    go false true p = rw (high-surrogate run.high (f.waiting p))
    go true false p = refl
    go false false p = refl

-- the values of a run that is walked by `step`, from here on
unfoldable pub walk : ℕ → Run → List (Option ℕ) → List ℕ
walk skip run [] = flushed run
walk skip run (n ∷ ns) = values (step skip run n) ++ walk skip (step skip run n).run ns

pub walk-rest : {run : Run} (skip : ℕ) (ns : List (Option ℕ)) → Fit run → walk skip run ns ≡ rest skip run ns
unfolding walk
walk-rest {run} skip [] f = sym (rest_end skip f)
walk-rest {run} skip (n ∷ ns) f = rw (walk-rest {run = (step skip run n).run} skip ns (fit-step skip n f)) (sym (rest-step skip n ns f))

-- ---- in bytes

pub utf8_all-append : (a b : List ℕ) → utf8_all (a ++ b) ≡ utf8_all a ++ utf8_all b
unfolding utf8_all
utf8_all-append [] b = refl
utf8_all-append (c ∷ a) b = rw (utf8_all-append a b, append_assoc)

pub text-start : (skip : ℕ) (ns : List (Option ℕ)) → utf8_all (rest skip before ns) ≡ run_text skip ns
unfolding run_text
text-start skip ns = ap utf8_all (rest-start skip ns)

pub text-step : {run : Run} (skip : ℕ) (n : Option ℕ) (ns : List (Option ℕ)) → Fit run
    → utf8_all (rest skip run (n ∷ ns)) ≡ utf8_all (values (step skip run n)) ++ utf8_all (rest skip (step skip run n).run ns)
text-step skip n ns f = ap utf8_all (rest-step skip n ns f) ∙ utf8_all-append _ _

pub text-end : {run : Run} (skip : ℕ) → Fit run → utf8_all (rest skip run []) ≡ utf8_all (flushed run)
text-end skip f = ap utf8_all (rest_end skip f)

-- who walks a run from its start has its text
pub text-walk : (skip : ℕ) (ns : List (Option ℕ)) → utf8_all (walk skip before ns) ≡ run_text skip ns
text-walk skip ns = ap utf8_all (walk-rest skip ns fit-before) ∙ text-start skip ns

-- ---- units below 65,536 give scalar values

-- each is below 65,536
abbrev pub Units16 : List ℕ → Type 0
Units16 [] = Unit {0}
Units16 (u ∷ us) = (u < 65536) × Units16 us

-- each number fits its word
abbrev pub Numbers32 : List (Option ℕ) → Type 0
Numbers32 [] = Unit {0}
Numbers32 (n ∷ ns) = (value_of n < 4294967296) × Numbers32 ns

-- each is a scalar value
abbrev pub Scalars : List ℕ → Type 0
Scalars [] = Unit {0}
Scalars (c ∷ cs) = (is_scalar c ≡ true) × Scalars cs

pub unit_of-small : (n : Option ℕ) → value_of n < 4294967296 → Units16 (unit_of n)
unfolding unit_of
unit_of-small None h = tt
unit_of-small (Some v) h = go (ltb v 65536) (leb 4294901760 v) refl
  where
    go : (s t : Bool) → ltb v 65536 ≡ s → Units16 (cond s (v ∷ []) (cond t ((v - 4294901760) ∷ []) []))
    go true t p = (ltb-true v 65536 p, tt)
    go false true p = (omega arith, tt)
    go false false p = tt

units16-append : (a b : List ℕ) → Units16 a → Units16 b → Units16 (a ++ b)
units16-append [] b h k = k
units16-append (u ∷ a) b h k = (h.0, units16-append a b h.1 k)

pub units_small : (ns : List (Option ℕ)) → Numbers32 ns → Units16 (units ns)
unfolding units
units_small [] h = tt
units_small (n ∷ ns) h = units16-append (unit_of n) (units ns) (unit_of-small n h.0) (units_small ns h.1)

later-small : (skip k : ℕ) (us : List ℕ) → Units16 us → Units16 (later skip k us)
unfolding later
later-small skip k [] h = tt
later-small skip k (u ∷ us) h = go (leb u 255 && ltb k (skip_count skip)) (later-small skip (k + 1) us h.1) (later-small skip 0 us h.1)
  where
    go : (t : Bool) → Units16 (later skip (k + 1) us) → Units16 (later skip 0 us) → Units16 (cond t (later skip (k + 1) us) (u ∷ later skip 0 us))
    go true a b = a
    go false a b = (h.0, b)

pub kept_small : (skip : ℕ) (us : List ℕ) → Units16 us → Units16 (kept skip us)
unfolding kept
kept_small skip [] h = tt
kept_small skip (u ∷ us) h = (h.0, later-small skip 0 us h.1)

pair-scalar : (u v : ℕ) → is_scalar (pair u v) ≡ true
pair-scalar u v = rw (le-leb (pair u v) 1114111 (omega arith), le-leb 55296 (pair u v) (omega arith), lt-leb (pair u v) 57343 (omega arith))

alone-scalar : (u : ℕ) → u < 65536 → is_scalar (alone u) ≡ true
alone-scalar u h = go (leb 55296 u && leb u 57343) refl
  where
    go : (t : Bool) → leb 55296 u && leb u 57343 ≡ t → is_scalar (cond t 65533 u) ≡ true
    go true p = refl
    go false p = rw (le-leb u 1114111 (omega arith), p)

pub decode-scalars : (us : List ℕ) → Units16 us → Scalars (decode us)
unfolding decode
decode-scalars [] h = tt
decode-scalars (u ∷ []) h = (alone-scalar u h.0, tt)
decode-scalars (u ∷ v ∷ us) h = go (is_high u && is_low v) (decode-scalars us h.1.1) (decode-scalars (v ∷ us) h.1)
  where
    go : (t : Bool) → Scalars (decode us) → Scalars (decode (v ∷ us)) → Scalars (cond t (pair u v ∷ decode us) (alone u ∷ decode (v ∷ us)))
    go true a b = (pair-scalar u v, a)
    go false a b = (alone-scalar u h.0, b)

pub run-scalars : (skip : ℕ) (ns : List (Option ℕ)) → Numbers32 ns → Scalars (decode (kept skip (units ns)))
run-scalars skip ns h = decode-scalars (kept skip (units ns)) (kept_small skip (units ns) (units_small ns h))

-- a value as a caller writes it, if there is one
abbrev pub written_if : Option ℕ → List ℕ
written_if (Some c) = written c
written_if None = []

-- a token's value, if it gave one
module _ (skip : ℕ) (run : Run) (n : Option ℕ) (h : value_of n < 4294967296) where
  pub value-scalar : Scalars (option_to_list (step skip run n).value)
  unfolding step met_any
  value-scalar =
      by-unit n (λ (us : List ℕ). Units16 us → Scalars (option_to_list (met_any skip run us).value))
      (λ w. tt)
      (λ u w. by-met skip run u (λ (g : Gave). Scalars (option_to_list g.value))
      (λ p q. tt)
      (λ p. by-taken run u (λ (g : Gave). Scalars (option_to_list g.value))
      (λ q r. (pair-scalar run.high u, tt)) (λ q r. tt) (λ q r. (alone-scalar u w.0, tt))))
      (unit_of-small n h)

  pub values-scalars : Scalars (values (step skip run n))
  unfolding values
  values-scalars = go (step skip run n).lost value-scalar
    where
      go : (s : Bool) → Scalars (option_to_list (step skip run n).value) → Scalars (cond s (65533 ∷ []) [] ++ option_to_list (step skip run n).value)
      go true p = (refl, p)
      go false p = p

  module _ (g : Gave) (q : g ≡ step skip run n) where
    pub value_written : (v : ℕ) → g.value ≡ Some v → written v ≡ utf8 v
    value_written v e =
        let s : Scalars (option_to_list g.value) = rw q value-scalar in
        written-scalar v (rw e at s).0

    -- what a caller writes by `encode`
    pub text-values : utf8_all (values g) ≡ cond g.lost (written 65533) [] ++ written_if g.value
    unfolding values utf8_all
    text-values = go g.lost g.value (rw q value-scalar)
      where
        go : (s : Bool) (v : Option ℕ) → Scalars (option_to_list v) → utf8_all (cond s (65533 ∷ []) [] ++ option_to_list v) ≡ cond s (written 65533) [] ++ written_if v
        go true (Some c) p = rw (written-scalar c p.0, written-scalar 65533 refl, append-nil)
        go true None p = rw (written-scalar 65533 refl)
        go false (Some c) p = rw (written-scalar c p.0, append-nil)
        go false None p = refl

pub text-flushed : (run : Run) → utf8_all (flushed run) ≡ cond (ltb 0 run.high) (written 65533) []
unfolding flushed utf8_all
text-flushed run = go (ltb 0 run.high)
  where
    go : (t : Bool) → utf8_all (cond t (65533 ∷ []) []) ≡ cond t (written 65533) []
    go true = rw (written-scalar 65533 refl, append-nil)
    go false = refl

decode-some : (u : ℕ) (us : List ℕ) → 1 ≤ length (decode (u ∷ us))
unfolding decode
decode-some u [] = omega arith
decode-some u (v ∷ us) = go (is_high u && is_low v)
  where
    go : (t : Bool) → 1 ≤ length (cond t (pair u v ∷ decode us) (alone u ∷ decode (v ∷ us)))
    go true = omega arith
    go false = omega arith

utf8_all-some : (cs : List ℕ) → 1 ≤ length cs → 1 ≤ length (utf8_all cs)
unfolding utf8_all
utf8_all-some [] h = h
utf8_all-some (c ∷ cs) h = rw length-append (omega (arith, length-utf8 c))

pub run_text-some : (skip : ℕ) (ns : List (Option ℕ)) (u : ℕ) (us : List ℕ) → units ns ≡ u ∷ us → 1 ≤ length (run_text skip ns)
unfolding run_text kept
run_text-some skip ns u us e = rw e (utf8_all-some (decode (u ∷ later skip 0 us)) (decode-some u (later skip 0 us)))
