-- 01, Body, and 02, A1: the text of a run of adjacent `u` tokens, by RFC 2781 (UTF-16) and RFC 3629 (UTF-8). Assumes nothing: these are
-- definitions.
use Rattle.std.specs.Prelude.{ℕ, ◌+◌, ◌-◌, ◌*◌, ◌%◌, List, [], ◌∷◌, ◌++◌, Bool, true, false, cond, ◌&&◌, leb, ltb, option_to_list, Some, None, Option}
use Rattle.utf8.specs.Utf8.{utf8}
use Rattle.units.specs.declared.Run.{Run}
use Rattle.units.specs.declared.Gave.{Gave}
use Rattle.std.specs.Prelude.{Option, Some, None}

-- "a negative gets 65,536 added; outside 0 to 65,535, or no number, gives none." A negative number n stands as n + 2^32, so
-- with 65,536 added it is 4,294,901,760 less than it stands
unfoldable pub unit_of : Option ℕ → List ℕ
unit_of None = []
unit_of (Some v) = cond (ltb v 65536) (v ∷ []) (cond (leb 4294901760 v) ((v - 4294901760) ∷ []) [])

-- "A run of adjacent `u` tokens gives units"
unfoldable pub units : List (Option ℕ) → List ℕ
units [] = []
units (n ∷ ns) = unit_of n ++ units ns

-- a skip count below zero skips nothing
abbrev pub skip_count : ℕ → ℕ
skip_count skip = cond (ltb skip 2147483648) skip 0

-- "Each later one at most 255 is skipped while fewer than the skip count were skipped since the last kept one; else it stays."
unfoldable pub later : ℕ → ℕ → List ℕ → List ℕ
later skip n [] = []
later skip n (u ∷ us) = cond (leb u 255 && ltb n (skip_count skip)) (later skip (n + 1) us) (u ∷ later skip 0 us)

-- "The first unit stays."
unfoldable pub kept : ℕ → List ℕ → List ℕ
kept skip [] = []
kept skip (u ∷ us) = u ∷ later skip 0 us

-- RFC 2781, 2.2: W1 of a pair is 0xD800 to 0xDBFF, W2 is 0xDC00 to 0xDFFF
abbrev pub is_high : ℕ → Bool
is_high u = leb 55296 u && leb u 56319

abbrev pub is_low : ℕ → Bool
is_low u = leb 56320 u && leb u 57343

-- a unit that stands alone: the value itself, or U+FFFD for a surrogate that is no part of a pair
abbrev pub alone : ℕ → ℕ
alone u = cond (leb 55296 u && leb u 57343) 65533 u

-- a pair: "the 10 low-order bits of W1" over those of W2, and 0x10000 added
abbrev pub pair : ℕ → ℕ → ℕ
pair u v = 65536 + ((u % 1024) * 1024 + v % 1024)

-- "Kept units become UTF-8 (RFC 2781, RFC 3629).": the scalar values of units
unfoldable pub decode : List ℕ → List ℕ
decode [] = []
decode (u ∷ []) = alone u ∷ []
decode (u ∷ v ∷ us) = cond (is_high u && is_low v) (pair u v ∷ decode us) (alone u ∷ decode (v ∷ us))

-- scalar values in UTF-8
unfoldable pub utf8_all : List ℕ → List ℕ
utf8_all [] = []
utf8_all (c ∷ cs) = utf8 c ++ utf8_all cs

-- the text of a run's numbers under a skip count
unfoldable pub run_text : ℕ → List (Option ℕ) → List ℕ
run_text skip ns = utf8_all (decode (kept skip (units ns)))

-- A run, token by token. What has come so far: whether a unit has, how many were skipped since the last kept one, and a high
-- surrogate that waits for its low one (0 if none does)
abbrev pub before : Run
before = record { begun = false; skipped = 0; high = 0 }

-- what a token gives: U+FFFD for a waiting surrogate that gets no low one, a value, both or neither
abbrev pub nothing : Run → Gave
nothing run = record { run = run; lost = false; value = None }

-- a kept unit
unfoldable pub taken : Run → ℕ → Gave
taken run u =
    let lost = ltb 0 run.high in
    cond (lost && is_low u) (record { run = record { begun = true; skipped = 0; high = 0 }; lost = false; value = Some (pair run.high u) })
    (cond (is_high u) (record { run = record { begun = true; skipped = 0; high = u }; lost = lost; value = None })
    (record { run = record { begun = true; skipped = 0; high = 0 }; lost = lost; value = Some (alone u) }))

-- a unit, skipped or kept
unfoldable pub met : ℕ → Run → ℕ → Gave
met skip run u =
    cond (run.begun && (leb u 255 && ltb run.skipped (skip_count skip)))
    (nothing (record { begun = true; skipped = run.skipped + 1; high = run.high }))
    (taken run u)

unfoldable pub met_any : ℕ → Run → List ℕ → Gave
met_any skip run [] = nothing run
met_any skip run (u ∷ us) = met skip run u

-- a token
unfoldable pub step : ℕ → Run → Option ℕ → Gave
step skip run n = met_any skip run (unit_of n)

-- what ends a run: a surrogate that waits is lost
abbrev pub cut_short : Run → Gave
cut_short run = record { run = before; lost = ltb 0 run.high; value = None }

-- 02, A1: "01's rule on units of at most 255 does not hold here": each unit is kept; "anything that is read parts them, .. and so does a `\u`
-- without a unit"
unfoldable pub taken_any : Run → List ℕ → Gave
taken_any run [] = cut_short run
taken_any run (u ∷ us) = taken run u

unfoldable pub standard_step : Run → Option ℕ → Gave
standard_step run n = taken_any run (unit_of n)

-- the scalar values that a token gave
unfoldable pub values : Gave → List ℕ
values g = cond g.lost (65533 ∷ []) [] ++ option_to_list g.value

-- the scalar values at the end of a run
unfoldable pub flushed : Run → List ℕ
flushed run = cond (ltb 0 run.high) (65533 ∷ []) []
