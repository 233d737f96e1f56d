-- Telling runs: a skip count, numbers, and the bytes of their text, computed by the definition and token by token. A negative
-- number n stands as n + 2^32. The first five are runs of sample letters of 01.
-- Assumes nothing.
use mathlib.Core.Path.{◌≡◌, refl}
use mathlib.Core.List.{List, [], ◌∷◌}
use Prim.Native.Nat.{ℕ}
use Rattle.utf8.specs.Utf8.{utf8}
use Rattle.units.specs.Units.{unit_of, units, later, kept, decode, utf8_all, run_text}
use Rattle.units.specs.Units.{before, taken, met, met_any, step, values, flushed}
use Rattle.units.proofs.Units.{walk}
use Rattle.std.specs.Prelude.{Option, Some, None}

-- numbers that are present
abbrev given : List ℕ → List (Option ℕ)
given [] = []
given (v ∷ vs) = Some v ∷ given vs

-- the text of numbers, by the definition; and token by token
abbrev Text : ℕ → List (Option ℕ) → List ℕ → Type 0
Text skip ns bs = (run_text skip ns ≡ bs) × (utf8_all (walk skip before ns) ≡ bs)

-- `{\u8212 \'97}`: the fallback behind a character is skipped
fallback : Text 1 (given (8212 ∷ (151 ∷ []))) (226 ∷ (128 ∷ (148 ∷ [])))
unfolding unit_of units later kept decode utf8_all utf8 run_text taken met met_any step values flushed walk
fallback = (refl, refl)

-- `{\'e9\'e8}`: so is the second of two escapes
two-escapes : Text 1 (given (233 ∷ (232 ∷ []))) (195 ∷ (169 ∷ []))
unfolding unit_of units later kept decode utf8_all utf8 run_text taken met met_any step values flushed walk
two-escapes = (refl, refl)

-- `{\u-3913 }`
negative : Text 1 (given (4294963383 ∷ [])) (239 ∷ (130 ∷ (183 ∷ [])))
unfolding unit_of units later kept decode utf8_all utf8 run_text taken met met_any step values flushed walk
negative = (refl, refl)

-- `{\u-10179 \u-8704 }`
two-halves : Text 1 (given (4294957117 ∷ (4294958592 ∷ []))) (240 ∷ (159 ∷ (152 ∷ (128 ∷ []))))
unfolding unit_of units later kept decode utf8_all utf8 run_text taken met met_any step values flushed walk
two-halves = (refl, refl)

-- `{\u-10179 }`
high-alone : Text 1 (given (4294957117 ∷ [])) (239 ∷ (191 ∷ (189 ∷ [])))
unfolding unit_of units later kept decode utf8_all utf8 run_text taken met met_any step values flushed walk
high-alone = (refl, refl)

-- a low surrogate before a high one: neither is part of a pair
low_first : Text 1 (given (4294958592 ∷ (4294957117 ∷ []))) (239 ∷ (191 ∷ (189 ∷ (239 ∷ (191 ∷ (189 ∷ []))))))
unfolding unit_of units later kept decode utf8_all utf8 run_text taken met met_any step values flushed walk
low_first = (refl, refl)

-- two high ones and a low one: the first is lost
high_twice : Text 1 (given (4294957117 ∷ (4294957117 ∷ (4294958592 ∷ [])))) (239 ∷ (191 ∷ (189 ∷ (240 ∷ (159 ∷ (152 ∷ (128 ∷ [])))))))
unfolding unit_of units later kept decode utf8_all utf8 run_text taken met met_any step values flushed walk
high_twice = (refl, refl)

-- a number that gives no unit does not restart the run
no-restart : Text 1 (given (8212 ∷ (70000 ∷ (151 ∷ [])))) (226 ∷ (128 ∷ (148 ∷ [])))
unfolding unit_of units later kept decode utf8_all utf8 run_text taken met met_any step values flushed walk
no-restart = (refl, refl)

-- nor does a token without a number
no_number : Text 1 (Some 8212 ∷ (None ∷ (Some 151 ∷ []))) (226 ∷ (128 ∷ (148 ∷ [])))
unfolding unit_of units later kept decode utf8_all utf8 run_text taken met met_any step values flushed walk
no_number = (refl, refl)

-- such numbers alone give nothing
no-unit : Text 1 (None ∷ (Some 70000 ∷ [])) []
unfolding unit_of units later kept decode utf8_all utf8 run_text taken met met_any step values flushed walk
no-unit = (refl, refl)

-- a skip count of 0 skips nothing
skip-none : Text 0 (given (8212 ∷ (151 ∷ []))) (226 ∷ (128 ∷ (148 ∷ (194 ∷ (151 ∷ [])))))
unfolding unit_of units later kept decode utf8_all utf8 run_text taken met met_any step values flushed walk
skip-none = (refl, refl)

-- nor does one of -1
skip-negative : Text 4294967295 (given (8212 ∷ (151 ∷ []))) (226 ∷ (128 ∷ (148 ∷ (194 ∷ (151 ∷ [])))))
unfolding unit_of units later kept decode utf8_all utf8 run_text taken met met_any step values flushed walk
skip-negative = (refl, refl)

-- a skip count of 2 skips two, not the third
skip-two : Text 2 (given (8212 ∷ (151 ∷ (151 ∷ (152 ∷ []))))) (226 ∷ (128 ∷ (148 ∷ (194 ∷ (152 ∷ [])))))
unfolding unit_of units later kept decode utf8_all utf8 run_text taken met met_any step values flushed walk
skip-two = (refl, refl)

-- a kept unit starts the count afresh
afresh : Text 1 (given (8212 ∷ (151 ∷ (152 ∷ (153 ∷ []))))) (226 ∷ (128 ∷ (148 ∷ (194 ∷ (152 ∷ [])))))
unfolding unit_of units later kept decode utf8_all utf8 run_text taken met met_any step values flushed walk
afresh = (refl, refl)

-- 255 can be skipped, 256 cannot
skip-last : Text 1 (given (8212 ∷ (255 ∷ []))) (226 ∷ (128 ∷ (148 ∷ [])))
unfolding unit_of units later kept decode utf8_all utf8 run_text taken met met_any step values flushed walk
skip-last = (refl, refl)

skip-over : Text 1 (given (8212 ∷ (256 ∷ []))) (226 ∷ (128 ∷ (148 ∷ (196 ∷ (128 ∷ [])))))
unfolding unit_of units later kept decode utf8_all utf8 run_text taken met met_any step values flushed walk
skip-over = (refl, refl)

-- a skipped byte does not part a pair
parted-skipped : Text 1 (given (4294957117 ∷ (63 ∷ (4294958592 ∷ [])))) (240 ∷ (159 ∷ (152 ∷ (128 ∷ []))))
unfolding unit_of units later kept decode utf8_all utf8 run_text taken met met_any step values flushed walk
parted-skipped = (refl, refl)

-- a kept one does
parted-kept : Text 0 (given (4294957117 ∷ (63 ∷ (4294958592 ∷ [])))) (239 ∷ (191 ∷ (189 ∷ (63 ∷ (239 ∷ (191 ∷ (189 ∷ [])))))))
unfolding unit_of units later kept decode utf8_all utf8 run_text taken met met_any step values flushed walk
parted-kept = (refl, refl)

-- the ends of the range: 65,535 and -65,536 are units, one further is none
last-unit : Text 1 (given (65535 ∷ [])) (239 ∷ (191 ∷ (191 ∷ [])))
unfolding unit_of units later kept decode utf8_all utf8 run_text taken met met_any step values flushed walk
last-unit = (refl, refl)

past-last : Text 1 (given (65536 ∷ [])) []
unfolding unit_of units later kept decode utf8_all utf8 run_text taken met met_any step values flushed walk
past-last = (refl, refl)

first-unit : Text 1 (given (4294901760 ∷ [])) (0 ∷ [])
unfolding unit_of units later kept decode utf8_all utf8 run_text taken met met_any step values flushed walk
first-unit = (refl, refl)

past_first : Text 1 (given (4294901759 ∷ [])) []
unfolding unit_of units later kept decode utf8_all utf8 run_text taken met met_any step values flushed walk
past_first = (refl, refl)
