-- Answers as a host gets them, by what their parts are. Assumes nothing.
use Prim.Native.Nat.{ℕ}
use mathlib.Core.Path.{◌≡◌}
use Rattle.answers.specs.declared.Refusal.{Refusal}
use Rattle.answers.specs.Answers.{why_number, answer_number, outcome_count, answer_place}
use Rattle.parser.specs.declared.Counts.{Counts}
use Rattle.stored.specs.declared.Counts.{Counts as Pair}
use Rattle.stored.specs.Stored.{answer_counts}
use Rattle.host.specs.Exports.{cut_of, read_of, stored_of, write_of}
use Rattle.std.specs.Prelude.{Result, Ok, Err}

pub cut_as : (o : Result ℕ Refusal) {n p k : ℕ} → n ≡ answer_number o → p ≡ answer_place o → k ≡ outcome_count o → record { refusal = n; place = p; tokens = k } ≡ cut_of o
cut_as o f h g = rw (f, h, g)

pub write_as : (o : Result ℕ Refusal) {n k : ℕ} → n ≡ answer_number o → k ≡ outcome_count o → record { refusal = n; bytes = k } ≡ write_of o
write_as o f g = rw (f, g)

pub read_as : {a : Result Counts Refusal} {n : Counts} → a ≡ Ok n
    → record { refusal = 0; place = 0; tokens = n.tokens; fonts = n.fonts; colours = n.colours; blocks = n.blocks; text = n.text } ≡ read_of a
read_as e = rw e

pub refused_as : {a : Result Counts Refusal} {r : Refusal} {k : ℕ} → a ≡ Err r → k ≡ why_number r.why
    → record { refusal = k; place = r.place; tokens = 0; fonts = 0; colours = 0; blocks = 0; text = 0 } ≡ read_of a
refused_as e h = rw (e, h)

pub stored-as : (a : Result Pair Refusal) {n : ℕ} {k : Pair} → n ≡ answer_number a → k ≡ answer_counts a → record { refusal = n; blocks = k.blocks; text = k.text } ≡ stored_of a
stored-as a f g = rw (f, g)
