-- One answer and one content of the room are permitted: any two results that `cut`'s contract permits coincide.
-- Assumes nothing.
use mathlib.Core.Path.{◌≡◌, sym, ◌∙◌}
use mathlib.Core.List.{List}
use Prim.Native.Nat.{ℕ}
use Rattle.readings.specs.declared.Reading.{Reading}
use Rattle.cutter.specs.Cutting.{Cuts}
use Rattle.std.specs.Prelude.{Result}
use Rattle.answers.specs.declared.Refusal.{Refusal}

pub cut-tight : {rd : Reading} {source room : List ℕ} {r q : Result ℕ Refusal} {a b : List ℕ} → Cuts rd source room r a → Cuts rd source room q b → (r ≡ q) × (a ≡ b)
cut-tight x y = (x.answer ∙ sym y.answer, x.content ∙ sym y.content)
