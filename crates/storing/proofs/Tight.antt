-- One answer and one content of the room are permitted: any two results that `write_list`'s contract permits coincide.
-- Assumes nothing.
use mathlib.Core.Path.{◌≡◌, sym, ◌∙◌}
use mathlib.Core.List.{List}
use Prim.Native.Nat.{ℕ}
use Rattle.storing.specs.Storing.{WritesList}
use Rattle.std.specs.Prelude.{Result}
use Rattle.answers.specs.declared.Refusal.{Refusal}

pub write-list-tight : {blocks text room : List ℕ} {r q : Result ℕ Refusal} {a b : List ℕ} → WritesList blocks text room r a → WritesList blocks text room q b
    → (r ≡ q) × (a ≡ b)
write-list-tight x y = (x.answer ∙ sym y.answer, x.content ∙ sym y.content)
