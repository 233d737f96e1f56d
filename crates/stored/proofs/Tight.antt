-- One answer and one content of each room are permitted: any two results that `read_list`'s contract permits coincide, and any two that
-- `check`'s permits. Assumes nothing.
use mathlib.Core.Path.{◌≡◌, sym, ◌∙◌}
use mathlib.Core.List.{List}
use Prim.Native.Nat.{ℕ}
use Rattle.stored.specs.Stored.{ReadsList}
use Rattle.stored.specs.Checks.{Checks}
use Rattle.std.specs.Prelude.{Result}
use Rattle.stored.specs.declared.Counts.{Counts}
use Rattle.answers.specs.declared.Refusal.{Refusal}

pub read-list-tight : {list blocks text : List ℕ} {r q : Result Counts Refusal} {a b c d : List ℕ} → ReadsList list blocks text r a b → ReadsList list blocks text q c d
    → (r ≡ q) × (a ≡ c) × (b ≡ d)
read-list-tight x y = (x.answer ∙ sym y.answer, x.blocks ∙ sym y.blocks, x.text ∙ sym y.text)

pub check-tight : (list : List ℕ) {r q : Result ℕ Refusal} → Checks list r → Checks list q → r ≡ q
check-tight list x y = x ∙ sym y
