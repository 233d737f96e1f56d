-- One answer and one content of each room are permitted: any two results that `read`'s contract permits coincide. Assumes nothing.
use mathlib.Core.Path.{◌≡◌, sym, ◌∙◌}
use mathlib.Core.List.{List}
use Prim.Native.Nat.{ℕ}
use Rattle.readings.specs.declared.Reading.{Reading}
use Rattle.parser.specs.Parsing.{Sizes}
use Rattle.reader.specs.Reading.{Reads}
use Rattle.std.specs.Prelude.{Result}
use Rattle.answers.specs.declared.Refusal.{Refusal}
use Rattle.parser.specs.declared.Counts.{Counts}

pub read-tight : {rd : Reading} {src : List ℕ} {z : Sizes} {r r' : Result Counts Refusal} {tk fs cs bs tx tk' fs' cs' bs' tx' : List ℕ}
    → Reads rd src z r tk fs cs bs tx → Reads rd src z r' tk' fs' cs' bs' tx'
    → (r ≡ r') × (tk ≡ tk') × (fs ≡ fs') × (cs ≡ cs') × (bs ≡ bs') × (tx ≡ tx')
read-tight x y = (
  x.answer ∙ sym y.answer,
  x.tokens ∙ sym y.tokens,
  x.fonts ∙ sym y.fonts,
  x.colours ∙ sym y.colours,
  x.blocks ∙ sym y.blocks,
  x.text ∙ sym y.text,
)
