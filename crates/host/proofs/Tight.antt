-- One answer and one content of each room are permitted: any two results that an exported function's contract permits coincide.
-- Assumes nothing.
use mathlib.Core.Path.{◌≡◌, sym, ◌∙◌}
use mathlib.Core.List.{List}
use Prim.Native.Nat.{ℕ}
use Rattle.readings.specs.declared.Reading.{Reading}
use Rattle.parser.specs.Parsing.{Sizes}
use Rattle.host.specs.declared.answer.CutAnswer.{CutAnswer}
use Rattle.host.specs.declared.answer.ReadAnswer.{ReadAnswer}
use Rattle.host.specs.declared.answer.StoredAnswer.{StoredAnswer}
use Rattle.host.specs.declared.answer.WriteAnswer.{WriteAnswer}
use Rattle.host.specs.Exports.{CutFor, ReadFor, CheckFor, StoredFor, WriteFor}

pub cut-tight : {rd : Reading} {src room : List ℕ} {r q : CutAnswer} {a b : List ℕ} → CutFor rd src room r a → CutFor rd src room q b → (r ≡ q) × (a ≡ b)
cut-tight x y = (x.answer ∙ sym y.answer, x.tokens ∙ sym y.tokens)

pub read-tight : {rd : Reading} {src : List ℕ} {z : Sizes} {r r' : ReadAnswer} {tk fs cs bs tx tk' fs' cs' bs' tx' : List ℕ}
    → ReadFor rd src z r tk fs cs bs tx → ReadFor rd src z r' tk' fs' cs' bs' tx'
    → (r ≡ r') × (tk ≡ tk') × (fs ≡ fs') × (cs ≡ cs') × (bs ≡ bs') × (tx ≡ tx')
read-tight x y = (
  x.answer ∙ sym y.answer,
  x.tokens ∙ sym y.tokens,
  x.fonts ∙ sym y.fonts,
  x.colours ∙ sym y.colours,
  x.blocks ∙ sym y.blocks,
  x.text ∙ sym y.text,
)

pub check-tight : (list : List ℕ) {r q : ℕ} → CheckFor list r → CheckFor list q → r ≡ q
check-tight list x y = x ∙ sym y

pub stored-tight : {list bs ts : List ℕ} {r q : StoredAnswer} {a b c d : List ℕ} → StoredFor list bs ts r a b → StoredFor list bs ts q c d
    → (r ≡ q) × (a ≡ c) × (b ≡ d)
stored-tight x y = (x.answer ∙ sym y.answer, x.blocks ∙ sym y.blocks, x.text ∙ sym y.text)

pub write-tight : {blocks text room : List ℕ} {r q : WriteAnswer} {a b : List ℕ} → WriteFor blocks text room r a → WriteFor blocks text room q b
    → (r ≡ q) × (a ≡ b)
write-tight x y = (x.answer ∙ sym y.answer, x.list ∙ sym y.list)
