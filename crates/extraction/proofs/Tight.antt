-- One result is permitted: any two that the contracts of `text_of` and `extract` permit coincide. Assumes nothing.
use mathlib.Core.Path.{◌≡◌, sym, ap, ◌∙◌}
use mathlib.Core.List.{List}
use Prim.Native.Nat.{ℕ}
use Rattle.readings.specs.declared.Reading.{Reading}
use Rattle.extraction.specs.declared.listing.Listed.{Listed}
use Rattle.extraction.specs.Extractor.{TextOf, Extracts}
use Rattle.std.specs.Prelude.{Result}
use Rattle.answers.specs.declared.Refusal.{Refusal}
use Rattle.parser.specs.declared.Counts.{Counts}

module _ {rd : Reading} {letter : List ℕ} {r r' : Result Counts Refusal} {room room' : List ℕ} (x : TextOf rd letter r room) (y : TextOf rd letter r' room') where
  pub same_answer : r ≡ r'
  same_answer = x.answer ∙ sym y.answer

  pub same_text : room ≡ room'
  same_text = x.text ∙ sym y.text

abbrev listed : ℕ → ℕ → Listed
listed n b = record { number = n; bytes = b }

module _ {rd : Reading} {letter page : List ℕ} {r r' : Listed} {page' page'' : List ℕ} (x : Extracts rd letter page r page') (y : Extracts rd letter page r' page'') where
  pub same-listed : r ≡ r'
  same-listed = ap (λ (n : ℕ). listed n r.bytes) (x.number ∙ sym y.number) ∙ ap (listed r'.number) (x.bytes ∙ sym y.bytes)

  pub same-page : page' ≡ page''
  same-page = x.content ∙ sym y.content
