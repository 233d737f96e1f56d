-- What `map_err(Refusal::of)` was given, by what it answers.
use mathlib.Core.Path.{◌≡◌, refl, sym, subst, ◌∙◌}
use Rattle.std.specs.Prelude.{Result, Ok, Err, MatchResult, IsErrAnd}
use Rattle.answers.specs.declared.Why.{Why}
use Rattle.answers.specs.declared.Refusal.{Refusal}
use Rattle.answers.specs.Answers.{refusal}

abbrev Mapped : {A : Type 0} → Result A Why → Result A Refusal → Type 0
Mapped x y = MatchResult x (λ v. y ≡ Ok v) (λ w. IsErrAnd y (λ r. r ≡ refusal w))

pub mapped_ok : {A : Type 0} (x : Result A Why) {y : Result A Refusal} {v : A} → Mapped x y → y ≡ Ok v → x ≡ Ok v
mapped_ok {A} (Ok w) {y} {v} h e =
    let q : ◌≡◌ {A = Result A Refusal} (Ok w) (Ok v) = sym h ∙ e in
    let z : w ≡ v = cc in
    rw z
mapped_ok (Err w) {y} h e = absurd (subst (λ z. IsErrAnd z (λ r. r ≡ refusal w)) e h)

pub mapped_err : {A : Type 0} (x : Result A Why) {y : Result A Refusal} {r : Refusal} → Mapped x y → y ≡ Err r
    → (w : Why) × (x ≡ Err w) × (r ≡ refusal w)
mapped_err {A} (Ok v) {y} {r} h e = let q : ◌≡◌ {A = Result A Refusal} (Ok v) (Err r) = sym h ∙ e in absurd (cc)
mapped_err (Err w) h e = (w, refl, subst (λ z. IsErrAnd z (λ r. r ≡ refusal w)) e h)
