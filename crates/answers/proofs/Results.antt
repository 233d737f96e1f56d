-- What stands behind a `?` on `ok_or` or `map_err`: a value, or the error that was made.
-- Assumes nothing.
use mathlib.Core.Path.{◌≡◌, refl, sym, ◌∙◌}
use Rattle.std.specs.Prelude.{Option, Some, None, Result, Ok, Err, ok_or, MatchResult, IsErrAnd}

module _ {A E : Type 0} where
  pub ok_or-none : (o : Option A) (e : E) {r : Result A E} {x : E} → r ≡ ok_or o e → r ≡ Err x → (o ≡ None) × (x ≡ e)
  ok_or-none None e p q = (refl, let z : ◌≡◌ {A = Result A E} (Err _) (Err _) = sym q ∙ p in cc)
  ok_or-none (Some v) e {r} {x} p q = let z : ◌≡◌ {A = Result A E} (Err x) (Ok v) = sym q ∙ p in absurd (cc)

  pub ok_or-some : (o : Option A) (e : E) {r : Result A E} {v : A} → r ≡ ok_or o e → r ≡ Ok v → o ≡ Some v
  ok_or-some None e {r} {v} p q = let z : ◌≡◌ {A = Result A E} (Ok v) (Err e) = sym q ∙ p in absurd (cc)
  ok_or-some (Some w) e {r} {v} p q = let z : ◌≡◌ {A = Result A E} (Ok v) (Ok w) = sym q ∙ p in let y : v ≡ w = cc in rw y

-- what stands behind a `?` on `map_err`
module _ {A E F : Type 0} (P : E → F → Type 0) where
  pub mapped-ok : (o : Result A E) {r : Result A F} {x : A} → MatchResult o (λ y. r ≡ Ok y) (λ e. IsErrAnd r (P e)) → r ≡ Ok x → o ≡ Ok x
  mapped-ok (Ok y) {r} {x} h q = let z : ◌≡◌ {A = Result A F} (Ok x) (Ok y) = sym q ∙ h in let w : x ≡ y = cc in rw w
  mapped-ok (Err e) {r} {x} h q = absurd (rw q at h)

  pub mapped-err : (o : Result A E) {r : Result A F} {f : F} → MatchResult o (λ y. r ≡ Ok y) (λ e. IsErrAnd r (P e)) → r ≡ Err f → (e : E) × (o ≡ Err e) × P e f
  mapped-err (Ok y) {r} {f} h q = let z : ◌≡◌ {A = Result A F} (Err f) (Ok y) = sym q ∙ h in absurd (cc)
  mapped-err (Err e) {r} {f} h q = (e, refl, rw q at h)
