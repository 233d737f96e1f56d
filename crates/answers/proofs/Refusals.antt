-- A refusal that is met at a slice.
--     at_carried, at_bare   the code's two branches
--     at-zero               at place 0 it is as one that is of no slice
--     told_at, -none, -weaken   a place that is told right
-- Assumes nothing.
use mathlib.Core.Path.{◌≡◌, refl, sym, ap, ◌∙◌}
use mathlib.Core.Bool.{Bool, true, false, cond, ◌||◌, true≢false}
use Prim.Native.Nat.{ℕ}
use Rattle.answers.specs.declared.Why.{Why}
use Rattle.answers.specs.declared.Refusal.{Refusal}
use Rattle.answers.specs.Answers.{why_number, between, carries, refusal, refusal_at, Told}

-- a place that is kept or not
abbrev placed : Why → ℕ → Bool → Refusal
placed w p t = record { why = w; place = cond t p 0 }

module _ (w : Why) (p : ℕ) {n : ℕ} {none : Refusal} (o : none ≡ refusal w) (e : n ≡ why_number none.why) where
  tested : (t : Bool) → (between 3 6 n || between 9 16 n) ≡ t → carries w ≡ t
  tested t h = ap (λ (k : ℕ). between 3 6 k || between 9 16 k) (sym (e ∙ ap (λ (r : Refusal). why_number r.why) o)) ∙ h

  pub at_carried : (between 3 6 n || between 9 16 n) ≡ true → record { why = w; place = p } ≡ refusal_at w p
  at_carried h = ap (placed w p) (sym (tested true h))

  pub at_bare : (between 3 6 n || between 9 16 n) ≡ false → none ≡ refusal_at w p
  at_bare h = o ∙ ap (placed w p) (sym (tested false h))

pub at_zero : (w : Why) → refusal_at w 0 ≡ refusal w
at_zero w = go (carries w)
  where
    go : (t : Bool) → placed w 0 t ≡ refusal w
    go true = refl
    go false = refl

module _ (P : ℕ → Type 0) where
  pub told_at : (w : Why) (p : ℕ) → P p → Told P (refusal_at w p)
  told_at w p h = record { carried = λ c. rw c h; bare = λ c. rw c }

  pub told_none : (w : Why) → carries w ≡ false → Told P (refusal w)
  told_none w e = record { carried = λ c. absurd (true≢false (sym c ∙ e)); bare = λ c. refl }

  pub told-weaken : (Q : ℕ → Type 0) → ((q : ℕ) → P q → Q q) → {r : Refusal} → Told P r → Told Q r
  told-weaken Q f {r} h = record { carried = λ c. f r.place (h.carried c); bare = h.bare }
