-- The rooms of the two tables, once the words behind the records are zero. Assumes nothing.
use mathlib.Core.Path.{◌≡◌, refl, sym, ap, ◌∙◌}
use mathlib.Core.List.{List, ◌++◌}
use Prim.Native.Nat.{ℕ, ◌-◌, ◌*◌, ◌≤◌}
use native.Mathlib.Omega.{arith}
use lib.ListN.{length, take, replicate, length-take}
use Rattle.answers.specs.declared.Refusal.{Refusal}
use Rattle.answers.specs.Answers.{Found, found, refused}
use Rattle.rooms.proofs.Clearing.{filled-front}
use Rattle.fonts.specs.Rows.{table_words, font_words}
use Rattle.fonts.proofs.RowTables.{length-table}
use Rattle.header.specs.declared.HeaderCounts.{HeaderCounts}
use Rattle.header.specs.Entering.{Tables}
use Rattle.header.specs.Header.{InFronts, ReadHeader, counted}
use Rattle.std.specs.Prelude.{Result, Err}
use Rattle.rooms.proofs.Streams.{ok-same}

read-refused : {A : Type 0} {f c : ℕ} {k : Refusal} → counted f c ≡ Err k → A
read-refused e = absurd (let w : ◌≡◌ {A = ℕ} 0 1 = cc in omega arith)

front_fits : (k : ℕ) (ws room : List ℕ) → take k room ≡ ws → length ws ≡ k → k ≤ length room
front_fits k ws room e l = let q : length (take k room) ≡ k = ap length e ∙ l in let h = length-take k room in omega arith

module _ (x : Found Tables) (r : Result HeaderCounts Refusal) (fs cs : List ℕ) (h : InFronts x r fs cs) where
  pub header-fits : {f c : ℕ} → r ≡ counted f c → f * font_words ≤ length fs
  header-fits = go x h
    where
      go : (y : Found Tables) → InFronts y r fs cs → {f c : ℕ} → r ≡ counted f c → f * font_words ≤ length fs
      go (found s) (a, b, d) {f} {c} e =
          let q : counted f c ≡ counted (length s.fonts) (length s.colours) = sym e ∙ a in
          let k : f ≡ length s.fonts = ap (λ (y : HeaderCounts). y.fonts) (ok-same _ _ q) in
          let l : length (table_words s.fonts) ≡ font_words * length s.fonts = length-table s.fonts in
          let m : length (table_words s.fonts) ≤ length fs = front_fits (length (table_words s.fonts)) (table_words s.fonts) fs b refl in
          omega arith
      go (refused q) g e = read-refused (sym e ∙ g)

module _ (zf zc : ℕ) where
  pub header_read : (x : Found Tables) (r : Result HeaderCounts Refusal) (fs cs : List ℕ) → InFronts x r fs cs → {f c : ℕ} → r ≡ counted f c → (fs' cs' : List ℕ)
      → fs' ≡ take (f * font_words) fs ++ replicate (length fs - f * font_words) 0 → cs' ≡ take c cs ++ replicate (length cs - c) 0 → length fs ≡ zf → length cs ≡ zc
      → ReadHeader x zf zc (counted f c) fs' cs'
  header_read (refused q) r fs cs h e fs' cs' u v lf lc = read-refused (sym e ∙ h)
  header_read (found s) r fs cs h {f} {c} e fs' cs' u v lf lc =
      let q : counted f c ≡ counted (length s.fonts) (length s.colours) = sym e ∙ h.0 in
      let k : f ≡ length s.fonts = ap (λ (y : HeaderCounts). y.fonts) (ok-same _ _ q) in
      let m : c ≡ length s.colours = ap (λ (y : HeaderCounts). y.colours) (ok-same _ _ q) in
      let lw : length (table_words s.fonts) ≡ f * font_words = length-table s.fonts ∙ omega arith in
      let front : take (f * font_words) fs ≡ table_words s.fonts = rw (← lw) h.1 in
      (q, filled-front zf (f * font_words) (table_words s.fonts) fs fs' u front lw lf, filled-front zc c s.colours cs cs' v (rw m h.2) (sym m) lc)
