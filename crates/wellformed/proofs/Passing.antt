-- What is passed over is UTF-8 by itself.
--     passed_none, passed_on      nothing; one stretch behind the other
--     passed-more, passed-chunk   bytes that are ASCII; a block of them
--     passed-lead                 those before the first above 127
--     passed_first, passed-eight  those of eight before the first above 127; all eight
--     passed-char                 a character
--     passed-end, no_char         at the end all was UTF-8; where no character stands it is not
-- Assumes nothing.
use mathlib.Core.Path.{◌≡◌, refl, sym, ap, ◌∙◌}
use mathlib.Core.List.{List}
use mathlib.Core.Bool.{Bool, true, false}
use Prim.Native.Nat.{ℕ, ◌+◌, ◌-◌, ◌≤◌, ◌<◌}
use native.Mathlib.Omega.{arith}
use lib.ListN.{length, take, drop, length-take, length-drop, drop_of_length-le, take-append-drop}
use lib.Seq.{drop-drop, take-take}
use Rattle.classes.specs.Bytes.{any, is_high, lead}
use Rattle.std.specs.Array.{IsFirstChunk}
use Rattle.classes.specs.Eights.{packed, marked, outside}
use Rattle.classes.proofs.Runs.{lead-length}
use Rattle.classes.proofs.Marks.{chunk-is, chunk-within, unmarked, lead-outside}
use Rattle.wellformed.specs.WellFormed.{is_utf8}
use Rattle.wellformed.specs.Owed.{char_length}
use Rattle.wellformed.specs.Ascii.{highs, Passed}
use Rattle.wellformed.proofs.Lengths.{utf8-none, utf8-char, char-within}
use Rattle.wellformed.proofs.WellFormed.{utf8-empty, utf8-ascii, utf8-join}

module _ (s : List ℕ) where
  pub passed_none : (from : ℕ) → from ≤ length s → Passed s from from
  passed_none from h = record { low = omega arith; high = h; same = refl }

  pub passed_on : {from at to : ℕ} → Passed s from at → Passed s at to → Passed s from to
  passed_on {from} {at} {to} p q =
      record { low = omega (arith, p.low, q.low); high = q.high; same = p.same ∙ q.same }

module _ (s : List ℕ) {from at : ℕ} (p : Passed s from at) where
  -- n bytes that are UTF-8 by themselves
  further : (n : ℕ) → n ≤ length s - at → is_utf8 (drop at s) ≡ is_utf8 (drop n (drop at s)) → Passed s from (at + n)
  further n h e =
      record {
        low = omega (arith, p.low);
        high = omega (arith, p.high, h);
        same = p.same ∙ e ∙ ap is_utf8 (drop-drop n at s);
      }

  pub passed-more : (n : ℕ) → n ≤ length s - at → any is_high (take n (drop at s)) ≡ false → Passed s from (at + n)
  passed-more n h e =
      further n h
      (ap is_utf8 (sym (take-append-drop n (drop at s)))
      ∙ utf8-join (take n (drop at s)) (drop n (drop at s)) (utf8-ascii (take n (drop at s)) e))

  -- bytes, as the code takes them
  pub passed-chunk : (n : ℕ) (b : List ℕ) → IsFirstChunk (take (length s - at) (drop at s)) b n → any is_high b ≡ false → Passed s from (at + n)
  passed-chunk n b x e =
      let h : at + n ≤ length s = chunk-within s at n b x p.high in
      passed-more n (omega (arith, h)) (rw (chunk-is s at n b x) at e)

  pub passed-char : at < length s → (k : ℕ) → k ≡ char_length (drop at s) → (k ≡ 0 → ⊥) → Passed s from (at + k)
  passed-char l k e z =
      let w : k ≤ length s - at = rw e (simp length-drop at (char-within (drop at s))) in
      further k w (rw e (utf8-char (drop at s) (λ y. z (e ∙ y))))

-- those before the first above 127
pub passed-lead : (s : List ℕ) (from : ℕ) → from ≤ length s → Passed s from (from + lead (outside is_high) (drop from s))
passed-lead s from h =
    let w : lead (outside is_high) (drop from s) ≤ length s - from = simp length-drop at (lead-length (outside is_high) (drop from s)) in
    passed-more s (passed_none s from h) (lead (outside is_high) (drop from s)) w (lead-outside is_high (drop from s))

-- eight bytes, as the code takes them
module _ (s : List ℕ) {from at : ℕ} (p : Passed s from at) (b : List ℕ) (x : IsFirstChunk (take (length s - at) (drop at s)) b 8) (bits : ℕ) (e : bits ≡ highs b) where
  h : at + 8 ≤ length s
  h = chunk-within s at 8 b x p.high

  eight : length b ≡ 8
  eight = rw (chunk-is s at 8 b x) (simp (length-take, length-drop) (omega (arith, h)))

  pub passed_first : (k : ℕ) → ((f : ℕ → Bool) (t : List ℕ) → length t ≡ 8 → bits ≡ packed (marked f t) → k ≡ lead (outside f) t) → Passed s from (at + k)
  passed_first k f =
      let q : k ≡ lead (outside is_high) b = f is_high b eight e in
      let w : k ≤ 8 = omega (arith, q, eight, lead-length (outside is_high) b) in
      let t : take k b ≡ take k (drop at s) = ap (take k) (chunk-is s at 8 b x) ∙ take-take k 8 (drop at s) w in
      let o : any is_high (take k b) ≡ false = rw (← q) at (lead-outside is_high b) in
      passed-more s p k (omega (arith, w, h)) (rw t at o)

  pub passed-eight : bits ≡ 0 → Passed s from (at + 8)
  passed-eight z = passed-chunk s p 8 b x (unmarked is_high b (sym e ∙ z))

module _ (s : List ℕ) (i : ℕ) (p : Passed s 0 i) where
  pub passed-end : length s ≤ i → true ≡ is_utf8 s
  passed-end h = sym (p.same ∙ ap is_utf8 (drop_of_length-le s h) ∙ utf8-empty)

  pub no_char : i < length s → (k : ℕ) → k ≡ char_length (drop i s) → k ≡ 0 → false ≡ is_utf8 s
  no_char l k e z = sym (p.same ∙ utf8-none (drop i s) (simp length-drop (omega arith)) (sym e ∙ z))
