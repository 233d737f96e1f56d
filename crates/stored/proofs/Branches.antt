-- Each way through the code of one block, as the definition has it.
--     ruled-..   by the rules
--     block-..   by what came of the numbers
-- Assumes nothing.
use mathlib.Core.Path.{◌≡◌, refl, sym, ◌∙◌}
use mathlib.Core.List.{List}
use mathlib.Core.Bool.{Bool, true, false, not, ◌&&◌}
use Prim.Native.Nat.{ℕ, ◌-◌, ◌≤◌, ◌<◌}
use borrow.Author.Tests.{le-leb, lt-leb}
use lib.ListN.{length, take, drop, get_or}
use lib.Dec.{ltb}
use Rattle.answers.specs.declared.Refusal.{Refusal}
use Rattle.answers.specs.declared.Why.TheVariants.{StoredShort, StoredField}
use Rattle.answers.specs.Answers.{refusal, Found, found, refused}
use Rattle.rooms.proofs.Streams.{ok_err}
use Rattle.wellformed.specs.WellFormed.{is_utf8}
use Rattle.styles.specs.declared.Style.{Style}
use Rattle.styles.specs.Styles.{bare_width}
use Rattle.blocks.specs.Pages.{Last, starts}
use Rattle.fields.specs.Fields.{in_range, style_from, block_numbers}
use Rattle.stored.specs.declared.entry.Entry.{Entry}
use Rattle.stored.specs.Entries.{Numbers, numbers_from, NumbersIn, as_entry, ruled, entry_of, entry}
use Rattle.stored.proofs.Entries.{part}
use Rattle.std.specs.Prelude.{Result, Ok, Err}

not-true : (b : Bool) → not b ≡ true → b ≡ false
not-true true e = sym e
not-true false e = refl

not-false : (b : Bool) → not b ≡ false → b ≡ true
not-false true e = refl
not-false false e = sym e

module _ (l : Last) (st : Style) (n m : ℕ) (s : List ℕ) {a d : Bool} (p : a ≡ in_range st) (q : d ≡ starts l st) where
  pub ruled-field : not (a && (ltb 0 n && d)) ≡ true → {r : Refusal} → r ≡ refusal StoredField → Err r ≡ ruled l st n m s
  unfolding ruled
  ruled-field e f = rw (f, ← p, ← q, not-true (a && (ltb 0 n && d)) e)

  module _ (e : not (a && (ltb 0 n && d)) ≡ false) where
    pub ruled-short : length s < n → {r : Refusal} → r ≡ refusal StoredShort → Err r ≡ ruled l st n m s
    unfolding ruled
    ruled-short h f = rw (f, ← p, ← q, not-false (a && (ltb 0 n && d)) e, lt-leb n (length s) h)

    module _ (h : n ≤ length s) {u : Bool} (k : u ≡ is_utf8 (take n s)) where
      pub ruled-is : u ≡ true → Ok (as_entry st m n) ≡ ruled l st n m s
      unfolding ruled
      ruled-is t = rw (← p, ← q, not-false (a && (ltb 0 n && d)) e, le-leb n (length s) h, ← k, t)

      pub ruled-bytes : u ≡ false → {r : Refusal} → r ≡ refusal StoredField → Err r ≡ ruled l st n m s
      unfolding ruled
      ruled-bytes t f = rw (f, ← p, ← q, not-false (a && (ltb 0 n && d)) e, le-leb n (length s) h, ← k, t)

-- by what came of the numbers
module _ (l : Last) (s ws : List ℕ) {k : ℕ} (r : Result ℕ Refusal) (z : k ≡ block_numbers) (h : NumbersIn (numbers_from k s) (length s) r ws) where
  numbers : NumbersIn (numbers_from block_numbers s) (length s) r ws
  numbers = rw z at h

  pub block_refused : {f : Refusal} → r ≡ Err f → Err f ≡ entry l s
  unfolding entry
  block_refused {f} e = go (numbers_from block_numbers s) numbers
    where
      go : (x : Found Numbers) → NumbersIn x (length s) r ws → Err f ≡ entry_of l s x
      go (found q) (a, b, c) = absurd (ok_err (sym a ∙ e))
      go (refused g) a = let w : Err f ≡ Err g = sym e ∙ a in let v : f ≡ g = cc in rw v

  pub block-entry : {m n : ℕ} {st : Style} {x : Result Entry Refusal} → r ≡ Ok m → st ≡ style_from ws → n ≡ get_or ws bare_width 0
      → x ≡ ruled l st n m (take (length s - m) (drop m s)) → x ≡ entry l s
  unfolding entry
  block-entry {m} {n} {st} {x} e i j d = go (numbers_from block_numbers s) numbers
    where
      go : (y : Found Numbers) → NumbersIn y (length s) r ws → x ≡ entry_of l s y
      go (found q) (a, b, c) =
          let w : Ok m ≡ Ok q.size = sym e ∙ a in
          let v : m ≡ q.size = cc in
          d ∙ rw (part m s, i, j, v, b)
      go (refused g) a = absurd (ok_err (sym e ∙ a))
