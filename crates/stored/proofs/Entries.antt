-- One block of a stored list.
--     part                     the rest of a list, behind its first bytes
--     Sized, numbers-sized     numbers have at least a byte each, and stand in the list
--     Entered, entry-is        what holds of a block that is accepted
-- Assumes nothing.
use mathlib.Core.Path.{◌≡◌, refl, ap}
use mathlib.Core.List.{List, [], ◌∷◌}
use mathlib.Core.Bool.{Bool, true, false, cond, ◌&&◌}
use Prim.Native.Nat.{ℕ, zero, suc, ◌+◌, ◌-◌, ◌≤◌, ◌<◌}
use native.Mathlib.Omega.{arith}
use borrow.Author.Tests.{ltb-true, leb-true}
use lib.ListN.{length, take, drop, get_or, length-drop}
use lib.Seq.{take_all}
use lib.Dec.{leb, ltb}
use Rattle.answers.specs.declared.Why.TheVariants.{StoredShort, StoredField}
use Rattle.answers.specs.Answers.{refusal, Found, found, refused}
use Rattle.classes.proofs.Runs.{and_left, and_right}
use Rattle.sevens.specs.declared.Numeral.{Numeral}
use Rattle.answers.specs.declared.Why.{Why}
use Rattle.answers.specs.declared.Refusal.{Refusal}
use Rattle.std.specs.Prelude.{Result, Ok, Err}
use Rattle.sevens.specs.Sevens.{number_of}
use Rattle.sevens.proofs.Sevens.{number-within}
use Rattle.wellformed.specs.WellFormed.{is_utf8}
use Rattle.styles.specs.declared.Style.{Style}
use Rattle.styles.specs.Styles.{bare_width}
use Rattle.blocks.specs.Pages.{Last, starts}
use Rattle.fields.specs.Fields.{in_range, style_from, block_numbers}
use Rattle.stored.specs.declared.entry.Entry.{Entry}
use Rattle.stored.specs.Entries.{Numbers, behind, and_more, numbers_from, as_entry, ruled, entry_of, entry}

-- the rest of a slice, as the code has it
pub part : (n : ℕ) (t : List ℕ) → take (length t - n) (drop n t) ≡ drop n t
part n t = take_all (length t - n) (drop n t) (simp length-drop (omega arith))

-- k numbers that n bytes start with
abbrev pub Sized : ℕ → ℕ → Found Numbers → Type 0
Sized k n (found q) = (k ≤ q.size) × (q.size ≤ n) × (length q.values ≡ k)
Sized k n (refused r) = 0 ≤ n

sized-more : (k n v m : ℕ) (x : Found Numbers) → 0 < m → m ≤ n → Sized k (n - m) x → Sized (suc k) n (behind (v ∷ []) m x)
sized-more k n v m (found q) p h (a, b, c) = (omega arith, omega arith, ap suc c)
sized-more k n v m (refused r) p h s = omega arith

pub numbers-sized : (k : ℕ) (s : List ℕ) → Sized k (length s) (numbers_from k s)
unfolding numbers_from
numbers-sized zero s = (omega arith, omega arith, refl)
numbers-sized (suc k) s = go (number_of s) refl (λ m. numbers-sized k (drop m s))
  where
    go : (x : Result Numeral Why) → number_of s ≡ x → ((m : ℕ) → Sized k (length (drop m s)) (numbers_from k (drop m s)))
        → Sized (suc k) (length s) (and_more x (λ (n : ℕ). numbers_from k (drop n s)))
    go (Ok x) e more =
        let w = number-within s e in
        sized-more k (length s) x.value x.length (numbers_from k (drop x.length s)) w.0 w.1 (rw (length-drop x.length s) at (more x.length))
    go (Err why) e more = omega arith

-- what holds of a block that is accepted
pub record Entered (l : Last) (s : List ℕ) (e : Entry) : Type 0 where
  pub range : in_range e.style ≡ true
  pub some : 0 < e.text
  pub differs : starts l e.style ≡ true
  pub numbers : block_numbers ≤ e.numbers
  pub within : e.numbers + e.text ≤ length s
  pub utf8 : is_utf8 (take e.text (drop e.numbers s)) ≡ true

module _ (l : Last) (s : List ℕ) (st : Style) (n m : ℕ) (low : block_numbers ≤ m) (high : m ≤ length s) where
  accepted : {x : Entry} → in_range st && (ltb 0 n && starts l st) ≡ true → leb n (length (drop m s)) ≡ true
      → is_utf8 (take n (drop m s)) ≡ true
      → ◌≡◌ {A = Result Entry Refusal} (Ok (as_entry st m n)) (Ok x) → Entered l s x
  accepted {x} a b c e =
      let q : as_entry st m n ≡ x = cc in
      let r : ltb 0 n && starts l st ≡ true = and_right (in_range st) (ltb 0 n && starts l st) a in
      let k : n ≤ length s - m = rw (length-drop m s) at (leb-true n (length (drop m s)) b) in
      rw (← q) (record {
        range = and_left (in_range st) (ltb 0 n && starts l st) a;
        some = ltb-true 0 n (and_left (ltb 0 n) (starts l st) r);
        differs = and_right (ltb 0 n) (starts l st) r;
        numbers = low;
        within = omega (arith, k, high);
        utf8 = c;
      })

  ruled-is : {x : Entry} → ruled l st n m (drop m s) ≡ Ok x → Entered l s x
  unfolding ruled
  ruled-is {x} = go (in_range st && (ltb 0 n && starts l st)) (leb n (length (drop m s))) (is_utf8 (take n (drop m s))) refl refl refl
    where
      go : (a b c : Bool) → in_range st && (ltb 0 n && starts l st) ≡ a → leb n (length (drop m s)) ≡ b
          → is_utf8 (take n (drop m s)) ≡ c
          → cond a (cond b (cond c (Ok (as_entry st m n)) (Err (refusal StoredField))) (Err (refusal StoredShort))) (Err (refusal StoredField)) ≡ Ok x → Entered l s x
      go true true true a b c e = accepted a b c e
      go true true false a b c e = let z : ◌≡◌ {A = ℕ} 0 1 = cc in absurd (omega arith)
      go true false c a b d e = let z : ◌≡◌ {A = ℕ} 0 1 = cc in absurd (omega arith)
      go false b c a d f e = let z : ◌≡◌ {A = ℕ} 0 1 = cc in absurd (omega arith)

pub entry-is : (l : Last) (s : List ℕ) {e : Entry} → entry l s ≡ Ok e → Entered l s e
unfolding entry
entry-is l s {e} = go (numbers_from block_numbers s) (numbers-sized block_numbers s)
  where
    go : (x : Found Numbers) → Sized block_numbers (length s) x → entry_of l s x ≡ Ok e → Entered l s e
    go (found q) (a, b, c) f = ruled-is l s (style_from q.values) (get_or q.values bare_width 0) q.size a b f
    go (refused r) h f = let z : ◌≡◌ {A = ℕ} 0 1 = cc in absurd (omega arith)
