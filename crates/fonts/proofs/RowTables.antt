-- Tables of fonts, ascending by key.
--     table-append       the records of two tables, one after the other
--     length-table       a record is three words
--     up_at              keys that ascend, by index
--     ascending-insert, keys-insert, length-insert, length-kept, stored-longer   a table with a font more
-- Assumes nothing.
use Rattle.std.proofs.Common.{◌≡◌, ℕ, zero, suc, ◌*◌, ◌<◌, ◌≤◌, Bool, true, false, cond, ◌||◌, eqb, ltb, List, [], ◌∷◌, ◌++◌, length, get_or, sym, refl, ap, ◌∙◌, append_assoc, arith, ltb-false, ltb-true, ne_eqb, eqb-true}
use mathlib.Core.Bool.{false≢true}
use borrow.Author.Tests.{eqb-false}
use Rattle.answers.specs.declared.Why.TheVariants.{FontRoom}
use Rattle.answers.specs.Answers.{becomes, fails}
use Rattle.fonts.specs.Rows.{Font, Fonts, first_font, font_words, font_record, table_words, has_key, inserted, stored}

pub table-append : (fs gs : List Font) → table_words (fs ++ gs) ≡ table_words fs ++ table_words gs
unfolding table_words
table-append [] gs = refl
table-append (f ∷ fs) gs = ap (λ (l : List ℕ). font_record f ++ l) (table-append fs gs) ∙ sym (append_assoc (font_record f) (table_words fs) (table_words gs))

pub length-table : (fs : List Font) → length (table_words fs) ≡ font_words * length fs
unfolding table_words font_record
length-table [] = omega arith
length-table (f ∷ fs) = let e : length (table_words fs) ≡ font_words * length fs = length-table fs in omega arith

-- every key of a table is above k
abbrev pub Above : ℕ → List Font → Type 0
Above k [] = Unit {0}
Above k (g ∷ gs) = (k < g.key) × Above k gs

-- the keys ascend
abbrev pub Ascending : List Font → Type 0
Ascending [] = Unit {0}
Ascending (g ∷ gs) = Above g.key gs × Ascending gs

-- every key is a remainder modulo 65,536
abbrev pub Keys : List Font → Type 0
Keys [] = Unit {0}
Keys (g ∷ gs) = (g.key < 65536) × Keys gs

-- the key at a place
abbrev pub key_of : List Font → ℕ → ℕ
key_of fs i = (get_or fs i first_font).key

above_at : (k : ℕ) (fs : List Font) → Above k fs → (i : ℕ) → i < length fs → k < key_of fs i
above_at k [] h i l = absurd (omega arith)
above_at k (f ∷ fs) h zero l = h.0
above_at k (f ∷ fs) h (suc i) l = above_at k fs h.1 i (omega arith)

pub up_at : (fs : List Font) → Ascending fs → (i j : ℕ) → i < j → j < length fs → key_of fs i < key_of fs j
up_at [] h i j a b = absurd (omega arith)
up_at (f ∷ fs) h i zero a b = absurd (omega arith)
up_at (f ∷ fs) h zero (suc j) a b = above_at f.key fs h.0 j (omega arith)
up_at (f ∷ fs) h (suc i) (suc j) a b = up_at fs h.1 i j (omega arith) (omega arith)

above-weaken : (j k : ℕ) → j ≤ k → (fs : List Font) → Above k fs → Above j fs
above-weaken j k l [] h = tt
above-weaken j k l (f ∷ fs) h = (let u : k < f.key = h.0 in omega arith, above-weaken j k l fs h.1)

pub above-none : (k : ℕ) (fs : List Font) → Above k fs → has_key k fs ≡ false
unfolding has_key
above-none k [] h = refl
above-none k (f ∷ fs) h = rw (ne_eqb f.key k (λ e. let u : k < f.key = h.0 in omega arith)) (above-none k fs h.1)

module _ (f : Font) where
  above-insert : (j : ℕ) → j < f.key → (fs : List Font) → Above j fs → Above j (inserted f fs)
  unfolding inserted
  above-insert j l [] h = (l, tt)
  above-insert j l (g ∷ gs) h = go (ltb g.key f.key) (eqb g.key f.key) (above-insert j l gs h.1)
    where
      go : (t u : Bool) → Above j (inserted f gs) → Above j (cond t (g ∷ inserted f gs) (cond u (f ∷ gs) (f ∷ g ∷ gs)))
      go true u k = (h.0, k)
      go false true k = (l, h.1)
      go false false k = (l, (h.0, h.1))

  pub ascending-insert : (fs : List Font) → Ascending fs → Ascending (inserted f fs)
  unfolding inserted
  ascending-insert [] h = (tt, tt)
  ascending-insert (g ∷ gs) h = go (ltb g.key f.key) refl (eqb g.key f.key) refl (ascending-insert gs h.1)
    where
      go : (t : Bool) → ltb g.key f.key ≡ t → (u : Bool) → eqb g.key f.key ≡ u → Ascending (inserted f gs)
          → Ascending (cond t (g ∷ inserted f gs) (cond u (f ∷ gs) (f ∷ g ∷ gs)))
      go true p u q k = (above-insert g.key (ltb-true g.key f.key p) gs h.0, k)
      go false p true q k = let e : g.key ≡ f.key = eqb-true g.key f.key q in (rw (← e) h.0, h.1)
      go false p false q k =
          let a : f.key ≤ g.key = ltb-false g.key f.key p in
          let b : f.key < g.key = above_of f.key g.key a (eqb-false g.key f.key q) in
          ((b, above-weaken f.key g.key a gs h.0), (h.0, h.1))
        where
          above_of : (x y : ℕ) → x ≤ y → (y ≡ x → ⊥) → x < y
          above_of x y l n = part (ltb x y) refl
            where
              part : (t : Bool) → ltb x y ≡ t → x < y
              part true e = ltb-true x y e
              part false e = absurd (n (let v : y ≤ x = ltb-false x y e in omega arith))

  pub keys-insert : f.key < 65536 → (fs : List Font) → Keys fs → Keys (inserted f fs)
  unfolding inserted
  keys-insert l [] h = (l, tt)
  keys-insert l (g ∷ gs) h = go (ltb g.key f.key) (eqb g.key f.key) (keys-insert l gs h.1)
    where
      go : (t u : Bool) → Keys (inserted f gs) → Keys (cond t (g ∷ inserted f gs) (cond u (f ∷ gs) (f ∷ g ∷ gs)))
      go true u k = (h.0, k)
      go false true k = (l, h.1)
      go false false k = (l, (h.0, h.1))

  -- at most one font more
  pub length-insert : (fs : List Font) → length (inserted f fs) ≤ suc (length fs)
  unfolding inserted
  length-insert [] = omega arith
  length-insert (g ∷ gs) = go (ltb g.key f.key) (eqb g.key f.key) (length-insert gs)
    where
      go : (t u : Bool) → length (inserted f gs) ≤ suc (length gs) → length (cond t (g ∷ inserted f gs) (cond u (f ∷ gs) (f ∷ g ∷ gs))) ≤ suc (suc (length gs))
      go true u k = omega arith
      go false true k = omega arith
      go false false k = omega arith

  -- none more where the key is there
  pub length-insert-le : (fs : List Font) → length fs ≤ length (inserted f fs)
  unfolding inserted
  length-insert-le [] = omega arith
  length-insert-le (g ∷ gs) = go (ltb g.key f.key) (eqb g.key f.key) (length-insert-le gs)
    where
      go : (t u : Bool) → length gs ≤ length (inserted f gs) → suc (length gs) ≤ length (cond t (g ∷ inserted f gs) (cond u (f ∷ gs) (f ∷ g ∷ gs)))
      go true u k = omega arith
      go false true k = omega arith
      go false false k = omega arith

  pub length-kept : (fs : List Font) → Ascending fs → has_key f.key fs ≡ true → length (inserted f fs) ≡ length fs
  unfolding inserted has_key
  length-kept [] h e = absurd (false≢true e)
  length-kept (g ∷ gs) h e = go (ltb g.key f.key) refl (eqb g.key f.key) refl e (length-kept gs h.1)
    where
      go : (t : Bool) → ltb g.key f.key ≡ t → (u : Bool) → eqb g.key f.key ≡ u → u || has_key f.key gs ≡ true
          → (has_key f.key gs ≡ true → length (inserted f gs) ≡ length gs)
          → length (cond t (g ∷ inserted f gs) (cond u (f ∷ gs) (f ∷ g ∷ gs))) ≡ suc (length gs)
      go true p true q x k =
          let a : g.key < f.key = ltb-true g.key f.key p in
          let b : g.key ≡ f.key = eqb-true g.key f.key q in
          absurd (omega arith)
      go true p false q x k = ap suc (k x)
      go false p true q x k = refl
      go false p false q x k =
          let a : f.key ≤ g.key = ltb-false g.key f.key p in
          absurd (false≢true (sym (above-none f.key gs (above-weaken f.key g.key a gs h.0)) ∙ x))

-- a table that a font was stored in is no shorter
pub stored-longer : (limit : ℕ) (s r : Fonts) → stored limit s ≡ becomes r → length s.table ≤ length r.table
unfolding stored
stored-longer limit s r e = go (has_key s.font.key s.table || ltb (length s.table) limit) e
  where
    go : (t : Bool) → cond t (becomes (record { table = inserted s.font s.table; font = s.font })) (fails FontRoom) ≡ becomes r
        → length s.table ≤ length r.table
    go true d = let q : record { table = inserted s.font s.table; font = s.font } ≡ r = cc in rw (← q) (length-insert-le s.font s.table)
    go false d = absurd (let z : ◌≡◌ {A = ℕ} 0 1 = cc in omega arith)
