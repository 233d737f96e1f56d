-- A key's rank among the records of a room.
--     Half                       how far the search that halves has come
--     stands_here, stands-apart  whether the record at a rank has the key, and what the others have
-- Assumes nothing.
use Rattle.std.proofs.Common.{◌≡◌, ℕ, ◌*◌, ◌<◌, ◌≤◌, Bool, true, false, cond, eqb, ltb, List, length, sym, refl, ◌∙◌, arith, ltb-false, ltb-true, lt-ltb, eq-eqb, eqb-true}
use mathlib.Core.Bool.{false≢true}
use Rattle.fonts.specs.Rows.{key_at, Ascends, Rank, stands, font_words}

-- the records before `low` have smaller keys, those from `high` on do not
pub record Half (room : List ℕ) (n key low high : ℕ) : Type 0 where
  pub long : n * font_words ≤ length room
  pub few : n ≤ 256
  pub ordered : low ≤ high
  pub within : high ≤ n
  pub below : (i : ℕ) → i < low → key_at room i < key
  pub above : (i : ℕ) → high ≤ i → i < n → key ≤ key_at room i

module _ (n : ℕ) (room : List ℕ) (r key : ℕ) where
  -- the record of the key is there
  pub stands_here : stands n room r key ≡ true → (r < n) × (key_at room r ≡ key)
  stands_here e = go (ltb r n) refl e
    where
      go : (t : Bool) → ltb r n ≡ t → cond t (eqb (key_at room r) key) false ≡ true → (r < n) × (key_at room r ≡ key)
      go true q x = (ltb-true r n q, eqb-true (key_at room r) key x)
      go false q x = absurd (false≢true x)

  unequal : stands n room r key ≡ false → r < n → key_at room r ≡ key → ⊥
  unequal e h q = false≢true (sym e ∙ rw (lt-ltb r n h) (eq-eqb (key_at room r) key q))

  -- no record has the key: those from the rank on have larger ones
  pub stands-apart : stands n room r key ≡ false → Ascends n room → Rank n room key r → (i : ℕ) → r ≤ i → i < n → key < key_at room i
  stands-apart e up k i a b =
      let first : key ≤ key_at room r = k.above r (omega arith) (omega arith) in
      let other : key_at room r ≡ key → ⊥ = unequal e (omega arith) in
      go (ltb r i) refl (apart (key_at room r) first other)
    where
      apart : (x : ℕ) → key ≤ x → (x ≡ key → ⊥) → key < x
      apart x f g = gap (ltb key x) refl
        where
          gap : (t : Bool) → ltb key x ≡ t → key < x
          gap true q = ltb-true key x q
          gap false q = absurd (g (let v : x ≤ key = ltb-false key x q in omega arith))

      go : (t : Bool) → ltb r i ≡ t → key < key_at room r → key < key_at room i
      go true q l =
          let u : key_at room r < key_at room i = up.up r i (ltb-true r i q) b in
          omega arith
      go false q l =
          let z : i ≡ r = let v : i ≤ r = ltb-false r i q in omega arith in
          rw z l
