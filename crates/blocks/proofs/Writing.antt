-- The code's steps, one law for each way through it: what its tests say, what its callees promise.
--     cap-..                        how much of a text room counts
--     twice, joins-.., joined       whether text of a style joins the last block
--     start-.., append-.., add-..   what the code answers is what laying says
--     still-..                      and what it asks holds again
-- Assumes nothing.
use mathlib.Core.Path.{◌≡◌, refl, sym, ◌∙◌}
use mathlib.Core.List.{List, [], ◌∷◌, ◌++◌}
use mathlib.Core.Bool.{Bool, true, false, cond, not, true≢false}
use Prim.Native.Nat.{ℕ, zero, suc, ◌-◌, ◌<◌, ◌≤◌}
use native.Mathlib.Omega.{arith}
use borrow.Author.Tests.{lt-ltb, le-ltb, ltb-true, ltb-false, not-true, not-false}
use lib.ListN.{length}
use lib.Seq.{sets}
use lib.Dec.{ltb}
use Rattle.answers.specs.declared.Refusal.{Refusal}
use Rattle.answers.specs.declared.Why.TheVariants.{BlockRoom, TextRoom}
use Rattle.answers.specs.Answers.{refusal}
use Rattle.rooms.specs.Rooms.{capacity, put}
use Rattle.styles.specs.declared.Style.{Style}
use Rattle.styles.specs.Styles.{style_words, same_style}
use Rattle.blocks.specs.declared.Page.{Page}
use Rattle.blocks.specs.Pages.{block_words, block_record, text_capacity, starts}
use Rattle.blocks.specs.Laying.{Laying, on, off, style_in, last_in, opened, longer, measured, start_of, roomed, append_of, add_of, ReadyBlocks, Ready}
use Rattle.std.specs.Prelude.{Result, Ok, Err}
use Rattle.answers.specs.declared.Why.{Why}

pub cap-in : (n : ℕ) → n < 2147483647 → n ≡ text_capacity n
cap-in n h = rw (lt-ltb n 2147483647 h)

pub cap-out : (n : ℕ) → 2147483647 ≤ n → 2147483647 ≡ text_capacity n
cap-out n h = rw (le-ltb n 2147483647 h)

pub cap-le : (n : ℕ) → (text_capacity n ≤ n) × (text_capacity n ≤ 2147483647)
cap-le n = go (ltb n 2147483647) refl
  where
    go : (b : Bool) → ltb n 2147483647 ≡ b → (cond b n 2147483647 ≤ n) × (cond b n 2147483647 ≤ 2147483647)
    go true e = let h : n < 2147483647 = ltb-true n 2147483647 e in (omega arith, omega arith)
    go false e = let h : 2147483647 ≤ n = ltb-false n 2147483647 e in (omega arith, omega arith)

pub twice : (x : Bool) → x ≡ not (not x)
twice true = refl
twice false = refl

module _ (b : List ℕ) (s : Style) where
  pub joins-none : (n : ℕ) → n ≡ 0 → false ≡ not (starts (last_in b n) s)
  joins-none n z = rw z

  pub joins-last : (n : ℕ) {l : Style} {x : Bool} → (n ≡ 0 → ⊥) → l ≡ style_in b (n - 1) → x ≡ same_style l s → x ≡ not (starts (last_in b n) s)
  joins-last zero z e q = absurd (z refl)
  joins-last (suc n) z e q =
      let k : suc n - 1 ≡ n = omega arith in
      q ∙ rw (e, k) (twice (same_style (style_in b n) s))

  pub joined : (n : ℕ) {x : Bool} → x ≡ not (starts (last_in b n) s) → x ≡ true → 0 < n
  joined zero j e = absurd (true≢false (sym e ∙ j))
  joined (suc n) j e = omega arith

module _ (p : Page) (s : Style) (b t : List ℕ) {x : Bool} (j : x ≡ not (starts (last_in b p.blocks) s)) where
  pub start-same : x ≡ true → on p b t ≡ start_of p s b t
  unfolding start_of
  start-same e = rw (not-true (starts (last_in b p.blocks) s) (sym j ∙ e))

  module _ (e : x ≡ false) where
    pub start-new : {b' : List ℕ} → p.blocks < capacity block_words (length b) → b' ≡ put block_words b p.blocks (style_words s ++ (p.text ∷ 0 ∷ []))
        → on (opened p) b' t ≡ start_of p s b t
    unfolding start_of block_record
    start-new h q = rw (not-false (starts (last_in b p.blocks) s) (sym j ∙ e), lt-ltb p.blocks (capacity block_words (length b)) h, q)

    pub start-full : {r : Refusal} → capacity block_words (length b) ≤ p.blocks → r ≡ refusal BlockRoom → off r ≡ start_of p s b t
    unfolding start_of
    start-full h q = rw (not-false (starts (last_in b p.blocks) s) (sym j ∙ e), le-ltb p.blocks (capacity block_words (length b)) h, q)

module _ (p : Page) (bytes b t : List ℕ) where
  pub append-full : {r : Refusal} {k : ℕ} → k ≡ text_capacity (length t) → k - p.text < length bytes → r ≡ refusal TextRoom → off r ≡ append_of p bytes b t
  unfolding append_of
  append-full {k = k} c h q = rw (← c, lt-ltb (k - p.text) (length bytes) h, q)

  pub append-more : {t' : List ℕ} {k : ℕ} → k ≡ text_capacity (length t) → length bytes ≤ k - p.text → t' ≡ sets t p.text bytes
      → on (longer p (length bytes)) (measured (longer p (length bytes)) b) t' ≡ append_of p bytes b t
  unfolding append_of
  append-more {k = k} c h q = rw (← c, le-ltb (k - p.text) (length bytes) h, q)

pub still-new : (p : Page) (w v : ℕ) → ReadyBlocks p w → p.blocks < capacity block_words w → p.text ≤ text_capacity v → Ready (opened p) w v
still-new p w v h l k = record { page = record { blocks = omega arith; small = h.small; from = omega arith }; text = k }

pub still-more : (p : Page) (w v m n : ℕ) → ReadyBlocks p w → m ≡ text_capacity v → p.text ≤ m → n ≤ m - p.text → Ready (longer p n) w v
still-more p w v m n h e k l =
    let c : m ≤ 2147483647 = rw e (cap-le v).1 in
    record { page = record { blocks = h.blocks; small = omega arith; from = omega (arith, h.from) }; text = rw (← e) (omega arith) }

module _ (p : Page) (s : Style) (bytes b t : List ℕ) where
  module _ (q : Page) (b' : List ℕ) (x : Result Unit Why) (e : roomed x q b' t ≡ start_of p s b t) where
    pub add-full : (why : Why) → x ≡ Err why → off (refusal why) ≡ add_of p s bytes b t
    unfolding add_of
    add-full why h = rw (← e, h)

    -- the text of what has started
    pub add-begun : (u : Unit) → x ≡ Ok u → {z : Laying} → z ≡ append_of q bytes b' t → z ≡ add_of p s bytes b t
    unfolding add_of
    add-begun u h f = rw (← e, h) f
