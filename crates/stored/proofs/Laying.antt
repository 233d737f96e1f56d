-- The loop over a list's blocks: those that are left, laid here, are all of them, laid at the start.
--     Going                     so many blocks are laid
--     going-bad, -full, -more   a block that cannot be read, finds no room, or is laid
--     going-left, -end          behind the last block: bytes are left over, or none are
-- Assumes nothing.
use mathlib.Core.Path.{◌≡◌, refl, sym, ◌∙◌}
use mathlib.Core.List.{List}
use Prim.Native.Nat.{ℕ, ◌+◌, ◌-◌, ◌≤◌, ◌<◌}
use native.Mathlib.Omega.{arith}
use lib.ListN.{length, take, drop}
use lib.Seq.{drop-drop}
use Rattle.answers.specs.declared.Refusal.{Refusal}
use Rattle.answers.specs.declared.Why.TheVariants.{StoredLong}
use Rattle.answers.specs.Answers.{refusal}
use Rattle.styles.specs.declared.Style.{Style}
use Rattle.blocks.specs.declared.Page.{Page}
use Rattle.answers.specs.declared.Why.{Why}
use Rattle.std.specs.Prelude.{Result, Ok, Err, Option, Some}
use Rattle.blocks.specs.Pages.{none, last}
use Rattle.blocks.specs.Laying.{Laying, on, off, roomed, blank, add_of, lay_all, Ready}
use Rattle.blocks.proofs.Laying.{lay-off}
use Rattle.fields.specs.Fields.{last_of}
use Rattle.stored.specs.declared.entry.Entry.{Entry}
use Rattle.stored.specs.Entries.{entry}
use Rattle.stored.proofs.Entries.{part}
use Rattle.stored.specs.Stored.{entered, blocks_from}
use Rattle.stored.proofs.Blocks.{blocks-next, blocks-over, over-some, over_none}

-- i blocks of the list s are laid on a page, and t is left
pub record Going (k : ℕ) (s b₀ x₀ t : List ℕ) (i : ℕ) (p : Page) (before : Option Style) (b x : List ℕ) : Type 0 where
  pub ready : Ready p (length b₀) (length x₀)
  pub wide : length b ≡ length b₀
  pub long : length x ≡ length x₀
  pub all : lay_all (on blank b₀ x₀) (blocks_from k none s) ≡ lay_all (on p b x) (blocks_from (k - i) (last_of before) t)

module _ {k : ℕ} {s b₀ x₀ t : List ℕ} {i : ℕ} {p : Page} {before : Option Style} {b x : List ℕ}
    (g : Going k s b₀ x₀ t i p before b x) where
  module _ (h : i < k) where
    to-entry : {e : Result Entry Refusal} → entry (last_of before) t ≡ e
        → lay_all (on blank b₀ x₀) (blocks_from k none s) ≡ lay_all (on p b x) (entered e t (blocks_from (k - (i + 1))))
    to-entry d = g.all ∙ rw (blocks-next (k - i) (k - (i + 1)) (last_of before) t (omega arith), d)

    pub going-bad : {r : Refusal} → entry (last_of before) t ≡ Err r → off r ≡ lay_all (on blank b₀ x₀) (blocks_from k none s)
    unfolding lay_all
    going-bad d = sym (to-entry d)

    module _ {e : Entry} (d : entry (last_of before) t ≡ Ok e) {u : List ℕ} (v : u ≡ take (length t - e.numbers) (drop e.numbers t)) where
      one : {y : Laying} → y ≡ add_of p e.style (take e.text u) b x
          → lay_all (on blank b₀ x₀) (blocks_from k none s) ≡ lay_all y (blocks_from (k - (i + 1)) (last e.style) (drop e.text (drop e.numbers t)))
      unfolding lay_all
      one w = to-entry d ∙ rw (drop-drop e.text e.numbers t, w, v, part e.numbers t) refl

      module _ {o : Result Unit Why} (p' : Page) (b' x' : List ℕ) (w : roomed o p' b' x' ≡ add_of p e.style (take e.text u) b x) where
        pub going-full : {why : Why} → o ≡ Err why → {r : Refusal} → r ≡ refusal why → off r ≡ lay_all (on blank b₀ x₀) (blocks_from k none s)
        going-full {why} y {r} j =
            rw j (sym (one (rw y at w) ∙ lay-off (refusal why) (blocks_from (k - (i + 1)) (last e.style) (drop e.text (drop e.numbers t)))))

        pub going_more : {z : Unit} → o ≡ Ok z → Ready p' (length b) (length x) → length b' ≡ length b → length x' ≡ length x
            → Going k s b₀ x₀ (take (length u - e.text) (drop e.text u)) (i + 1) p' (Some e.style) b' x'
        going_more y z m n =
            let a : take (length u - e.text) (drop e.text u) ≡ drop e.text (drop e.numbers t) = part e.text u ∙ rw (v, part e.numbers t) in
            record {
              ready = rw (← g.wide, ← g.long) z;
              wide = m ∙ g.wide;
              long = n ∙ g.long;
              all = one (rw y at w) ∙ rw a;
            }

  module _ (h : k ≤ i) where
    pub going-left : 0 < length t → {r : Refusal} → r ≡ refusal StoredLong
        → off r ≡ lay_all (on blank b₀ x₀) (blocks_from k none s)
    unfolding lay_all
    going-left l e = sym (g.all ∙ rw (e, blocks-over (k - i) (last_of before) t (omega arith), over-some t l))

    pub going_end : length t ≤ 0 → on p b x ≡ lay_all (on blank b₀ x₀) (blocks_from k none s)
    unfolding lay_all
    going_end l = sym (g.all ∙ rw (blocks-over (k - i) (last_of before) t (omega arith), over_none t l))
