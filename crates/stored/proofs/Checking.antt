-- The loop over a list's blocks, without rooms.
--     Checking, checking-..     those that are left, checked here, give the answer of all of them
--     check-is, -not            the whole list, by its count
-- Assumes nothing.
use mathlib.Core.Path.{◌≡◌, refl, sym, ◌∙◌}
use mathlib.Core.List.{List}
use mathlib.Core.Bool.{true}
use Prim.Native.Nat.{ℕ, ◌+◌, ◌-◌, ◌≤◌, ◌<◌}
use native.Mathlib.Omega.{arith}
use borrow.Author.Tests.{lt-ltb, le-ltb, ne_eqb}
use lib.ListN.{length, take, drop, length-take, length-drop}
use Rattle.answers.specs.declared.Refusal.{Refusal}
use Rattle.answers.specs.declared.Why.TheVariants.{StoredLong, TextRoom}
use Rattle.answers.specs.Answers.{refusal}
use Rattle.sevens.specs.declared.Numeral.{Numeral}
use Rattle.answers.specs.declared.Why.{Why}
use Rattle.sevens.specs.Sevens.{number_of}
use Rattle.rooms.specs.Streams.{Stream, stop, ◌▸◌, answer, ended}
use Rattle.styles.specs.declared.Style.{Style}
use Rattle.blocks.specs.Pages.{Piece, piece, Last, none, last, starts, roomy}
use Rattle.fields.specs.Fields.{last_of}
use Rattle.stored.specs.declared.entry.Entry.{Entry}
use Rattle.stored.specs.Entries.{entry}
use Rattle.stored.proofs.Entries.{part, Entered, entry-is}
use Rattle.stored.specs.Stored.{entered, blocks_from}
use Rattle.stored.proofs.Blocks.{blocks-next, blocks-over, over-some, over_none, stored_is, stored-not}
use Rattle.stored.specs.Checks.{checked}
use Rattle.std.specs.Prelude.{Result, Ok, Err, Option, Some}

module _ (b t : ℕ) (l : Last) (x : Piece) (s : Stream Refusal Piece) (e : starts l x.style ≡ true) (h : 0 < b) where
  roomy-next : length x.bytes ≤ t → roomy b t l (x ▸ s) ≡ x ▸ roomy (b - 1) (t - length x.bytes) (last x.style) s
  unfolding roomy
  roomy-next k = rw (e, ne_eqb b 0 (λ z. omega arith), le-ltb t (length x.bytes) k)

  roomy-over : t < length x.bytes → roomy b t l (x ▸ s) ≡ stop (refusal TextRoom)
  unfolding roomy
  roomy-over k = rw (e, ne_eqb b 0 (λ z. omega arith), lt-ltb t (length x.bytes) k)

-- i blocks of the list s are checked, t and room for `left` bytes are left
pub record Checking (k : ℕ) (s t : List ℕ) (i left : ℕ) (before : Option Style) : Type 0 where
  pub short : length t + i ≤ length s
  pub all : (B : ℕ) → length s ≤ B
      → answer 0 (roomy B 2147483647 none (blocks_from k none s)) ≡ answer i (roomy (B - i) left (last_of before) (blocks_from (k - i) (last_of before) t))

module _ {k : ℕ} {s t : List ℕ} {i left : ℕ} {before : Option Style} (g : Checking k s t i left before) where
  module _ (h : i < k) where
    module _ (B : ℕ) (w : length s ≤ B) where
      to-check : {e : Result Entry Refusal} → entry (last_of before) t ≡ e
          → answer 0 (roomy B 2147483647 none (blocks_from k none s))
          ≡ answer i (roomy (B - i) left (last_of before) (entered e t (blocks_from (k - (i + 1)))))
      to-check d = g.all B w ∙ rw (blocks-next (k - i) (k - (i + 1)) (last_of before) t (omega arith), d)

      pub checking-bad : {r : Refusal} → entry (last_of before) t ≡ Err r → Err r ≡ answer 0 (roomy B 2147483647 none (blocks_from k none s))
      unfolding roomy ended
      checking-bad d = sym (to-check d)

      module _ {e : Entry} (d : entry (last_of before) t ≡ Ok e) where
        facts : Entered (last_of before) t e
        facts = entry-is (last_of before) t d

        bytes : length (take e.text (drop e.numbers t)) ≡ e.text
        bytes = length-take e.text (drop e.numbers t) ∙ simp length-drop (omega (arith, facts.within))

        pub checking-text : left < e.text → {r : Refusal} → r ≡ refusal TextRoom
            → Err r ≡ answer 0 (roomy B 2147483647 none (blocks_from k none s))
        unfolding ended
        checking-text l q =
            sym (to-check d ∙ rw (
              q,
              roomy-over (B - i) left (last_of before) (piece e.style (take e.text (drop e.numbers t))) (blocks_from (k - (i + 1)) (last e.style) (drop (e.numbers + e.text) t))
                  facts.differs (omega (arith, w, g.short, facts.within, facts.numbers)) (rw bytes l),
            ))

        checking-next : e.text ≤ left → answer 0 (roomy B 2147483647 none (blocks_from k none s))
            ≡ answer (i + 1) (roomy (B - (i + 1)) (left - e.text) (last e.style) (blocks_from (k - (i + 1)) (last e.style) (drop (e.numbers + e.text) t)))
        unfolding ended
        checking-next l =
            let j : B - (i + 1) ≡ B - i - 1 = omega arith in
            to-check d ∙ rw (
              j,
              roomy-next (B - i) left (last_of before) (piece e.style (take e.text (drop e.numbers t))) (blocks_from (k - (i + 1)) (last e.style) (drop (e.numbers + e.text) t))
                  facts.differs (omega (arith, w, g.short, facts.within, facts.numbers)) (rw bytes l),
              bytes,
            ) refl

    pub checking-more : {e : Entry} → entry (last_of before) t ≡ Ok e → e.text ≤ left
        → Checking k s (take (length t - (e.numbers + e.text)) (drop (e.numbers + e.text) t)) (i + 1) (left - e.text) (Some e.style)
    checking-more {e} d l =
        let q = entry-is (last_of before) t d in
        rw (part (e.numbers + e.text) t) (record {
          short = simp length-drop (omega (arith, g.short, q.within, q.numbers));
          all = λ B w. checking-next B w d l;
        })

  module _ (h : k ≤ i) (B : ℕ) (w : length s ≤ B) where
    pub checking-left : 0 < length t → {r : Refusal} → r ≡ refusal StoredLong
        → Err r ≡ answer 0 (roomy B 2147483647 none (blocks_from k none s))
    unfolding roomy ended
    checking-left l e = sym (g.all B w ∙ rw (e, blocks-over (k - i) (last_of before) t (omega arith), over-some t l))

    pub checking-end : i ≤ k → length t ≤ 0 → Ok k ≡ answer 0 (roomy B 2147483647 none (blocks_from k none s))
    unfolding roomy ended
    checking-end m l =
        let z : i ≡ k = omega arith in
        sym (g.all B w ∙ rw (blocks-over (k - i) (last_of before) t (omega arith), over_none t l, z))

-- ---- the whole list

module _ (s : List ℕ) where
  pub check-is : {x : Numeral} → number_of s ≡ Ok x → {k : ℕ} → k ≡ x.value → {r : Result ℕ Refusal}
      → ((b : ℕ) → length (take (length s - x.length) (drop x.length s)) ≤ b → r ≡ answer 0 (roomy b 2147483647 none (blocks_from k none (take (length s - x.length) (drop x.length s))))) → r ≡ checked s
  unfolding checked
  check-is {x} e f h =
      let l : length (take (length s - x.length) (drop x.length s)) ≤ length s = rw (part x.length s, length-drop x.length s) (omega arith) in
      h (length s) l ∙ rw (stored_is s e, f)

  pub check-not : {why : Why} → number_of s ≡ Err why → {r : Refusal} → r ≡ refusal why → Err r ≡ checked s
  unfolding checked roomy ended
  check-not e f = rw (f, stored-not s e)
