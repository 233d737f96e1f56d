-- A whole list, each way through the code.
--     lay-is, -not               laid
--     list_full, list-laid       read
-- Assumes nothing.
use mathlib.Core.Path.{◌≡◌, sym, ap, ◌∙◌}
use mathlib.Core.List.{List, ◌++◌}
use Prim.Native.Nat.{ℕ, ◌-◌, ◌*◌}
use lib.ListN.{length, take, drop, replicate}
use Rattle.answers.specs.declared.Refusal.{Refusal}
use Rattle.answers.specs.Answers.{refusal}
use Rattle.rooms.specs.Streams.{Stream, items, answer}
use Rattle.sevens.specs.declared.Numeral.{Numeral}
use Rattle.answers.specs.declared.Why.{Why}
use Rattle.sevens.specs.Sevens.{number_of}
use Rattle.blocks.specs.declared.Page.{Page}
use Rattle.blocks.specs.Pages.{Piece, none, blocks, block_words}
use Rattle.blocks.specs.Laying.{Laying, on, off, told, blank, lay_all}
use Rattle.blocks.proofs.Settling.{lay-refuses, lay-joins, Joined, Filled, joined-filled}
use Rattle.stored.specs.Stored.{blocks_from, stored, placed, stored_answer, stored_blocks, stored_text, ReadsList}
use Rattle.stored.proofs.Blocks.{stored_is, stored-not}
use Rattle.std.specs.Prelude.{Result, Ok, Err}
use Rattle.stored.specs.declared.Counts.{Counts}

module _ (s : List ℕ) (b t : List ℕ) where
  pub lay-is : {x : Numeral} → number_of s ≡ Ok x → {k : ℕ} → k ≡ x.value → {l : Laying}
      → l ≡ lay_all (on blank b t) (blocks_from k none (take (length s - x.length) (drop x.length s)))
      → l ≡ lay_all (on blank b t) (stored s)
  lay-is e f h = h ∙ rw (stored_is s e, f)

  pub lay-not : {why : Why} → number_of s ≡ Err why → {r : Refusal} → r ≡ refusal why → off r ≡ lay_all (on blank b t) (stored s)
  unfolding lay_all
  lay-not e f = rw (f, stored-not s e)

module _ (s b t : List ℕ) (l : Result Page Refusal) (b₁ t₁ : List ℕ) (h : told l b₁ t₁ ≡ lay_all (on blank b t) (stored s)) where
  pub list_full : {k : Refusal} → l ≡ Err k → {r : Result Counts Refusal} {b₂ t₂ : List ℕ} → r ≡ Err k → b₂ ≡ replicate (length b₁) 0
      → t₂ ≡ replicate (length t₁) 0
      → length b₁ ≡ length b → length t₁ ≡ length t → ReadsList s b t r b₂ t₂
  unfolding stored_answer stored_blocks stored_text placed
  list_full {k} e f g i lb lt =
      let a : answer 0 (placed (length b) (length t) s) ≡ Err k = lay-refuses (stored s) b t (sym h ∙ ap (λ (m : Result Page Refusal). told m b₁ t₁) e) in
      record { answer = f ∙ rw a; blocks = g ∙ rw (a, lb); text = i ∙ rw (a, lt) }

  module _ {p : Page} (e : l ≡ Ok p) where
    joined : Joined (placed (length b) (length t) s) b t p b₁ t₁
    unfolding placed
    joined = lay-joins (stored s) b t (sym h ∙ ap (λ (m : Result Page Refusal). told m b₁ t₁) e)

    pub list-laid : {b₂ t₂ : List ℕ} → b₂ ≡ take (p.blocks * block_words) b₁ ++ replicate (length b₁ - p.blocks * block_words) 0
        → t₂ ≡ take p.text t₁ ++ replicate (length t₁ - p.text) 0 → ReadsList s b t (Ok (record { blocks = p.blocks; text = p.text })) b₂ t₂
    unfolding stored_answer stored_blocks stored_text
    list-laid {b₂} {t₂} u v =
        let st : Stream Refusal Piece = placed (length b) (length t) s in
        let i : Filled st b t p.blocks p.text b₂ t₂ = joined-filled joined u v in
        record {
          answer = rw joined.done (ap (λ (m : ℕ). Ok (record { blocks = m; text = p.text })) i.counted
              ∙ ap (λ (m : ℕ). Ok (record { blocks = length (blocks (items st)); text = m })) i.text);
          blocks = rw joined.done i.words;
          text = rw joined.done i.bytes;
        }
