-- A block's record in a room.
--     put_record     its style's words, then the place and the length of its text
--     style-part     the style that the words of a room from a record on say
--     style-last     the style that a room's last record says
--     record-grown   its last word, stored anew
-- Assumes nothing.
use mathlib.Core.Path.{◌≡◌, sym, ap, ◌∙◌}
use mathlib.Core.List.{List, [], ◌∷◌, ◌++◌, append_assoc}
use Prim.Native.Nat.{ℕ, suc, ◌+◌, ◌-◌, ◌*◌, ◌<◌}
use native.Mathlib.Nat.{add-zero, add-suc}
use native.Mathlib.Omega.{arith}
use lib.ListN.{length, set, take, drop, length-append, length-drop, take-append-drop}
use lib.Seq.{sets, take_all, drop_at, set_at, take-set-lt}
use Rattle.rooms.specs.Rooms.{capacity, put}
use Rattle.rooms.proofs.Rooms.{put_in}
use Rattle.styles.specs.declared.Style.{Style}
use Rattle.styles.specs.Styles.{style_words, style_at}
use Rattle.blocks.specs.Pages.{text_place, text_length, block_words, block_record}
use Rattle.blocks.specs.Laying.{style_in}

-- words stored behind words
sets-append : (xs ys l : List ℕ) (i : ℕ) → sets (sets l i xs) (i + length xs) ys ≡ sets l i (xs ++ ys)
sets-append [] ys l i = ap (λ (k : ℕ). sets l k ys) (add-zero i)
sets-append (x ∷ xs) ys l i =
    let q : i + suc (length xs) ≡ suc i + length xs = omega arith in
    ap (λ (k : ℕ). sets (sets (set l i x) (suc i) xs) k ys) q ∙ sets-append xs ys (set l i x) (suc i)

module _ (room : List ℕ) (n : ℕ) (s : Style) (place count : ℕ) where
  pub put_record : n < capacity block_words (length room) → {l : List ℕ} → l ≡ sets room (n * block_words) (style_words s)
      → set (set l (n * block_words + text_place) place) (n * block_words + text_length) count ≡ put block_words room n (style_words s ++ (place ∷ count ∷ []))
  put_record h {l} e =
      let at : ℕ = n * block_words in
      ap (λ (k : ℕ). set (set l (at + text_place) place) k count) (add-suc at text_place)
      ∙ ap (λ (r : List ℕ). sets r (at + text_place) (place ∷ count ∷ [])) e
      ∙ sets-append (style_words s) (place ∷ count ∷ []) room at
      ∙ put_in block_words room n (style_words s ++ (place ∷ count ∷ [])) h

pub style-part : (room : List ℕ) (n : ℕ) → style_at (take (length room - n * block_words) (drop (n * block_words) room)) ≡ style_in room n
unfolding style_in
style-part room n = ap style_at (take_all (length room - n * block_words) (drop (n * block_words) room) (simp length-drop (omega arith)))

-- a room whose n + 1 records end in one of a style
module _ (W b : List ℕ) (n : ℕ) (s : Style) (place count : ℕ) (before : length W ≡ n * block_words)
    (ends : take ((n + 1) * block_words) b ≡ W ++ block_record s place count) where
  pub style-last : style_in b n ≡ s
  unfolding style_in style_at block_record
  style-last =
      let rest : List ℕ = drop ((n + 1) * block_words) b in
      let whole : b ≡ W ++ (block_record s place count ++ rest) =
      sym (take-append-drop ((n + 1) * block_words) b) ∙ rw ends (append_assoc W (block_record s place count) rest) in
      ap (λ (l : List ℕ). style_at (drop (n * block_words) l)) whole
      ∙ ap style_at (drop_at W (block_record s place count ++ rest) (n * block_words) before)

  pub record-grown : (more : ℕ) → take ((n + 1) * block_words) (set b ((n + 1) * block_words - 1) more) ≡ W ++ block_record s place more
  unfolding block_record
  record-grown more =
      let front : List ℕ = style_words s ++ (place ∷ []) in
      let l : length (W ++ front) ≡ (n + 1) * block_words - 1 = length-append W front ∙ rw before (omega arith) in
      take-set-lt ((n + 1) * block_words) b ((n + 1) * block_words - 1) more (omega arith)
      ∙ rw (ends, ← append_assoc W front (count ∷ [])) (set_at (W ++ front) count [] more ((n + 1) * block_words - 1) l)
      ∙ append_assoc W front (more ∷ [])
