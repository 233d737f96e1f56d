-- Rooms that are large enough: all blocks find room, and stay the blocks that they are.
--     items-all, answer-all            blocks as a stream
--     roomy-all, roomy-whole, -text    which find room
--     blocks-apart                     blocks of differing styles are not joined
--     small-records                    a room's records are blocks whose fields are words
--     Reads, stored-reads              what a list reads to
-- Assumes nothing.
use mathlib.Core.Path.{◌≡◌, refl, sym, ap, ◌∙◌}
use mathlib.Core.List.{List, [], ◌∷◌, ◌++◌}
use mathlib.Core.Bool.{Bool, true, false, cond, not, ◌&&◌}
use Prim.Native.Nat.{ℕ, zero, suc, ◌+◌, ◌-◌, ◌≤◌}
use native.Mathlib.Omega.{arith}
use borrow.Author.Tests.{le-ltb, ne_eqb, ltb-false}
use lib.ListN.{length, take, replicate, length-append}
use lib.Seq.{take_at}
use lib.Dec.{ltb, eqb}
use Rattle.answers.specs.declared.Why.TheVariants.{BlockRoom, TextRoom}
use Rattle.answers.specs.Answers.{refusal}
use Rattle.rooms.proofs.Streams.{ok_err}
use Rattle.rooms.specs.Streams.{Stream, end, stop, ◌▸◌, items, answer, ended}
use Rattle.styles.specs.declared.Style.{Style}
use Rattle.rooms.specs.Rooms.{filled}
use Rattle.styles.specs.Styles.{same_style, style_words}
use Rattle.blocks.specs.Pages.{Piece, piece, Last, none, last, starts, roomy, blocks, blocks_from, text_of, records, block_record, text_length}
use Rattle.stored.specs.Stored.{placed, stored_answer, stored_blocks, stored_text}
use Rattle.storing.specs.Good.{Good}
use Rattle.roundtrips.specs.Trips.{Words, Small, all, ReadsAs}
use Rattle.storing.proofs.Writing.{good-one}
use Rattle.answers.specs.declared.Refusal.{Refusal}
use Rattle.std.specs.Prelude.{Ok}

pub items-all : (xs : List Piece) → items (all xs) ≡ xs
unfolding items all
items-all [] = refl
items-all (x ∷ xs) = ap (λ (l : List Piece). x ∷ l) (items-all xs)

pub answer-all : (xs : List Piece) (n : ℕ) → answer n (all xs) ≡ Ok (n + length xs)
unfolding ended all
answer-all [] n = ap (λ (m : ℕ). Ok m) (let z : n ≡ n + 0 = omega arith in z)
answer-all (x ∷ xs) n = answer-all xs (n + 1) ∙ ap (λ (m : ℕ). Ok m) (let z : n + 1 + length xs ≡ n + suc (length xs) = omega arith in z)

-- where all find room
pub roomy-all : (xs : List Piece) (b t : ℕ) (l : Last) → Good l xs ≡ true → length xs ≤ b → length (text_of xs) ≤ t → roomy b t l (all xs) ≡ all xs
unfolding roomy all text_of
roomy-all [] b t l g h k = refl
roomy-all (x ∷ xs) b t l g h k =
    let n = length-append x.bytes (text_of xs) in
    rw ((good-one l x xs g).change, ne_eqb b 0 (λ z. omega arith), le-ltb t (length x.bytes) (omega (arith, n, k)))
    (ap (λ (z : Stream Refusal Piece). x ▸ z) (roomy-all xs (b - 1) (t - length x.bytes) (last x.style) (good-one l x xs g).rest (omega arith) (omega (arith, n, k))))

-- what found room is a front of what was asked, and all of it where all was read
pub roomy-whole : (s : Stream Refusal Piece) (b t : ℕ) (l : Last) (j : ℕ) {r : ℕ} → answer j (roomy b t l s) ≡ Ok r → (roomy b t l s ≡ s)
unfolding roomy ended
roomy-whole end b t l j e = refl
roomy-whole (stop r) b t l j e = refl
roomy-whole (x ▸ s) b t l j {r} e = go (starts l x.style && eqb b 0) (ltb t (length x.bytes)) e
    (λ d. roomy-whole s (cond (starts l x.style) (b - 1) b) (t - length x.bytes) (last x.style) (j + 1) d)
  where
    more : Stream Refusal Piece
    more = roomy (cond (starts l x.style) (b - 1) b) (t - length x.bytes) (last x.style) s

    go : (y z : Bool) → answer j (cond y (stop (refusal BlockRoom)) (cond z (stop (refusal TextRoom)) (x ▸ more))) ≡ Ok r
        → (answer (j + 1) more ≡ Ok r → more ≡ s)
        → cond y (stop (refusal BlockRoom)) (cond z (stop (refusal TextRoom)) (x ▸ more)) ≡ x ▸ s
    go true z d f = absurd (ok_err (sym d))
    go false true d f = absurd (ok_err (sym d))
    go false false d f = ap (λ (q : Stream Refusal Piece). x ▸ q) (f d)

-- blocks of differing styles stay as they are
not-true : (b : Bool) → not b ≡ true → b ≡ false
not-true true e = sym e
not-true false e = refl

apart : (xs : List Piece) (st : Style) (bs : List ℕ) → Good (last st) xs ≡ true → blocks_from st bs xs ≡ piece st bs ∷ xs
unfolding blocks_from
apart [] st bs g = refl
apart (x ∷ xs) st bs g =
    rw (not-true (same_style st x.style) (good-one (last st) x xs g).change)
    (ap (λ (l : List Piece). piece st bs ∷ l) (apart xs x.style x.bytes (good-one (last st) x xs g).rest))

pub blocks-apart : (xs : List Piece) → Good none xs ≡ true → blocks xs ≡ xs
unfolding blocks
blocks-apart [] g = refl
blocks-apart (x ∷ xs) g = apart xs x.style x.bytes (good-one none x xs g).rest

-- the text that found room
pub roomy-text : (s : Stream Refusal Piece) (b t : ℕ) (l : Last) (j : ℕ) {r : ℕ} → answer j (roomy b t l s) ≡ Ok r → length (text_of (items (roomy b t l s))) ≤ t
unfolding roomy ended items text_of
roomy-text end b t l j e = omega arith
roomy-text (stop r) b t l j e = omega arith
roomy-text (x ▸ s) b t l j {r} e = go (starts l x.style && eqb b 0) (ltb t (length x.bytes)) refl e
    (λ d. roomy-text s (cond (starts l x.style) (b - 1) b) (t - length x.bytes) (last x.style) (j + 1) d)
  where
    more : Stream Refusal Piece
    more = roomy (cond (starts l x.style) (b - 1) b) (t - length x.bytes) (last x.style) s

    go : (y z : Bool) → ltb t (length x.bytes) ≡ z → answer j (cond y (stop (refusal BlockRoom)) (cond z (stop (refusal TextRoom)) (x ▸ more))) ≡ Ok r
        → (answer (j + 1) more ≡ Ok r → length (text_of (items more)) ≤ t - length x.bytes)
        → length (text_of (items (cond y (stop (refusal BlockRoom)) (cond z (stop (refusal TextRoom)) (x ▸ more))))) ≤ t
    go true z i d f = absurd (ok_err (sym d))
    go false true i d f = absurd (ok_err (sym d))
    go false false i d f =
        let h : length x.bytes ≤ t = ltb-false t (length x.bytes) i in
        let n = length-append x.bytes (text_of (items more)) in
        omega (arith, h, n, f d)

-- a room's records are blocks whose fields are words
words-front : (ws vs : List ℕ) → Words (ws ++ vs) → Words ws
words-front [] vs w i = omega arith
words-front (n ∷ ws) vs w zero = w 0
words-front (n ∷ ws) vs w (suc i) = words-front ws vs (λ j. w (suc j)) i

words_back : (ws vs : List ℕ) → Words (ws ++ vs) → Words vs
words_back [] vs w i = w i
words_back (n ∷ ws) vs w i = words_back ws vs (λ j. w (suc j)) i

pub small-records : (xs : List Piece) (p : ℕ) → Words (records p xs) → Small xs
unfolding records block_record
small-records [] p w = omega arith
small-records (x ∷ xs) p w =
    let f : Words (style_words x.style ++ (p ∷ length x.bytes ∷ [])) = words-front (style_words x.style ++ (p ∷ length x.bytes ∷ [])) (records (p + length x.bytes) xs) w in
    let b : Words (records (p + length x.bytes) xs) = words_back (style_words x.style ++ (p ∷ length x.bytes ∷ [])) (records (p + length x.bytes) xs) w in
    (words-front (style_words x.style) (p ∷ length x.bytes ∷ []) f, f text_length, small-records xs (p + length x.bytes) b)

-- the front of a filled room
pub take-filled : (total : ℕ) (ws : List ℕ) (n : ℕ) → length ws ≡ n → take n (filled total ws) ≡ ws
take-filled total ws n e = take_at ws (replicate (total - length ws) 0) n e

-- what a list reads to, where its blocks are known and find room
abbrev pub Reads : List ℕ → List Piece → ℕ → ℕ → Type 0
Reads s xs b t = ReadsAs s (record { blocks = length xs; text = length (text_of xs) }) (records 0 xs) (text_of xs) b t

pub stored-reads : (s : List ℕ) (xs : List Piece) (b t : ℕ) → placed b t s ≡ all xs → Good none xs ≡ true → Reads s xs b t
unfolding stored_answer stored_blocks stored_text
stored-reads s xs b t e g =
    let a : answer 0 (all xs) ≡ Ok (0 + length xs) = answer-all xs 0 in
    record {
      answer = rw (e, a, items-all xs, blocks-apart xs g);
      blocks = rw (e, a, items-all xs, blocks-apart xs g);
      text = rw (e, a, items-all xs);
    }
