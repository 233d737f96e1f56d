-- Blocks and text of pieces.
--     text-blocks                    joining keeps the text
--     length-record, length-records  the records' words
--     blocks-differ                  blocks that stand side by side differ in style
-- Assumes nothing.
use mathlib.Core.Path.{◌≡◌, refl, ◌∙◌}
use mathlib.Core.List.{List, [], ◌∷◌, ◌++◌, append_assoc}
use mathlib.Core.Bool.{Bool, true, false, cond}
use Prim.Native.Nat.{ℕ, ◌+◌, ◌*◌}
use native.Mathlib.Omega.{arith}
use lib.ListN.{length, length-append}
use Rattle.styles.specs.declared.Style.{Style}
use Rattle.styles.specs.Styles.{same_style}
use Rattle.blocks.specs.Pages.{Piece, piece, blocks_from, blocks, text_of, block_record, records, block_words}

text-cons : (x : Piece) (xs : List Piece) → text_of (x ∷ xs) ≡ x.bytes ++ text_of xs
unfolding text_of
text-cons x xs = refl

text-from : (xs : List Piece) (s : Style) (bs : List ℕ) → text_of (blocks_from s bs xs) ≡ bs ++ text_of xs
unfolding text_of blocks_from
text-from [] s bs = refl
text-from (x ∷ xs) s bs = go (same_style s x.style) (text-from xs s (bs ++ x.bytes)) (text-from xs x.style x.bytes)
  where
    go : (t : Bool) → text_of (blocks_from s (bs ++ x.bytes) xs) ≡ bs ++ x.bytes ++ text_of xs
        → text_of (blocks_from x.style x.bytes xs) ≡ x.bytes ++ text_of xs
        → text_of (cond t (blocks_from s (bs ++ x.bytes) xs) (piece s bs ∷ blocks_from x.style x.bytes xs)) ≡ bs ++ (x.bytes ++ text_of xs)
    go true p q = p ∙ append_assoc bs x.bytes (text_of xs)
    go false p q = text-cons (piece s bs) (blocks_from x.style x.bytes xs) ∙ rw q

pub text-blocks : (xs : List Piece) → text_of (blocks xs) ≡ text_of xs
unfolding text_of blocks
text-blocks [] = refl
text-blocks (x ∷ xs) = text-from xs x.style x.bytes

pub length-record : (s : Style) (place count : ℕ) → length (block_record s place count) ≡ block_words
unfolding block_record
length-record s place count = refl

pub length-records : (xs : List Piece) (n : ℕ) → length (records n xs) ≡ length xs * block_words
unfolding records
length-records [] n = omega arith
length-records (x ∷ xs) n =
    length-append (block_record x.style n (length x.bytes)) (records (n + length x.bytes) xs)
    ∙ rw (length-record x.style n (length x.bytes), length-records xs (n + length x.bytes)) (omega arith)

-- blocks side by side, where a block of a style stands in front
abbrev pub ApartFrom : Style → List Piece → Type 0
ApartFrom s [] = Unit {0}
ApartFrom s (x ∷ xs) = (same_style s x.style ≡ false) × ApartFrom x.style xs

abbrev pub Apart : List Piece → Type 0
Apart [] = Unit {0}
Apart (x ∷ xs) = ApartFrom x.style xs

-- a block of a style, and then such blocks
abbrev Headed : Style → List Piece → Type 0
Headed s [] = ⊥
Headed s (x ∷ xs) = (x.style ≡ s) × ApartFrom s xs

headed-apart : (a s : Style) (xs : List Piece) → same_style a s ≡ false → Headed s xs → ApartFrom a xs
headed-apart a s [] e h = absurd h
headed-apart a s (x ∷ xs) e h = (rw h.0 e, rw h.0 h.1)

headed-from : (xs : List Piece) (s : Style) (bs : List ℕ) → Headed s (blocks_from s bs xs)
unfolding blocks_from
headed-from [] s bs = (refl, tt)
headed-from (x ∷ xs) s bs = go (same_style s x.style) refl (headed-from xs s (bs ++ x.bytes)) (headed-from xs x.style x.bytes)
  where
    go : (t : Bool) → same_style s x.style ≡ t → Headed s (blocks_from s (bs ++ x.bytes) xs) → Headed x.style (blocks_from x.style x.bytes xs)
        → Headed s (cond t (blocks_from s (bs ++ x.bytes) xs) (piece s bs ∷ blocks_from x.style x.bytes xs))
    go true e p q = p
    go false e p q = (refl, headed-apart s x.style (blocks_from x.style x.bytes xs) e q)

headed-all : (s : Style) (xs : List Piece) → Headed s xs → Apart xs
headed-all s [] h = tt
headed-all s (x ∷ xs) h = rw h.0 h.1

pub blocks-differ : (xs : List Piece) → Apart (blocks xs)
unfolding blocks
blocks-differ [] = tt
blocks-differ (x ∷ xs) = headed-all x.style (blocks_from x.style x.bytes xs) (headed-from xs x.style x.bytes)
