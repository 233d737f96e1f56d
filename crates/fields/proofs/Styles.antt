-- A style's numbers, and back.
--     by_place-over, by_place-zeros  one item more is done, in its own place, and in a room of zeros
--     words-done, numbers-done     all items are
--     by_place-undo, by_place-small, length-by_place   each way undoes the other; 32 bits stay 32 bits; no item is lost
--     style-there          the numbers of a style without indents say the style
--     numbers-length, numbers-with   how many numbers a style has; with another behind those of the old form
--     style-back           numbers of 32 bits are those of the style that they say
--     style-flush          the style that numbers say has no indents
--     numbers-small, style-small   a style's numbers have 32 bits if its words do, and the other way
-- Assumes nothing.
use mathlib.Core.Path.{◌≡◌, refl, sym, ap, ap₂, ◌∙◌}
use mathlib.Core.List.{List, [], ◌∷◌, ◌++◌, append_assoc, append-nil}
use mathlib.Core.Bool.{Bool, true, false, cond}
use Prim.Native.Nat.{ℕ, zero, suc, ◌+◌, ◌-◌, ◌≤◌, ◌<◌}
use native.Mathlib.Nat.{add-zero}
use native.Mathlib.Numerals.{add-one}
use native.Mathlib.Omega.{arith}
use lib.ListN.{length, length-take, get_or, set, take, drop, replicate, drop_of_length-le}
use lib.Seq.{drop-cons, take-suc, take-suc-set, take_all, set_at, take_at, length-take-le, get_or-append_seam}
use Rattle.styles.specs.declared.Style.{Style}
use Rattle.styles.specs.Styles.{style_width, bare_width, style_words, style_at, flush}
use Rattle.styles.proofs.Styles.{bare-style_at, style_at-each, flush-zero, flush-bare}
use Rattle.fields.specs.Fields.{folded, unfolded, is_signed, number_at, word_at, by_place, style_numbers, style_from, block_numbers}
use Rattle.fields.proofs.Folds.{unfold-fold, fold-unfold, folded-small, unfolded-small}

-- every word has 32 bits
abbrev pub Words : List ℕ → Type 0
Words ws = (i : ℕ) → get_or ws i 0 < 4294967296

module _ (f : ℕ → ℕ → ℕ) where
  pub length-by_place : (i : ℕ) (xs : List ℕ) → length (by_place f i xs) ≡ length xs
  unfolding by_place
  length-by_place i [] = refl
  length-by_place i (x ∷ xs) = ap suc (length-by_place (suc i) xs)

  by_place-append : (i : ℕ) (xs : List ℕ) (y : ℕ) → by_place f i (xs ++ (y ∷ [])) ≡ by_place f i xs ++ (f (i + length xs) y ∷ [])
  unfolding by_place
  by_place-append i [] y = rw (add-zero i)
  by_place-append i (x ∷ xs) y =
      let q : suc i + length xs ≡ i + suc (length xs) = omega arith in
      ap (λ (l : List ℕ). f i x ∷ l) (by_place-append (suc i) xs y ∙ rw q)

  by_place-take : (n i : ℕ) (xs : List ℕ) → take n (by_place f i xs) ≡ by_place f i (take n xs)
  unfolding by_place
  by_place-take zero i xs = refl
  by_place-take (suc n) i [] = refl
  by_place-take (suc n) i (x ∷ xs) = ap (λ (l : List ℕ). f i x ∷ l) (by_place-take n (suc i) xs)

  -- the items before the i-th are done
  module _ (xs : List ℕ) (i : ℕ) (h : i < length xs) where
    done-length : length (by_place f 0 (take i xs)) ≡ i
    done-length = length-by_place 0 (take i xs) ∙ length-take-le i xs (omega arith)

    done_more : by_place f 0 (take (i + 1) xs) ≡ by_place f 0 (take i xs) ++ (f i (get_or xs i 0) ∷ [])
    done_more =
        let n : 0 + length (take i xs) ≡ i = omega (arith, length-take-le i xs (omega arith)) in
        rw (add-one i, take-suc xs i 0 h) (by_place-append 0 (take i xs) (get_or xs i 0) ∙ rw n)

    pub by_place-step : {l : List ℕ} (y : ℕ) (rest : List ℕ) → l ≡ by_place f 0 (take i xs) ++ (y ∷ rest)
        → set l i (f i (get_or xs i 0)) ≡ by_place f 0 (take (i + 1) xs) ++ rest
    by_place-step y rest e =
        rw (e, set_at (by_place f 0 (take i xs)) y rest (f i (get_or xs i 0)) i done-length, done_more)
        (sym (append_assoc (by_place f 0 (take i xs)) (f i (get_or xs i 0) ∷ []) rest))

    -- those from the i-th on stand behind them as they were
    pub by_place-next : {l : List ℕ} → l ≡ by_place f 0 (take i xs) ++ drop i xs → get_or l i 0 ≡ get_or xs i 0
    by_place-next {l} e =
        let d : drop i xs ≡ get_or xs i 0 ∷ drop (suc i) xs = drop-cons xs i 0 h in
        rw (e, d) (rw done-length at (get_or-append_seam (by_place f 0 (take i xs)) (get_or xs i 0) (drop (suc i) xs) 0))

    pub by_place-over : {l : List ℕ} {v : ℕ} → l ≡ by_place f 0 (take i xs) ++ drop i xs → v ≡ f i (get_or l i 0)
        → set l i v ≡ by_place f 0 (take (i + 1) xs) ++ drop (i + 1) xs
    by_place-over {l} {v} e q =
        let d : drop i xs ≡ get_or xs i 0 ∷ drop (suc i) xs = drop-cons xs i 0 h in
        rw (q, by_place-next e, add-one i) (rw (add-one i) at (by_place-step (get_or xs i 0) (drop (suc i) xs) (rw d at e)))

    -- zeros do
    pub by_place-zeros : (n : ℕ) {l : List ℕ} {v : ℕ} → i < n → l ≡ by_place f 0 (take i xs) ++ replicate (n - i) 0 → v ≡ f i (get_or xs i 0)
        → set l i v ≡ by_place f 0 (take (i + 1) xs) ++ replicate (n - (i + 1)) 0
    by_place-zeros n {l} {v} k e q =
        let d : n - i ≡ suc (n - (i + 1)) = omega arith in
        rw q (by_place-step 0 (replicate (n - (i + 1)) 0) (rw d at e))

-- zeros behind words say what no words say
get_or-zeros : (xs : List ℕ) (n k : ℕ) → get_or (xs ++ replicate n 0) k 0 ≡ get_or xs k 0
get_or-zeros [] zero k = refl
get_or-zeros [] (suc n) zero = refl
get_or-zeros [] (suc n) (suc k) = get_or-zeros [] n k ∙ refl
get_or-zeros (x ∷ xs) n zero = refl
get_or-zeros (x ∷ xs) n (suc k) = get_or-zeros xs n k

style_at-zeros : (xs : List ℕ) (n : ℕ) → style_at (xs ++ replicate n 0) ≡ style_at xs
unfolding style_at
style_at-zeros xs n = simp get_or-zeros

-- all is done
pub words-done : (ns : List ℕ) (i : ℕ) (n : ℕ) {l : List ℕ} → length ns ≤ i → l ≡ by_place word_at 0 (take i ns) ++ replicate n 0
    → style_at l ≡ style_at (by_place word_at 0 ns)
words-done ns i n h e = rw (e, take_all i ns h) (style_at-zeros (by_place word_at 0 ns) n)

pub numbers-done : (s : Style) {ws : List ℕ} → ws ≡ style_words s → (i : ℕ) {l : List ℕ} → style_width ≤ i → l ≡ by_place number_at 0 (take i ws) ++ drop i ws
    → l ≡ by_place number_at 0 (style_words s)
numbers-done s q i h e =
    e ∙ rw q (rw (take_all i (style_words s) h, drop_of_length-le (style_words s) h) (append-nil (by_place number_at 0 (style_words s))))

-- each way undoes the other
module _ (f g : ℕ → ℕ → ℕ) (undo : (i x : ℕ) → x < 4294967296 → g i (f i x) ≡ x) where
  pub by_place-undo : (i : ℕ) (xs : List ℕ) → Words xs → by_place g i (by_place f i xs) ≡ xs
  unfolding by_place
  by_place-undo i [] w = refl
  by_place-undo i (x ∷ xs) w = ap₂ (λ (y : ℕ) (ys : List ℕ). y ∷ ys) (undo i x (w 0)) (by_place-undo (suc i) xs (λ k. w (suc k)))

module _ (f : ℕ → ℕ → ℕ) (small : (i x : ℕ) → x < 4294967296 → f i x < 4294967296) where
  pub by_place-small : (i : ℕ) (xs : List ℕ) → Words xs → Words (by_place f i xs)
  unfolding by_place
  by_place-small i [] w k = w k
  by_place-small i (x ∷ xs) w zero = small i x (w 0)
  by_place-small i (x ∷ xs) w (suc k) = by_place-small (suc i) xs (λ j. w (suc j)) k

there : (i w : ℕ) → w < 4294967296 → word_at i (number_at i w) ≡ w
there i w h = go (is_signed i)
  where
    go : (t : Bool) → cond t (unfolded (cond t (folded w) w)) (cond t (folded w) w) ≡ w
    go true = unfold-fold w h
    go false = refl

back : (i n : ℕ) → n < 4294967296 → number_at i (word_at i n) ≡ n
back i n h = go (is_signed i)
  where
    go : (t : Bool) → cond t (folded (cond t (unfolded n) n)) (cond t (unfolded n) n) ≡ n
    go true = fold-unfold n h
    go false = refl

number_small : (i w : ℕ) → w < 4294967296 → number_at i w < 4294967296
number_small i w h = go (is_signed i)
  where
    go : (t : Bool) → cond t (folded w) w < 4294967296
    go true = folded-small w h
    go false = h

word_small : (i n : ℕ) → n < 4294967296 → word_at i n < 4294967296
word_small i n h = go (is_signed i)
  where
    go : (t : Bool) → cond t (unfolded n) n < 4294967296
    go true = unfolded-small n h
    go false = h

words-taken : (n : ℕ) (ws : List ℕ) → Words ws → Words (take n ws)
words-taken zero ws w i = omega arith
words-taken (suc n) [] w i = w i
words-taken (suc n) (x ∷ ws) w zero = w 0
words-taken (suc n) (x ∷ ws) w (suc i) = words-taken n ws (λ k. w (suc k)) i

pub style-there : (s : Style) (ns : List ℕ) → Words (style_words s) → flush s ≡ true → style_from (style_numbers s ++ ns) ≡ s
style-there s ns w e =
    let bare : List ℕ = take bare_width (style_words s) in
    let n : length (style_numbers s) ≡ bare_width = length-by_place number_at 0 bare in
    rw (take_at (style_numbers s) ns bare_width n, by_place-undo number_at word_at there 0 bare (words-taken bare_width (style_words s) w)) (flush-zero s e)

pub numbers-length : (s : Style) {l : List ℕ} → l ≡ by_place number_at 0 (style_words s) → length l ≡ style_width
numbers-length s e = ap length e ∙ length-by_place number_at 0 (style_words s)

-- a style's numbers with another behind the first eleven, as the writer's code has them
pub numbers-with : (s : Style) (n : ℕ) → take block_numbers (set (by_place number_at 0 (style_words s)) bare_width n) ≡ style_numbers s ++ (n ∷ [])
numbers-with s n =
    let l : List ℕ = by_place number_at 0 (style_words s) in
    let h : bare_width < length l = rw (length-by_place number_at 0 (style_words s)) (omega arith) in
    take-suc-set l bare_width n h ∙ ap (λ (x : List ℕ). x ++ (n ∷ [])) (by_place-take number_at bare_width 0 (style_words s))

pub style-back : (ns : List ℕ) → bare_width ≤ length ns → Words ns → style_numbers (style_from ns) ≡ take bare_width ns
style-back ns h w =
    let bare : List ℕ = take bare_width ns in
    let ws : List ℕ = by_place word_at 0 bare in
    let n : length ws ≡ bare_width = length-by_place word_at 0 bare ∙ length-take-le bare_width ns h in
    rw (bare-style_at ws (omega arith), take_all bare_width ws (omega arith)) (by_place-undo word_at number_at back 0 bare (words-taken bare_width ns w))

pub style-flush : (ns : List ℕ) → flush (style_from ns) ≡ true
style-flush ns = flush-bare (by_place word_at 0 (take bare_width ns)) (rw (length-by_place word_at 0 (take bare_width ns)) (simp length-take (omega arith)))

pub numbers-small : (s : Style) → Words (style_words s) → Words (style_numbers s)
numbers-small s w = by_place-small number_at number_small 0 (take bare_width (style_words s)) (words-taken bare_width (style_words s) w)

pub style-small : (ns : List ℕ) → Words ns → Words (style_words (style_from ns))
style-small ns w =
    style_at-each (λ (x : ℕ). x < 4294967296) (by_place word_at 0 (take bare_width ns)) (omega arith)
    (by_place-small word_at word_small 0 (take bare_width ns) (words-taken bare_width ns w))
