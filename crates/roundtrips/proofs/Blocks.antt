-- One block, there and back.
-- Assumes nothing.
use mathlib.Core.Path.{◌≡◌, refl, sym, ap, subst, ◌∙◌}
use mathlib.Core.List.{List, [], ◌∷◌, ◌++◌, append_assoc}
use mathlib.Core.Bool.{Bool, true, false, cond, ◌&&◌}
use Prim.Native.Nat.{ℕ, zero, suc, ◌+◌, ◌≤◌, ◌<◌}
use native.Mathlib.Omega.{arith}
use borrow.Author.Tests.{le-leb, lt-ltb}
use lib.ListN.{length, take, drop, get_or, length-append, length-drop}
use lib.Seq.{drop-append_seam, take-append_seam, take-add, take-suc, length-take-le, take_all}
use lib.Dec.{ltb, leb}
use Rattle.answers.specs.declared.Why.TheVariants.{StoredShort, StoredField}
use Rattle.answers.specs.Answers.{refusal, Found, found, refused}
use Rattle.wellformed.specs.WellFormed.{is_utf8}
use Rattle.styles.specs.declared.Style.{Style}
use Rattle.styles.specs.Styles.{bare_width, style_words, flush}
use Rattle.blocks.specs.Pages.{Piece, piece, Last, starts}
use Rattle.fields.specs.Fields.{in_range, by_place, style_numbers, style_from, block_numbers}
use Rattle.fields.proofs.Styles.{style-there, style-back, style-flush, numbers-small, style-small}
use Rattle.stored.specs.declared.entry.Entry.{Entry}
use Rattle.std.specs.Prelude.{Ok, Err}
use Rattle.stored.specs.Entries.{Numbers, numbers_from, as_entry, ruled, entry_of, entry}
use Rattle.stored.proofs.Entries.{Entered, entry-is, Sized, numbers-sized}
use Rattle.storing.specs.Bytes.{numbers_bytes, numbers_in, block_bytes}
use Rattle.roundtrips.specs.Trips.{Bytes, Words}
use Rattle.roundtrips.proofs.Numbers.{numbers-written, numbers-read, ReadBack}

-- a block that may stand behind l
pub record Fit (l : Last) (x : Piece) : Type 0 where
  pub range : in_range x.style ≡ true
  pub some : 0 < length x.bytes
  pub differs : starts l x.style ≡ true
  pub utf8 : is_utf8 x.bytes ≡ true
  pub words : Words (style_words x.style)
  pub short : length x.bytes < 4294967296
  pub bare : flush x.style ≡ true

words_last : (ns : List ℕ) (n : ℕ) → Words ns → n < 4294967296 → Words (ns ++ (n ∷ []))
words_last [] n w h zero = h
words_last [] n w h (suc i) = w i
words_last (m ∷ ns) n w h zero = w 0
words_last (m ∷ ns) n w h (suc i) = words_last ns n (λ j. w (suc j)) h i

last-number : (st : Style) (n : ℕ) → (get_or (style_numbers st ++ (n ∷ [])) bare_width 0 ≡ n) × (length (style_numbers st ++ (n ∷ [])) ≡ block_numbers)
unfolding by_place
last-number st n = (refl, refl)

ruled-fit : (l : Last) (x : Piece) (m : ℕ) (t : List ℕ) → Fit l x → ruled l x.style (length x.bytes) m (x.bytes ++ t) ≡ Ok (as_entry x.style m (length x.bytes))
unfolding ruled
ruled-fit l x m t f =
    let h : length x.bytes ≤ length (x.bytes ++ t) = omega (arith, length-append x.bytes t) in
    rw (f.range, lt-ltb 0 (length x.bytes) f.some, f.differs, le-leb (length x.bytes) (length (x.bytes ++ t)) h, take-append_seam x.bytes t, f.utf8)

pub entry-written : (l : Last) (x : Piece) (t : List ℕ) → Fit l x
    → entry l (block_bytes x ++ t) ≡ Ok (as_entry x.style (length (numbers_bytes (numbers_in x))) (length x.bytes))
unfolding entry block_bytes
entry-written l x t f =
    let ns : List ℕ = numbers_in x in
    let nb : List ℕ = numbers_bytes ns in
    let n : ℕ = length x.bytes in
    let ws : Words ns = words_last (style_numbers x.style) n (numbers-small x.style f.words) f.short in
    let e : numbers_from block_numbers (nb ++ (x.bytes ++ t)) ≡ found (record { values = ns; size = length nb }) =
    ap (λ (k : ℕ). numbers_from k (nb ++ (x.bytes ++ t))) (sym (last-number x.style n).1) ∙ numbers-written ns (x.bytes ++ t) ws in
    let d : drop (length nb) (nb ++ (x.bytes ++ t)) ≡ x.bytes ++ t = drop-append_seam nb (x.bytes ++ t) in
    ap (entry l) (append_assoc nb x.bytes t)
    ∙ rw (e, d, style-there x.style (n ∷ []) f.words f.bare, (last-number x.style n).0) (ruled-fit l x (length nb) t f)

-- what an accepted block was made of
ruled-parts : (l : Last) (st : Style) (n m : ℕ) (s : List ℕ) {x : Entry} → ruled l st n m s ≡ Ok x → as_entry st m n ≡ x
unfolding ruled
ruled-parts l st n m s {x} = go (in_range st && (ltb 0 n && starts l st)) (leb n (length s)) (is_utf8 (take n s))
  where
    go : (a b c : Bool) → cond a (cond b (cond c (Ok (as_entry st m n)) (Err (refusal StoredField))) (Err (refusal StoredShort))) (Err (refusal StoredField)) ≡ Ok x
        → as_entry st m n ≡ x
    go true true true e = cc
    go true true false e = let z : ◌≡◌ {A = ℕ} 0 1 = cc in absurd (omega arith)
    go true false c e = let z : ◌≡◌ {A = ℕ} 0 1 = cc in absurd (omega arith)
    go false b c e = let z : ◌≡◌ {A = ℕ} 0 1 = cc in absurd (omega arith)

-- a block's numbers are those of the style that they say, and the last
numbers-back : (ns : List ℕ) → length ns ≡ block_numbers → Words ns → ns ≡ style_numbers (style_from ns) ++ (get_or ns bare_width 0 ∷ [])
numbers-back ns h w =
    sym (take_all block_numbers ns (omega (arith, h))) ∙ take-suc ns bare_width 0 (omega (arith, h))
    ∙ ap (λ (l : List ℕ). l ++ (get_or ns bare_width 0 ∷ [])) (sym (style-back ns (omega (arith, h)) w))

-- and so is a block that was read
pub record Back (l : Last) (s : List ℕ) (x : Entry) : Type 0 where
  pub bytes : take (x.numbers + x.text) s ≡ block_bytes (piece x.style (take x.text (drop x.numbers s)))
  pub fit : Fit l (piece x.style (take x.text (drop x.numbers s)))

module _ (l : Last) (s : List ℕ) (b : Bytes s) {x : Entry} (e : entry l s ≡ Ok x) where
  facts : Entered l s x
  facts = entry-is l s e

  text : List ℕ
  text = take x.text (drop x.numbers s)

  length-text : length text ≡ x.text
  unfolding text
  length-text = length-take-le x.text (drop x.numbers s) (rw (length-drop x.numbers s) (omega (arith, facts.within)))

  parts : (q : Numbers) → (block_numbers ≤ q.size) × (q.size ≤ length s) × (length q.values ≡ block_numbers) → (take q.size s ≡ numbers_bytes q.values) × Words q.values
      → ruled l (style_from q.values) (get_or q.values bare_width 0) q.size (drop q.size s) ≡ Ok x → Back l s x
  unfolding block_bytes text
  parts q (i, j, k) (t, w) d =
      let r = ruled-parts l (style_from q.values) (get_or q.values bare_width 0) q.size (drop q.size s) d in
      let st : style_from q.values ≡ x.style = ap (λ (y : Entry). y.style) r in
      let m : q.size ≡ x.numbers = ap (λ (y : Entry). y.numbers) r in
      let n : get_or q.values bare_width 0 ≡ x.text = ap (λ (y : Entry). y.text) r in
      let v : q.values ≡ style_numbers x.style ++ (length (take x.text (drop x.numbers s)) ∷ []) = numbers-back q.values k w ∙ rw (st, n, length-text) refl in
      let u : take x.numbers s ≡ numbers_bytes q.values = rw m at t in
      record {
        bytes = take-add x.numbers x.text s ∙ ap (λ (y : List ℕ). y ++ take x.text (drop x.numbers s)) (u ∙ ap numbers_bytes v);
        fit = record {
          range = facts.range;
          some = rw length-text facts.some;
          differs = facts.differs;
          utf8 = facts.utf8;
          words = subst (λ (z : Style). Words (style_words z)) st (style-small q.values w);
          short = rw (length-text, ← n) (w bare_width);
          bare = subst (λ (z : Style). flush z ≡ true) st (style-flush q.values);
        };
      }

  pub entry_read : Back l s x
  unfolding entry
  entry_read = go (numbers_from block_numbers s) (numbers-sized block_numbers s) (numbers-read block_numbers s b) e
    where
      go : (y : Found Numbers) → Sized block_numbers (length s) y → ReadBack s y → entry_of l s y ≡ Ok x → Back l s x
      go (found q) i j d = parts q i j d
      go (refused r) i j d = let z : ◌≡◌ {A = ℕ} 0 1 = cc in absurd (omega arith)
