-- A loop over records of one width as chunks of words: of n records that are left the next one is a chunk, and m are behind it.
--     chunk-word, -behind   the words that are left, by the chunk and those behind it
--     chunk-one             how many records that are
--     chunk-words           the words behind the chunk hold the records behind it
--     left_none             no chunk comes: no record is left
-- Assumes nothing.
use mathlib.Core.Path.{◌≡◌, ap, ◌∙◌}
use mathlib.Core.List.{List, ◌++◌}
use Prim.Native.Nat.{ℕ, zero, suc, ◌+◌, ◌*◌, ◌≤◌, ◌<◌}
use native.Mathlib.Omega.{arith}
use lib.ListN.{length, length-append, get_or, get_or-append, drop}
use lib.Seq.{drop_at}

-- `here` is the next record of the n whose words are ws; the m behind it have the words `more`
pub record Chunk (width : ℕ) (ws : List ℕ) (n : ℕ) (here more : List ℕ) (m : ℕ) : Type 0 where
  pub words : ws ≡ here ++ more
  pub size : length here ≡ width
  pub one : m + 1 ≡ n

pub left_none : (width n : ℕ) (ws : List ℕ) → n * width ≤ length ws → (0 < n → length ws < width) → n ≤ 0
left_none width zero ws h f = omega arith
left_none width (suc n) ws h f = let g : length ws < width = f (omega arith) in omega arith

module _ {width : ℕ} {ws : List ℕ} {n : ℕ} {here more : List ℕ} {m : ℕ} (k : Chunk width ws n here more m) where
  pub chunk-word : (i : ℕ) → i < width → get_or ws i 0 ≡ get_or here i 0
  chunk-word i h = rw k.words (get_or-append here more 0 i (rw k.size h))

  pub chunk-behind : drop width ws ≡ more
  chunk-behind = rw k.words (drop_at here more width k.size)

  pub chunk-one : n ≡ suc m
  chunk-one = let e : m + 1 ≡ n = k.one in omega arith

  pub chunk-words : n * width ≤ length ws → m * width ≤ length more
  chunk-words h =
      let e : n ≡ suc m = chunk-one in
      let s : length here ≡ width = k.size in
      let l : length ws ≡ length here + length more = ap length k.words ∙ length-append here more in
      let p : suc m * width ≤ length ws = rw e at h in
      omega arith
