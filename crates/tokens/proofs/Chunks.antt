-- The tokens that are left in a loop over a room's tokens as chunks of words, from the chunk that comes next. Assumes nothing.
use mathlib.Core.Path.{◌≡◌}
use mathlib.Core.List.{List, ◌∷◌}
use Prim.Native.Nat.{ℕ, ◌+◌}
use native.Mathlib.Omega.{arith}
use Rattle.rooms.proofs.Chunks.{Chunk, chunk-word, chunk-behind, chunk-one}
use Rattle.tokens.specs.Tokens.{shown_words, token_words}
use Rattle.tokens.specs.Items.{item_at, shown_of, shown_all, token_at, tokens_all}

module _ {ws : List ℕ} {n : ℕ} {here more : List ℕ} {m : ℕ} (k : Chunk token_words ws n here more m) where
  item : item_at ws ≡ item_at here
  unfolding item_at
  item =
      rw (
        chunk-word k 0 (omega arith),
        chunk-word k 1 (omega arith),
        chunk-word k 2 (omega arith),
        chunk-word k 3 (omega arith),
        chunk-word k 4 (omega arith),
        chunk-word k 5 (omega arith),
      )

  pub chunk-shown : (src : List ℕ) → shown_all src n ws ≡ shown_of src (item_at here) ∷ shown_all src m more
  unfolding shown_all
  chunk-shown src = rw (chunk-one k, chunk-behind k, item)

  pub chunk-tokens : (src : List ℕ) → tokens_all src n ws ≡ token_at src here ∷ tokens_all src m more
  unfolding tokens_all
  chunk-tokens src = rw (chunk-one k, chunk-behind k, item, chunk-word k shown_words (omega arith), chunk-word k (shown_words + 1) (omega arith))
