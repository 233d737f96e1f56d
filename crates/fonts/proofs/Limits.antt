-- How many records a font room holds.
--     limit-within       they lie in the room
-- Assumes nothing.
use Rattle.std.proofs.Common.{◌≡◌, ℕ, ◌*◌, ◌/◌, ◌≤◌, Bool, true, false, cond, ltb, refl, arith, ltb-false}
use Rattle.rooms.specs.Rooms.{table_limit, capacity}
use Rattle.fonts.specs.Rows.{font_words}

pub limit-within : (n : ℕ) → table_limit font_words n * font_words ≤ n
unfolding table_limit
limit-within n = go (ltb (capacity font_words n) 256) refl
  where
    go : (t : Bool) → ltb (n / font_words) 256 ≡ t → cond t (n / font_words) 256 * font_words ≤ n
    go true e = omega arith
    go false e = let h : 256 ≤ n / font_words = ltb-false (n / font_words) 256 e in omega arith
