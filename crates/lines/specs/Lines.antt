-- Numbers in decimal with signs, and records of a room one a line, as text (01, Sample letters); a refusal's place (02, A4). Assumes nothing: these are
-- definitions.
use Rattle.std.specs.Prelude.{ℕ, zero, suc, ◌-◌, ◌/◌, cond, List, [], ◌∷◌, ◌++◌, eqb, ltb, length, take, drop}
use Rattle.io.specs.Digits.{last_digits}

-- how many digits a number has, if they are at most f and one more
unfoldable pub places : ℕ → ℕ → ℕ
places zero n = 1
places (suc f) n = cond (ltb n 10) 1 (suc (places f (n / 10)))

-- a number in decimal; twenty digits hold any u64
unfoldable pub decimal : ℕ → List ℕ
decimal n = last_digits 10 (places 19 n) n

-- a number and a byte behind it
abbrev pub item : ℕ → ℕ → List ℕ
item n b = decimal n ++ (b ∷ [])

-- a refusal's place, behind its number; success, whose number is 0, has none
unfoldable pub place_item : ℕ → ℕ → List ℕ
place_item number place = cond (eqb number 0) [] (item place 32)

-- "with signs": a word in two's complement
unfoldable pub signed : ℕ → List ℕ
signed w = cond (ltb w 2147483648) (decimal w) (45 ∷ decimal (4294967296 - w))

-- a space behind each word but the last, and behind that a line feed
unfoldable pub mark : ℕ → ℕ → ℕ
mark next words = cond (ltb next words) 32 10

unfoldable pub line : List ℕ → List ℕ
line [] = []
line (w ∷ ws) = signed w ++ (mark 0 (length ws) ∷ line ws)

-- "one a line": the first records of a room, as many as it has whole
unfoldable pub lines : ℕ → ℕ → List ℕ → List ℕ
lines width zero room = []
lines width (suc k) room = cond (ltb (length room) width) [] (line (take width room) ++ lines width k (drop width room))
