-- Numbers as a letter writes them (01, Answer numbers 4 and 5). Assumes nothing: these are definitions.
use Rattle.std.specs.Prelude.{ℕ, ◌+◌, ◌-◌, ◌*◌, ◌%◌, Bool, cond, ◌&&◌, List, [], ◌∷◌, ◌==◌, nat_le, nat_lt}
use Rattle.std.specs.Prelude.{Option, Some, None}

-- both ends belong
abbrev pub between : ℕ → ℕ → ℕ → Bool
between low high b = nat_le low b && nat_le b high

-- the value of a hexadecimal digit, 0 to 9, A to F or a to f; 16 for any other byte
unfoldable pub hex_digit : ℕ → ℕ
hex_digit b =
    cond (between 48 57 b) (b - 48)
    (cond (between 65 70 b) (b - 65 + 10)
    (cond (between 97 102 b) (b - 97 + 10) 16))

-- "two hex digits, or `+` and one hex digit"
unfoldable pub hex_pair : ℕ → ℕ → Option ℕ
hex_pair a b =
    cond (nat_lt 15 (hex_digit b)) None
    (cond (a == 43) (Some (hex_digit b))
    (cond (nat_lt 15 (hex_digit a)) None (Some (hex_digit a * 16 + hex_digit b))))

-- the value of digits, each of at most 9, after `acc` was read
unfoldable pub digits_from : ℕ → List ℕ → Option ℕ
digits_from acc [] = Some acc
digits_from acc (d ∷ ds) = cond (nat_lt 9 (hex_digit d)) None (digits_from (acc * 10 + hex_digit d) ds)

-- at most the limit
abbrev pub capped : ℕ → Option ℕ → Option ℕ
capped limit (Some v) = cond (nat_le v limit) (Some v) None
capped limit None = None

-- one digit or more, of a value of at most the limit
unfoldable pub digits : ℕ → List ℕ → Option ℕ
digits limit [] = None
digits limit (d ∷ ds) = capped limit (digits_from 0 (d ∷ ds))

-- the negative, "modulo 2^32"
abbrev pub negated : Option ℕ → Option ℕ
negated (Some v) = Some ((4294967296 - v) % 4294967296)
negated None = None

-- a "32-bit signed decimal", "modulo 2^32"
unfoldable pub decimal : List ℕ → Option ℕ
decimal [] = None
decimal (b ∷ s) = cond (b == 45) (negated (digits 2147483648 s)) (digits 2147483647 (b ∷ s))
