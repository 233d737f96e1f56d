-- 01, Stored form: "Numbers go low seven bits first, the high bit set on all but the last, shortest." Assumes nothing: these
-- are definitions.
use Rattle.std.specs.Prelude.{ℕ, zero, suc, ◌+◌, ◌*◌, ◌/◌, ◌%◌, ◌^◌, List, [], ◌∷◌, Bool, cond, not, ◌&&◌, ◌||◌, ltb, eqb, length, take, Result, Ok, Err}
use Rattle.rooms.specs.Rooms.{Layout}
use Rattle.rooms.specs.Streams.{Stream, end, ◌▸◌}
use Rattle.sevens.specs.declared.Numeral.{Numeral}
use Rattle.answers.specs.declared.Why.{Why}
use Rattle.answers.specs.declared.Why.TheVariants.{StoredNumber, StoredShort}
use Rattle.answers.specs.declared.Refusal.{Refusal}

-- the groups of a number: at most k, and then what is left as the last one
unfoldable pub groups : ℕ → ℕ → List ℕ
groups zero n = n ∷ []
groups (suc k) n = cond (ltb n 128) (n ∷ []) ((128 + n % 128) ∷ groups k (n / 128))

-- a number of 32 bits, which five groups hold
abbrev pub written : ℕ → List ℕ
written n = groups 4 n

-- how many bytes in front have the high bit
unfoldable pub high : List ℕ → ℕ
high [] = 0
high (b ∷ s) = cond (ltb b 128) 0 (suc (high s))

-- the value of groups, a sum of powers of 128, from the i-th power on
unfoldable pub sum_from : ℕ → List ℕ → ℕ
sum_from i [] = 0
sum_from i (b ∷ s) = (b % 128) * 128 ^ i + sum_from (suc i) s

-- the value of the number that a list starts with
unfoldable pub value_of : List ℕ → ℕ
value_of s = sum_from 0 (take (suc (high s)) s)

-- "not shortest": fewer groups would hold the value too
unfoldable pub is_long : List ℕ → Bool
is_long s = not (eqb (high s) 0) && ltb (value_of s) (128 ^ high s)

abbrev pub numeral : ℕ → ℕ → Numeral
numeral n k = record { value = n; length = k }

-- the number that a list starts with, and how many bytes it has: "22 if fewer than five bytes are left and all have the high
-- bit, then 21"; 21 is "a sixth group, not shortest, or above 4,294,967,295"
unfoldable pub number_of : List ℕ → Result Numeral Why
number_of s =
    cond (ltb (length s) 5 && eqb (high s) (length s)) (Err StoredShort)
    (cond (ltb 4 (high s) || (is_long s || ltb 4294967295 (value_of s))) (Err StoredNumber)
    (Ok (numeral (value_of s) (suc (high s)))))

-- bytes one by one in a room of bytes
abbrev pub byte_layout : Layout ℕ
byte_layout = record { width = 1; words = λ b. b ∷ [] }

-- a list as a stream that ends
unfoldable pub streamed : List ℕ → Stream Refusal ℕ
streamed [] = end
streamed (b ∷ s) = b ▸ streamed s
