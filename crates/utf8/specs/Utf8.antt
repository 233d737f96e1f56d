-- UTF-8, as RFC 3629 defines it in section 3: which bits of a value stand in which byte, by the range of the value:
--     0000 0000-0000 007F   0xxxxxxx
--     0000 0080-0000 07FF   110xxxxx 10xxxxxx
--     0000 0800-0000 FFFF   1110xxxx 10xxxxxx 10xxxxxx
--     0001 0000-0010 FFFF   11110xxx 10xxxxxx 10xxxxxx 10xxxxxx
-- The marks 110, 1110, 11110 and 10 are the sums 192, 224, 240 and 128; the groups of six bits are digits to the base 64.
-- Assumes nothing: these are definitions.
use Rattle.std.specs.Prelude.{ℕ, zero, suc, ◌+◌, ◌-◌, ◌*◌, ◌/◌, ◌%◌, ◌^◌, List, [], ◌∷◌, ◌++◌, Bool, cond, not, ◌&&◌, leb, ltb, length, replicate}
use Rattle.utf8.specs.declared.Encoded.{Encoded}

-- a scalar value: 0 to 0x10FFFF, but no surrogate, 0xD800 to 0xDFFF
abbrev pub is_scalar : ℕ → Bool
is_scalar c = leb c 1114111 && not (leb 55296 c && leb c 57343)

-- 10xxxxxx: the lowest digit
abbrev pub tail : ℕ → ℕ
tail c = 128 + c % 64

-- the table, a line for each range
unfoldable pub utf8 : ℕ → List ℕ
utf8 c =
    cond (ltb c 128) (c ∷ [])
    (cond (ltb c 2048) ((192 + c / 64) ∷ (tail c ∷ []))
    (cond (ltb c 65536) ((224 + c / 4096) ∷ (tail (c / 64) ∷ (tail c ∷ [])))
    ((240 + c / 262144) ∷ (tail (c / 4096) ∷ (tail (c / 64) ∷ (tail c ∷ []))))))

-- what is no scalar value is written as U+FFFD
unfoldable pub written : ℕ → List ℕ
written c = cond (is_scalar c) (utf8 c) (utf8 65533)

-- a sequence in four bytes, with zeros behind it
unfoldable pub padded : List ℕ → Encoded
padded s = record { length = length s; bytes = s ++ replicate (4 - length s) 0 }

-- a number's sequence in four bytes
unfoldable pub encoded_of : ℕ → Encoded
encoded_of c = padded (written c)

-- what the first byte adds to its bits, by the count of bytes behind it
abbrev pub mark : ℕ → ℕ
mark zero = 0
mark (suc zero) = 192
mark (suc (suc zero)) = 224
mark (suc (suc (suc n))) = 240

-- the value of the bytes behind the first, a sum of powers of 64
unfoldable pub tail_value : List ℕ → ℕ
tail_value [] = 0
tail_value (b ∷ s) = (b - 128) * 64 ^ length s + tail_value s

-- the value that a sequence writes, a sum of powers of 64
unfoldable pub value_of : List ℕ → ℕ
value_of [] = 0
value_of (a ∷ s) = (a - mark (length s)) * 64 ^ length s + tail_value s
