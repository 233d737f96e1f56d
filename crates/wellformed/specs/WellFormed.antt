-- Which bytes are UTF-8, as RFC 3629 defines it in section 4, "Syntax of UTF-8 Byte Sequences":
--     UTF8-octets = *( UTF8-char )
--     UTF8-1      = %x00-7F
--     UTF8-2      = %xC2-DF UTF8-tail
--     UTF8-3      = %xE0 %xA0-BF UTF8-tail / %xE1-EC 2( UTF8-tail ) / %xED %x80-9F UTF8-tail / %xEE-EF 2( UTF8-tail )
--     UTF8-4      = %xF0 %x90-BF 2( UTF8-tail ) / %xF1-F3 3( UTF8-tail ) / %xF4 %x80-8F 2( UTF8-tail )
--     UTF8-tail   = %x80-BF
-- Assumes nothing: these are definitions.
use Rattle.std.specs.Prelude.{ℕ, List, [], ◌∷◌, Bool, true, false, cond, ◌&&◌, ◌||◌, leb}

-- a range of bytes, from `low` to `high`
pub record Range : Type 0 where
  pub low : ℕ
  pub high : ℕ

infix 20 ◌to◌
abbrev pub ◌to◌ : ℕ → ℕ → Range
a to b = record { low = a; high = b }

abbrev pub within : Range → ℕ → Bool
within r b = leb r.low b && leb b r.high

-- UTF8-tail
abbrev pub tail : Range
tail = 128 to 191

-- a byte that starts a character: UTF8-1, or the first of UTF8-2, UTF8-3 or UTF8-4
abbrev pub is_first : ℕ → Bool
is_first b = within (0 to 127) b || within (194 to 244) b

-- where the bytes behind such a byte must lie, one range for each
unfoldable pub behind : ℕ → List Range
behind b =
    cond (within (0 to 127) b) []
    (cond (within (194 to 223) b) (tail ∷ [])
    (cond (within (224 to 224) b) ((160 to 191) ∷ tail ∷ [])
    (cond (within (225 to 236) b) (tail ∷ tail ∷ [])
    (cond (within (237 to 237) b) ((128 to 159) ∷ tail ∷ [])
    (cond (within (238 to 239) b) (tail ∷ tail ∷ [])
    (cond (within (240 to 240) b) ((144 to 191) ∷ tail ∷ tail ∷ [])
    (cond (within (241 to 243) b) (tail ∷ tail ∷ tail ∷ [])
    ((128 to 143) ∷ tail ∷ tail ∷ []))))))))

-- whether bytes go on well, where those in front must lie in the ranges that are still owed
unfoldable pub goes_on : List Range → List ℕ → Bool
goes_on [] [] = true
goes_on (r ∷ rs) [] = false
goes_on [] (b ∷ s) = is_first b && goes_on (behind b) s
goes_on (r ∷ rs) (b ∷ s) = within r b && goes_on rs s

-- UTF8-octets
abbrev pub is_utf8 : List ℕ → Bool
is_utf8 s = goes_on [] s
