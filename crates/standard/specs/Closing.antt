-- 02, A1: "6 where the last token is no closing bracket". Assumes nothing: these are definitions.
use Rattle.std.specs.Prelude.{ℕ, List, [], ◌∷◌, Bool, true, false, eqb}
use Rattle.rooms.specs.Streams.{Stream, end, stop, ◌▸◌}
use Rattle.tokens.specs.Tokens.{Shown}

abbrev pub is_closing : Shown → Bool
is_closing (Shown.text p bs) = false
is_closing Shown.opening = false
is_closing Shown.closing = true
is_closing Shown.line_break = false
is_closing Shown.ignorable = false
is_closing (Shown.word w num) = false
is_closing (Shown.unknown p bs num) = false
is_closing (Shown.symbol b num) = false

-- whether the last item is a closing bracket, where t says it of what came before
unfoldable pub closed : {E : Type 0} → Bool → Stream E Shown → Bool
closed t end = t
closed t (stop r) = t
closed t (x ▸ s) = closed (is_closing x) s

-- a slice that is `}` alone
abbrev pub is_bracket : List ℕ → Bool
is_bracket [] = false
is_bracket (b ∷ []) = eqb b 125
is_bracket (b ∷ c ∷ s) = false
