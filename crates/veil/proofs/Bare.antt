-- What a token shows, without its source place; and what is neither an opening nor a closing bracket.
--     bare-append   of one list behind another
--     seen, steps   tokens without places that show something, and the walk over them
--     bare-walk     the walk looks at no place: it makes the same steps of bare tokens, but for the places
-- Assumes nothing.
use mathlib.Core.Path.{◌≡◌, refl, sym, ap, ◌∙◌}
use mathlib.Core.List.{List, [], ◌∷◌, ◌++◌}
use mathlib.Core.Bool.{Bool, true, false}
use Prim.Native.Nat.{ℕ, zero, suc}
use lib.ListN.{take, drop}
use Rattle.tokens.specs.Tokens.{Shown, Token, token, shown_in, shown_by}
use Rattle.walk.specs.declared.Aim.{Aim}
use Rattle.walk.specs.declared.Aim.TheVariants.{Nothing, Hide, Fonts, Colours}
use Rattle.walk.specs.Walk.{aim_at, aim_from, aim, level, extent, Step, kept, hidden, font_table, colour_table, group, entered}
use Rattle.walk.specs.Walk.{entered_length, step_by, step_of, passed_by, walk_from, walk}
use Rattle.veil.specs.Veil.{Side, up, down, flat}

-- without the place
abbrev pub bare : Shown → Shown
bare (Shown.text p bs) = Shown.text 0 bs
bare Shown.opening = Shown.opening
bare Shown.closing = Shown.closing
bare Shown.line_break = Shown.line_break
bare Shown.ignorable = Shown.ignorable
bare (Shown.word w num) = Shown.word w num
bare (Shown.unknown p bs num) = Shown.unknown 0 bs num
bare (Shown.symbol b num) = Shown.symbol b num

unfoldable pub bare_all : List Shown → List Shown
bare_all [] = []
bare_all (t ∷ ts) = bare t ∷ bare_all ts

pub bare-append : (a b : List Shown) → bare_all (a ++ b) ≡ bare_all a ++ bare_all b
unfolding bare_all
bare-append [] b = refl
bare-append (t ∷ a) b = ap (λ (l : List Shown). bare t ∷ l) (bare-append a b)

-- ---- tokens without places

abbrev pub lone : Shown → Token
lone x = token 0 0 x

unfoldable pub seen : List Shown → List Token
seen [] = []
seen (x ∷ xs) = lone x ∷ seen xs

abbrev pub bare_token : Token → Token
bare_token t = lone (bare (shown_in t))

abbrev pub bare_tokens : List Token → List Token
bare_tokens ts = seen (bare_all (shown_by ts))

-- the walk over tokens without places
abbrev pub steps : List Shown → List Step
steps xs = walk (seen xs)

pub shown-seen : (xs : List Shown) → shown_by (seen xs) ≡ xs
unfolding shown_by seen
shown-seen [] = refl
shown-seen (x ∷ xs) = ap (λ (l : List Shown). x ∷ l) (shown-seen xs)

pub take-seen : (n : ℕ) (xs : List Shown) → take n (seen xs) ≡ seen (take n xs)
unfolding seen
take-seen zero xs = refl
take-seen (suc n) [] = refl
take-seen (suc n) (x ∷ xs) = ap (λ (l : List Token). lone x ∷ l) (take-seen n xs)

pub drop-seen : (n : ℕ) (xs : List Shown) → drop n (seen xs) ≡ seen (drop n xs)
unfolding seen
drop-seen zero xs = refl
drop-seen (suc n) [] = refl
drop-seen (suc n) (x ∷ xs) = drop-seen n xs

take-shown : (n : ℕ) (ts : List Token) → take n (shown_by ts) ≡ shown_by (take n ts)
unfolding shown_by
take-shown zero ts = refl
take-shown (suc n) [] = refl
take-shown (suc n) (t ∷ ts) = ap (λ (l : List Shown). shown_in t ∷ l) (take-shown n ts)

-- ---- no brackets

abbrev pub side : Shown → Side
side Shown.opening = up
side Shown.closing = down
side Shown.line_break = flat
side Shown.ignorable = flat
side (Shown.text p bs) = flat
side (Shown.word w num) = flat
side (Shown.unknown p bs num) = flat
side (Shown.symbol b num) = flat

-- no bracket among tokens
pub data Flat : List Shown → Type 0 where
  none : Flat []
  some : {t : Shown} {ts : List Shown} → side t ≡ flat → Flat ts → Flat (t ∷ ts)

-- ---- the walk

abbrev pub bare_step : Step → Step
bare_step (kept t) = kept (bare_token t)
bare_step hidden = hidden
bare_step (font_table late ts) = font_table late (bare_tokens ts)
bare_step (colour_table late ts) = colour_table late (bare_tokens ts)

unfoldable pub bare_steps : List Step → List Step
bare_steps [] = []
bare_steps (s ∷ ss) = bare_step s ∷ bare_steps ss

aim-bare-at : (late : Bool) (t : Shown) (a : Aim) → aim_at late (bare t) a ≡ aim_at late t a
aim-bare-at late Shown.opening a = refl
aim-bare-at late Shown.closing a = refl
aim-bare-at late Shown.line_break a = refl
aim-bare-at late Shown.ignorable a = refl
aim-bare-at late (Shown.text p bs) a = refl
aim-bare-at late (Shown.word w num) a = refl
aim-bare-at late (Shown.unknown p bs num) a = refl
aim-bare-at late (Shown.symbol b num) a = refl

aim-bare : (late : Bool) (ts : List Shown) → aim_from late (bare_all ts) ≡ aim_from late ts
unfolding aim_from bare_all
aim-bare late [] = refl
aim-bare late (t ∷ ts) = aim-bare-at late t (aim_from true (bare_all ts)) ∙ ap (aim_at late t) (aim-bare true ts)

level-bare : (t : Shown) (d : ℕ) → level (bare t) d ≡ level t d
level-bare Shown.opening d = refl
level-bare Shown.closing d = refl
level-bare Shown.line_break d = refl
level-bare Shown.ignorable d = refl
level-bare (Shown.text p bs) d = refl
level-bare (Shown.word w num) d = refl
level-bare (Shown.unknown p bs num) d = refl
level-bare (Shown.symbol b num) d = refl

extent-bare : (d : ℕ) (ts : List Shown) → extent d (bare_all ts) ≡ extent d ts
unfolding extent bare_all
extent-bare d [] = refl
extent-bare d (t ∷ ts) = rw (level-bare t d, extent-bare (level t d) ts)

take_bare : (n : ℕ) (ts : List Shown) → take n (bare_all ts) ≡ bare_all (take n ts)
unfolding bare_all
take_bare zero ts = refl
take_bare (suc n) [] = refl
take_bare (suc n) (t ∷ ts) = ap (λ (l : List Shown). bare t ∷ l) (take_bare n ts)

extent-tokens : (ts : List Token) → extent 1 (shown_by (bare_tokens ts)) ≡ extent 1 (shown_by ts)
extent-tokens ts = ap (extent 1) (shown-seen (bare_all (shown_by ts))) ∙ extent-bare 1 (shown_by ts)

aim-tokens : (ts : List Token) → aim (shown_by (bare_tokens ts)) ≡ aim (shown_by ts)
aim-tokens ts = ap aim (shown-seen (bare_all (shown_by ts))) ∙ aim-bare false (shown_by ts)

group-bare : (ts : List Token) → group (bare_tokens ts) ≡ bare_tokens (group ts)
group-bare ts =
    let n : ℕ = extent 1 (shown_by ts) in
    ap (λ (k : ℕ). take k (bare_tokens ts)) (extent-tokens ts)
    ∙ take-seen n (bare_all (shown_by ts))
    ∙ ap seen (take_bare n (shown_by ts) ∙ ap bare_all (take-shown n ts))

entered-bare : (a : Aim) (t : Token) (ts : List Token) → entered a (bare_token t) (bare_tokens ts) ≡ bare_step (entered a t ts)
entered-bare Nothing t ts = refl
entered-bare Hide t ts = refl
entered-bare (Fonts late) t ts = ap (font_table late) (group-bare ts)
entered-bare (Colours late) t ts = ap (colour_table late) (group-bare ts)

step-bare : (x : Shown) (t : Token) (ts : List Token) → step_by (bare x) (bare_token t) (bare_tokens ts) ≡ bare_step (step_by x t ts)
step-bare Shown.opening t ts = ap (λ (a : Aim). entered a (bare_token t) (bare_tokens ts)) (aim-tokens ts) ∙ entered-bare (aim (shown_by ts)) t ts
step-bare Shown.closing t ts = refl
step-bare Shown.line_break t ts = refl
step-bare Shown.ignorable t ts = refl
step-bare (Shown.text p bs) t ts = refl
step-bare (Shown.word w num) t ts = refl
step-bare (Shown.unknown p bs num) t ts = refl
step-bare (Shown.symbol b num) t ts = refl

entered-length-bare : (a : Aim) (ts : List Token) → entered_length a (shown_by (bare_tokens ts)) ≡ entered_length a (shown_by ts)
entered-length-bare Nothing ts = refl
entered-length-bare Hide ts = extent-tokens ts
entered-length-bare (Fonts late) ts = extent-tokens ts
entered-length-bare (Colours late) ts = extent-tokens ts

passed-bare : (x : Shown) (ts : List Token) → passed_by (bare x) (shown_by (bare_tokens ts)) ≡ passed_by x (shown_by ts)
passed-bare Shown.opening ts =
    ap (λ (a : Aim). entered_length a (shown_by (bare_tokens ts))) (aim-tokens ts)
    ∙ entered-length-bare (aim (shown_by ts)) ts
passed-bare Shown.closing ts = refl
passed-bare Shown.line_break ts = refl
passed-bare Shown.ignorable ts = refl
passed-bare (Shown.text p bs) ts = refl
passed-bare (Shown.word w num) ts = refl
passed-bare (Shown.unknown p bs num) ts = refl
passed-bare (Shown.symbol b num) ts = refl

walk-from-bare : (w : ℕ) (ts : List Token) → bare_steps (walk_from w ts) ≡ walk_from w (bare_tokens ts)
unfolding walk_from bare_all bare_steps shown_by seen
walk-from-bare w [] = refl
walk-from-bare zero (t ∷ ts) =
    ap (λ (ss : List Step). bare_step (step_of t ts) ∷ ss) (walk-from-bare (passed_by (shown_in t) (shown_by ts)) ts)
    ∙ ap (λ (s : Step). s ∷ walk_from (passed_by (shown_in t) (shown_by ts)) (bare_tokens ts)) (sym (step-bare (shown_in t) t ts))
    ∙ ap (λ (n : ℕ). step_by (bare (shown_in t)) (bare_token t) (bare_tokens ts) ∷ walk_from n (bare_tokens ts)) (sym (passed-bare (shown_in t) ts))
walk-from-bare (suc w) (t ∷ ts) = walk-from-bare w ts

pub bare-walk : (ts : List Token) → bare_steps (walk ts) ≡ steps (bare_all (shown_by ts))
bare-walk ts = walk-from-bare 0 ts

pub bare-steps : (xs : List Shown) → bare_steps (steps xs) ≡ steps (bare_all xs)
bare-steps xs = bare-walk (seen xs) ∙ ap (λ (l : List Shown). steps (bare_all l)) (shown-seen xs)
