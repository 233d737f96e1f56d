-- The walk, token by token and group by group, in the terms of a loop over the tokens that are left.
--     walk-passed     tokens that are passed over
--     walk_end        no token is left
--     walk-one        any token, by its step
--     group-word      a table's word is in its group
-- Assumes nothing.
use mathlib.Core.Path.{◌≡◌, refl, ap}
use mathlib.Core.List.{List, [], ◌∷◌}
use Prim.Native.Nat.{ℕ, zero, suc}
use mathlib.Core.Bool.{Bool, true, false, cond, false≢true}
use lib.ListN.{take, drop}
use lib.Dec.{eqb}
use Rattle.tokens.specs.Tokens.{Shown, Token, slice_of, shown_in, shown_by}
use Rattle.walk.specs.Walk.{is_break, level, extent, table_word, Step, group, step_of, passed_by, walk_from, walk}

-- tokens that are passed over
pub walk-passed : (w : ℕ) (ts : List Token) → walk_from w ts ≡ walk (drop w ts)
unfolding walk_from
walk-passed zero ts = refl
walk-passed (suc w) [] = refl
walk-passed (suc w) (t ∷ ts) = walk-passed w ts

pub walk_end : walk [] ≡ []
unfolding walk_from
walk_end = refl

-- any token
pub walk-one : (t : Token) (ts : List Token) → walk (t ∷ ts) ≡ step_of t ts ∷ walk (drop (passed_by (shown_in t) (shown_by ts)) ts)
unfolding walk_from
walk-one t ts = ap (λ (ss : List Step). step_of t ts ∷ ss) (walk-passed (passed_by (shown_in t) (shown_by ts)) ts)

-- a group has its first token that is no line break
break-level : (x : Shown) (d : ℕ) → is_break x ≡ true → level x d ≡ d
break-level Shown.line_break d e = refl
break-level Shown.ignorable d e = absurd (false≢true e)
break-level (Shown.word w num) d e = absurd (false≢true e)
break-level (Shown.text p bs) d e = absurd (false≢true e)
break-level Shown.opening d e = absurd (false≢true e)
break-level Shown.closing d e = absurd (false≢true e)
break-level (Shown.unknown p bs num) d e = absurd (false≢true e)
break-level (Shown.symbol b num) d e = absurd (false≢true e)

pub group-word : (ts : List Token) → table_word (group ts) ≡ table_word ts
unfolding extent shown_by table_word
group-word [] = refl
group-word (t ∷ ts) = go (is_break (shown_in t)) refl (group-word ts)
  where
    -- whatever a group is, its first token is in it
    first : (k : Bool) (m : ℕ) → is_break (shown_in t) ≡ false → table_word (take (cond k 1 (suc m)) (t ∷ ts)) ≡ slice_of t
    first true m e = rw e
    first false m e = rw e

    go : (b : Bool) → is_break (shown_in t) ≡ b → table_word (take (extent 1 (shown_by ts)) ts) ≡ table_word ts
        → table_word (take (cond (eqb (level (shown_in t) 1) 0) 1 (suc (extent (level (shown_in t) 1) (shown_by ts)))) (t ∷ ts)) ≡ cond b (table_word ts) (slice_of t)
    go true e ih = rw (break-level (shown_in t) 1 e, e) ih
    go false e ih = first (eqb (level (shown_in t) 1) 0) (extent (level (shown_in t) 1) (shown_by ts)) e
