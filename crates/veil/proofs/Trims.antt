-- A letter with a group in it, trimmed: the white space is that of what stands before the group and behind it.
--     trimmed-grouped   the trimmed letter
--     ends-dropped      what stands before the group ends as before, by the reading
-- Assumes nothing.
use mathlib.Core.Path.{◌≡◌, refl, sym, ap, subst, ◌∙◌}
use mathlib.Core.List.{List, [], ◌∷◌, ◌++◌, append_assoc}
use mathlib.Core.Bool.{Bool, true, false, cond, false≢true}
use Prim.Native.Nat.{ℕ, zero, suc, ◌+◌}
use native.Mathlib.Omega.{arith}
use lib.ListN.{length, take, drop}
use lib.Seq.{take-append-add}
use lib.Dec.{eqb}
use borrow.Author.Tests.{eqb-true}
use Rattle.readings.specs.declared.Reading.{Reading}
use Rattle.readings.specs.declared.Reading.TheVariants.{Plain, Paragraphs, Standard}
use Rattle.classes.specs.declared.Class.TheVariants.{White}
use Rattle.classes.specs.Bytes.{in_class, lead, grown, body}
use Rattle.slices.specs.Slices.{Behind, anything, escape, behind}
use Rattle.cutter.specs.Cutting.{trim_start, trimmed}
use Rattle.veil.specs.Veil.{ends_bare, ends_free, ends, grouped}

-- without the white space in front, and at the end
abbrev pub fronted : List ℕ → List ℕ
fronted x = drop (trim_start x) x

abbrev pub backed : List ℕ → List ℕ
backed y = take (body (in_class White) y) y

-- a byte that does not pass ends what is counted at the front
lead-stops : (f : ℕ → Bool) (x : List ℕ) (b : ℕ) (y : List ℕ) → f b ≡ false → lead f (x ++ (b ∷ y)) ≡ lead f x
unfolding lead
lead-stops f [] b y e = rw e
lead-stops f (c ∷ x) b y e = ap (λ (n : ℕ). cond (f c) (suc n) zero) (lead-stops f x b y e)

drop-lead : (f : ℕ → Bool) (x z : List ℕ) → drop (lead f x) (x ++ z) ≡ drop (lead f x) x ++ z
unfolding lead
drop-lead f [] z = refl
drop-lead f (c ∷ x) z = go (f c) (drop-lead f x z)
  where
    go : (t : Bool) → drop (lead f x) (x ++ z) ≡ drop (lead f x) x ++ z
        → drop (cond t (suc (lead f x)) zero) (c ∷ (x ++ z)) ≡ drop (cond t (suc (lead f x)) zero) (c ∷ x) ++ z
    go true e = e
    go false e = refl

-- and what is counted from the end
body-stops : (f : ℕ → Bool) (x : List ℕ) (b : ℕ) (y : List ℕ) → f b ≡ false → body f (x ++ (b ∷ y)) ≡ length x + suc (body f y)
unfolding body
body-stops f [] b y e = rw e (go (body f y))
  where
    go : (n : ℕ) → grown false n ≡ 0 + suc n
    go zero = refl
    go (suc n) = omega arith
body-stops f (c ∷ x) b y e = ap (grown (f c)) (body-stops f x b y e ∙ k) ∙ l
  where
    k : length x + suc (body f y) ≡ suc (length x + body f y)
    k = omega arith

    l : suc (suc (length x + body f y)) ≡ suc (length x) + suc (body f y)
    l = omega arith

pub trimmed-grouped : (x g y : List ℕ) → trimmed (grouped x g y) ≡ grouped (fronted x) g (backed y)
unfolding trimmed
trimmed-grouped x g y =
    let r : List ℕ = 123 ∷ (g ++ (125 ∷ y)) in
    let f : List ℕ = fronted x ++ (123 ∷ g) in
    let d : drop (trim_start (grouped x g y)) (grouped x g y) ≡ f ++ (125 ∷ y) =
    ap (λ (n : ℕ). drop n (grouped x g y)) (lead-stops (in_class White) x 123 (g ++ (125 ∷ y)) refl)
    ∙ drop-lead (in_class White) x r
    ∙ sym (append_assoc (fronted x) (123 ∷ g) (125 ∷ y)) in
    ap (λ (t : List ℕ). take (body (in_class White) t) t) d
    ∙ ap (λ (n : ℕ). take n (f ++ (125 ∷ y))) (body-stops (in_class White) f 125 y refl)
    ∙ take-append-add f (125 ∷ y) (suc (body (in_class White) y))
    ∙ append_assoc (fronted x) (123 ∷ g) (125 ∷ backed y)

-- what stands before the group ends as before, or is all white space
bare-dropped : (b : ℕ) (n : ℕ) (x : List ℕ) → ends_bare b x ≡ true → ends_bare 0 (drop n x) ≡ true
unfolding ends_bare
bare-dropped b zero [] e = refl
bare-dropped b zero (c ∷ x) e = e
bare-dropped b (suc n) [] e = refl
bare-dropped b (suc n) (c ∷ x) e = bare-dropped c n x e

-- white space is no backslash
white-behind : (b : ℕ) → in_class White b ≡ true → behind anything b ≡ anything
white-behind b w = go (eqb b 92) refl
  where
    go : (t : Bool) → eqb b 92 ≡ t → cond t escape anything ≡ anything
    go true e = absurd (false≢true (subst (λ (k : ℕ). in_class White k ≡ true) (eqb-true b 92 e) w))
    go false e = refl

free-dropped : (x : List ℕ) → ends_free anything (fronted x) ≡ ends_free anything x
unfolding ends_free lead
free-dropped [] = refl
free-dropped (b ∷ x) = go (in_class White b) refl (free-dropped x)
  where
    go : (t : Bool) → in_class White b ≡ t → ends_free anything (fronted x) ≡ ends_free anything x
        → ends_free anything (drop (cond t (suc (lead (in_class White) x)) zero) (b ∷ x)) ≡ ends_free (behind anything b) x
    go true e ih = ih ∙ ap (λ (q : Behind). ends_free q x) (sym (white-behind b e))
    go false e ih = refl

pub ends-dropped : (rd : Reading) (x : List ℕ) → ends rd x ≡ true → ends rd (fronted x) ≡ true
ends-dropped Plain x e = bare-dropped 0 (trim_start x) x e
ends-dropped Paragraphs x e = bare-dropped 0 (trim_start x) x e
ends-dropped Standard x e = free-dropped x ∙ e
