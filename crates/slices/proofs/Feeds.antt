-- Slices by the reading (02, A1 and A2).
--     feed-end, feed-three           whether a slice takes in a line feed, as the code tests it
--     from-alone, from-feed, from_some, from-plain, from-paragraphs   where the code begins to search for its end, and that this is in it
--     length_from, length-standard   its length, as the code finds it
--     slices_by-first                 the first slice, and the slices of the rest
--     joined-slices_by                the slices one after the other are the source
--     starts_by                       whether a byte starts a slice behind others, by the reading
--     starts_by-before                in each reading one does that is special, no line feed, and not behind a backslash
--     slices_by-starts                two sources one after the other, where the second starts a slice with no line feed
--     slices_by-append                the same, by the byte before
-- Assumes nothing.
use mathlib.Core.Path.{◌≡◌, refl, sym, ap, ◌∙◌}
use mathlib.Core.List.{List, [], ◌∷◌, ◌++◌, append_assoc}
use mathlib.Core.Bool.{Bool, true, false, cond, not, ◌&&◌, and-false}
use Prim.Native.Nat.{ℕ, ◌+◌, ◌-◌, ◌≤◌, ◌<◌}
use native.Mathlib.Nat.{not-suc-le-zero}
use native.Mathlib.Omega.{arith}
use borrow.Author.Tests.{eqb-true, ne_eqb}
use lib.ListN.{length, get_or, take, drop, length-take, length-drop}
use lib.Seq.{take-add, drop-drop, take_all}
use lib.Dec.{eqb}
use Rattle.readings.specs.declared.Reading.{Reading}
use Rattle.readings.specs.declared.Reading.TheVariants.{Plain, Paragraphs, Standard}
use Rattle.classes.specs.Bytes.{is_special}
use Rattle.slices.specs.Slices.{is_return, starts_with_feed, take_feed, with_feeds, slices, slices_by, up_to, slice_length, feed_length, length_by, starts_slice, anything, starts_standard, standard_length}
use Rattle.slices.proofs.Slices.{slices-first, slices-append, slice-within, joined, joined-slices, last_byte}
use Rattle.slices.proofs.Standard.{behind_all, starts-behind, standard-first, standard-append, joined-standard}

-- ---- as the code tests it

two_bytes : (l : List ℕ) → is_return l ≡ true → length l ≡ 2
two_bytes [] e = cc
two_bytes (a ∷ []) e = cc
two_bytes (a ∷ b ∷ []) e = refl
two_bytes (a ∷ b ∷ c ∷ l) e = cc

feed-none : (s : List ℕ) (n : ℕ) → n ≤ length s → (n ≡ 2 → ⊥) → false ≡ is_return (take n s) && starts_with_feed (drop n s)
feed-none s n h f = go (is_return (take n s)) refl
  where
    go : (t : Bool) → is_return (take n s) ≡ t → false ≡ t && starts_with_feed (drop n s)
    go true e = absurd (f (sym (simp length-take (omega arith)) ∙ two_bytes (take n s) e))
    go false e = refl

pub feed-end : (s : List ℕ) → length s < 3 → false ≡ is_return (take 2 s) && starts_with_feed (drop 2 s)
feed-end [] h = refl
feed-end (a ∷ []) h = refl
feed-end (a ∷ b ∷ []) h = sym (and-false (eqb a 92 && eqb b 13))
feed-end (a ∷ b ∷ c ∷ s) h = absurd (omega arith)

pub feed-three : (s : List ℕ) → 3 ≤ length s
    → (eqb (get_or s 0 0) 92 && eqb (get_or s 1 0) 13) && eqb (get_or s 2 0) 10 ≡ is_return (take 2 s) && starts_with_feed (drop 2 s)
feed-three [] h = absurd (omega arith)
feed-three (a ∷ []) h = absurd (omega arith)
feed-three (a ∷ b ∷ []) h = absurd (omega arith)
feed-three (a ∷ b ∷ c ∷ s) h = refl

-- ---- the first slice

take_feed-other : (b : List ℕ) (ws : List (List ℕ)) → is_return b ≡ false → take_feed b ws ≡ b ∷ ws
take_feed-other b [] e = refl
take_feed-other b (w ∷ ws) e = rw e

-- a slice before one that starts with c
take_feed-before : (a : List ℕ) (c : ℕ) (b : List ℕ) (ws : List (List ℕ)) → is_return a && eqb c 10 ≡ false
    → take_feed a (take_feed (c ∷ b) ws) ≡ a ∷ take_feed (c ∷ b) ws
take_feed-before a c b [] e = rw e
take_feed-before a c b (w ∷ ws) e = go (is_return (c ∷ b) && starts_with_feed w)
  where
    go : (t : Bool) → take_feed a (cond t ((c ∷ (b ++ w)) ∷ ws) ((c ∷ b) ∷ w ∷ ws)) ≡ a ∷ cond t ((c ∷ (b ++ w)) ∷ ws) ((c ∷ b) ∷ w ∷ ws)
    go true = rw e
    go false = rw e

-- a slice that starts with a line feed is no return
feed-no-return : (c : ℕ) (b : List ℕ) → c ≡ 10 → is_return (c ∷ b) ≡ false
feed-no-return c [] e = refl
feed-no-return c (d ∷ []) e = rw (ne_eqb c 92 (λ q. omega arith))
feed-no-return c (d ∷ f ∷ b) e = refl

and_first : (x y : Bool) → x && y ≡ true → x ≡ true
and_first true y e = refl
and_first false y e = cc

and_second : (x y : Bool) → x && y ≡ true → y ≡ true
and_second true y e = e
and_second false y e = cc

module _ (a : List ℕ) (c : ℕ) (d : List ℕ) where
  abbrev m : ℕ
  m = slice_length (c ∷ d)

  -- what a does to the slices of c ∷ d, by whether it takes in the first of them
  first_of : (t : Bool) → is_return a && eqb c 10 ≡ t
      → take_feed a (with_feeds (slices (c ∷ d)))
      ≡ cond t ((a ++ take m (c ∷ d)) ∷ with_feeds (slices (drop m (c ∷ d)))) (a ∷ with_feeds (slices (c ∷ d)))
  unfolding with_feeds slice_length
  first_of t e = ap (λ (l : List (List ℕ)). take_feed a (with_feeds l)) (slices-first (c ∷ d) (omega arith)) ∙ go t e
      ∙ ap (λ (l : List (List ℕ)). cond t ((a ++ take m (c ∷ d)) ∷ with_feeds (slices (drop m (c ∷ d)))) (a ∷ with_feeds l)) (sym (slices-first (c ∷ d) (omega arith)))
    where
      b : List ℕ
      b = drop 1 (take m (c ∷ d))

      ws : List (List ℕ)
      ws = with_feeds (slices (drop m (c ∷ d)))

      go : (t : Bool) → is_return a && eqb c 10 ≡ t
          → take_feed a (take_feed (take m (c ∷ d)) ws) ≡ cond t ((a ++ take m (c ∷ d)) ∷ ws) (a ∷ take_feed (take m (c ∷ d)) ws)
      go true e = rw (take_feed-other (c ∷ b) ws (feed-no-return c b (eqb-true c 10 (and_second (is_return a) (eqb c 10) e))), e)
      go false e = take_feed-before a c b ws e

-- n bytes are the first slice, d is behind them
feeds-first : (s : List ℕ) → 0 < length s → (n : ℕ) → n ≡ slice_length s → (d : List ℕ) → drop n s ≡ d
    → with_feeds (slices s) ≡ take (feed_length s n) s ∷ with_feeds (slices (drop (feed_length s n) s))
unfolding with_feeds slices
feeds-first s h n q [] e =
    let f : slices s ≡ take n s ∷ slices (drop n s) = rw q (slices-first s h) in
    rw (f, e, and-false (is_return (take n s)), e)
feeds-first s h n q (c ∷ d) e =
    let f : slices s ≡ take n s ∷ slices (drop n s) = rw q (slices-first s h) in
    ap with_feeds f ∙ rw e (go (is_return (take n s) && eqb c 10) refl)
  where
    go : (t : Bool) → is_return (take n s) && eqb c 10 ≡ t
        → take_feed (take n s) (with_feeds (slices (c ∷ d)))
        ≡ take (cond t (n + slice_length (c ∷ d)) n) s ∷ with_feeds (slices (drop (cond t (n + slice_length (c ∷ d)) n) s))
    go true x =
        first_of (take n s) c d true x
        ∙ rw (take-add n (slice_length (c ∷ d)) s, ← drop-drop (slice_length (c ∷ d)) n s, e)
    go false x = first_of (take n s) c d false x ∙ rw e

pub slices_by-first : (rd : Reading) (s : List ℕ) → 0 < length s → slices_by rd s ≡ take (length_by rd s) s ∷ slices_by rd (drop (length_by rd s) s)
unfolding length_by
slices_by-first Plain s h = slices-first s h
slices_by-first Paragraphs s h = feeds-first s h (slice_length s) refl (drop (slice_length s) s) refl
slices_by-first Standard s h = standard-first s h

-- ---- the length of the first slice, as the code finds it

-- a backslash and a carriage return before a line feed are a slice
return_alone : (s : List ℕ) → is_return (take 2 s) && starts_with_feed (drop 2 s) ≡ true → slice_length s ≡ 2
unfolding slice_length up_to
return_alone [] e = cc
return_alone (a ∷ []) e = cc
return_alone (a ∷ b ∷ []) e = let z : false ≡ true = sym (and-false (eqb a 92 && eqb b 13)) ∙ e in cc
return_alone (a ∷ b ∷ c ∷ s) e =
    let x : eqb a 92 && eqb b 13 ≡ true = and_first (eqb a 92 && eqb b 13) (eqb c 10) e in
    rw (eqb-true a 92 (and_first (eqb a 92) (eqb b 13) x), eqb-true b 13 (and_second (eqb a 92) (eqb b 13) x), eqb-true c 10 (and_second (eqb a 92 && eqb b 13) (eqb c 10) e))

pub from_some : (s : List ℕ) {t : Bool} → t ≡ is_return (take 2 s) && starts_with_feed (drop 2 s) → t ≡ true → 2 < length s
from_some [] f x = let z : ◌≡◌ {A = ℕ} 0 1 = cc in omega arith
from_some (a ∷ []) f x = let z : ◌≡◌ {A = ℕ} 0 1 = cc in omega arith
from_some (a ∷ b ∷ []) f x =
    let e : false ≡ true = sym (and-false (eqb a 92 && eqb b 13)) ∙ sym f ∙ x in
    let z : ◌≡◌ {A = ℕ} 0 1 = cc in
    omega arith
from_some (a ∷ b ∷ c ∷ s) f x = omega arith

module _ (s : List ℕ) {t : Bool} (f : t ≡ is_return (take 2 s) && starts_with_feed (drop 2 s)) where
  pub from-feed : t ≡ true → 2 + slice_length (drop 2 s) ≡ length_by Paragraphs s
  unfolding length_by
  from-feed x = rw (return_alone s (sym f ∙ x), ← f, x)

  pub from-alone : t ≡ false → 0 + slice_length (drop 0 s) ≡ length_by Paragraphs s
  unfolding length_by
  from-alone x =
      let g : false ≡ is_return (take (slice_length s) s) && starts_with_feed (drop (slice_length s) s) = pick (eqb (slice_length s) 2) refl in
      rw (← g) (omega arith)
    where
      pick : (u : Bool) → eqb (slice_length s) 2 ≡ u → false ≡ is_return (take (slice_length s) s) && starts_with_feed (drop (slice_length s) s)
      pick true u = rw (eqb-true (slice_length s) 2 u) (sym x ∙ f)
      pick false u = feed-none s (slice_length s) (slice-within s) (λ (q : slice_length s ≡ 2). let t : eqb (slice_length s) 2 ≡ true = rw q in let z : ◌≡◌ {A = ℕ} 0 1 = cc in omega arith)

-- the search begins at n
pub record From (rd : Reading) (s : List ℕ) (n : ℕ) : Type 0 where
  pub ends : n + slice_length (drop n s) ≡ length_by rd s
  pub within : n ≤ length s
  pub some : 0 < length s → n < length s

module _ {rd : Reading} {s : List ℕ} {n : ℕ} where
  pub from-plain : rd ≡ Plain → n ≡ 0 → From rd s n
  unfolding length_by
  from-plain e q = rw (e, q) (record { ends = omega arith; within = omega arith; some = λ h. h })

  pub from-paragraphs : (k : ℕ) → rd ≡ Paragraphs → n ≡ k → k + slice_length (drop k s) ≡ length_by Paragraphs s → k ≤ length s → (0 < length s → k < length s) → From rd s n
  from-paragraphs k e q a b c = rw (e, q) (record { ends = a; within = b; some = c })

  -- the slice behind that place, as the code lends it
  pub length_from : From rd s n → (k : ℕ) → k ≡ slice_length (take (length s - n) (drop n s)) → n + k ≡ length_by rd s
  length_from f k z =
      let d : take (length s - n) (drop n s) ≡ drop n s = take_all (length s - n) (drop n s) (simp length-drop (omega arith)) in
      rw (z, d) f.ends

pub length-standard : {rd : Reading} (s : List ℕ) {k : ℕ} → rd ≡ Standard → k ≡ standard_length s → k ≡ length_by rd s
unfolding length_by
length-standard s e q = rw (e, q)

-- ---- all slices

joined-take : (s : List ℕ) (ts : List (List ℕ)) → joined (take_feed s ts) ≡ s ++ joined ts
unfolding joined
joined-take s [] = refl
joined-take s (t ∷ ts) = go (is_return s && starts_with_feed t)
  where
    go : (b : Bool) → joined (cond b ((s ++ t) ∷ ts) (s ∷ t ∷ ts)) ≡ s ++ (t ++ joined ts)
    go true = append_assoc s t (joined ts)
    go false = refl

joined-feeds : (ss : List (List ℕ)) → joined (with_feeds ss) ≡ joined ss
unfolding with_feeds joined
joined-feeds [] = refl
joined-feeds (s ∷ ss) = joined-take s (with_feeds ss) ∙ ap (λ (l : List ℕ). s ++ l) (joined-feeds ss)

pub joined-slices_by : (rd : Reading) (s : List ℕ) → joined (slices_by rd s) ≡ s
joined-slices_by Plain s = joined-slices s
joined-slices_by Paragraphs s = joined-feeds (slices s) ∙ joined-slices s
joined-slices_by Standard s = joined-standard s

-- two lists of slices one after the other, of which the second starts with a byte that is no line feed
take-append : (s : List ℕ) (ts us : List (List ℕ)) → 0 < length ts → take_feed s (ts ++ us) ≡ take_feed s ts ++ us
take-append s [] us h = absurd (not-suc-le-zero h)
take-append s (t ∷ ts) us h = go (is_return s && starts_with_feed t)
  where
    go : (b : Bool) → cond b ((s ++ t) ∷ (ts ++ us)) (s ∷ t ∷ (ts ++ us)) ≡ cond b ((s ++ t) ∷ ts) (s ∷ t ∷ ts) ++ us
    go true = refl
    go false = refl

feeds-some : (s : List ℕ) (ss : List (List ℕ)) → 0 < length (with_feeds (s ∷ ss))
unfolding with_feeds
feeds-some s ss = go (with_feeds ss)
  where
    go : (ts : List (List ℕ)) → 0 < length (take_feed s ts)
    go [] = omega arith
    go (t ∷ ts) = pick (is_return s && starts_with_feed t)
      where
        pick : (b : Bool) → 0 < length (cond b ((s ++ t) ∷ ts) (s ∷ t ∷ ts))
        pick true = omega arith
        pick false = omega arith

module _ (c : ℕ) (t : List ℕ) (ts : List (List ℕ)) (n : c ≡ 10 → ⊥) where
  no-feed : (a : List ℕ) → is_return a && eqb c 10 ≡ false
  no-feed a = rw (ne_eqb c 10 n) (and-false (is_return a))

  feeds-append : (xs : List (List ℕ)) → with_feeds (xs ++ ((c ∷ t) ∷ ts)) ≡ with_feeds xs ++ with_feeds ((c ∷ t) ∷ ts)
  unfolding with_feeds
  feeds-append [] = refl
  feeds-append (x ∷ []) = take_feed-before x c t (with_feeds ts) (no-feed x)
  feeds-append (x ∷ y ∷ xs) =
      ap (take_feed x) (feeds-append (y ∷ xs))
      ∙ take-append x (with_feeds (y ∷ xs)) (with_feeds ((c ∷ t) ∷ ts)) (feeds-some y xs)

-- whether a slice starts at c, behind x; by paragraphs, unless c is a line feed that is taken in
abbrev pub starts_by : Reading → List ℕ → ℕ → Bool
starts_by Plain x c = starts_slice (last_byte 32 x) c
starts_by Paragraphs x c = starts_slice (last_byte 32 x) c
starts_by Standard x c = starts_standard (behind_all anything x) c

pub starts_by-before : (rd : Reading) (x : List ℕ) (c : ℕ) → (c ≡ 10 → ⊥) → starts_slice (last_byte 32 x) c ≡ true → starts_by rd x c ≡ true
starts_by-before Plain x c n h = h
starts_by-before Paragraphs x c n h = h
starts_by-before Standard x c n h =
    let u : not (eqb (last_byte 32 x) 92) ≡ true = and_second (is_special c) (not (eqb (last_byte 32 x) 92)) h in
    starts-behind c (and_first (is_special c) (not (eqb (last_byte 32 x) 92)) h) n x
    (λ (q : last_byte 32 x ≡ 92). let t : eqb (last_byte 32 x) 92 ≡ true = rw q in let v : false ≡ true = rw t at u in let z : ◌≡◌ {A = ℕ} 0 1 = cc in omega arith)

-- "a new slice" starts at c, behind x; c is no line feed that could be taken in
pub slices_by-starts : (rd : Reading) (c : ℕ) (y x : List ℕ) → (c ≡ 10 → ⊥) → starts_by rd x c ≡ true
    → slices_by rd (x ++ (c ∷ y)) ≡ slices_by rd x ++ slices_by rd (c ∷ y)
unfolding slice_length
slices_by-starts Plain c y x n h = slices-append c y x h
slices_by-starts Paragraphs c y x n h =
    let m : ℕ = slice_length (c ∷ y) in
    let f : slices (c ∷ y) ≡ take m (c ∷ y) ∷ slices (drop m (c ∷ y)) = slices-first (c ∷ y) (omega arith) in
    ap with_feeds (slices-append c y x h)
    ∙ ap (λ (l : List (List ℕ)). with_feeds (slices x ++ l)) f
    ∙ feeds-append c (drop 1 (take m (c ∷ y))) (slices (drop m (c ∷ y))) n (slices x)
    ∙ ap (λ (l : List (List ℕ)). with_feeds (slices x) ++ with_feeds l) (sym f)
slices_by-starts Standard c y x n h = standard-append c y x h

-- the same by the byte before c alone, which is enough in each reading
pub slices_by-append : (rd : Reading) (c : ℕ) (y x : List ℕ) → (c ≡ 10 → ⊥) → starts_slice (last_byte 32 x) c ≡ true
    → slices_by rd (x ++ (c ∷ y)) ≡ slices_by rd x ++ slices_by rd (c ∷ y)
slices_by-append rd c y x n h = slices_by-starts rd c y x n (starts_by-before rd x c n h)
