-- The walk over pieces and the walk over the masked pieces make the same steps.
--     Sorted, sorted     a letter's pieces are opening brackets, closing brackets, and pieces that show no bracket
--     aim-append         an aim depends on what follows by its aim alone; aim-opens, aim-closes: at a bracket it is nothing
--     walk-mask          the steps
-- Assumes nothing.
use mathlib.Core.Path.{◌≡◌, refl, sym, ap, subst, ◌∙◌}
use mathlib.Core.List.{List, [], ◌∷◌, ◌++◌}
use mathlib.Core.Bool.{Bool, true, false, cond, ◌||◌, false≢true}
use Prim.Native.Nat.{ℕ, zero, suc, ◌-◌}
use native.Mathlib.Omega.{arith}
use lib.ListN.{take, drop}
use lib.Dec.{eqb}
use borrow.Author.Tests.{eqb-true, ne_eqb}
use Rattle.readings.specs.declared.Reading.{Reading}
use Rattle.rooms.specs.Streams.{items}
use Rattle.tokens.specs.Tokens.{Shown, Token, shown_by}
use Rattle.tokenize.specs.Tokenize.{is_mark}
use Rattle.cutter.specs.Cutting.{tokens_by}
use Rattle.walk.specs.declared.Aim.{Aim}
use Rattle.walk.specs.declared.Aim.TheVariants.{Nothing, Hide, Fonts, Colours}
use Rattle.walk.specs.Walk.{aim_at, aim_from, aim, level, extent, Step, kept, hidden, font_table, colour_table, group, entered}
use Rattle.walk.specs.Walk.{entered_length, walk_from, walk}
use Rattle.walk.proofs.Walk.{walk-one}
use Rattle.veil.specs.Veil.{up, down, flat, Mode, going, passing, reading, enter, shown, side_of, mute, cover, mask}
use Rattle.veil.proofs.Bare.{lone, seen, steps, shown-seen, take-seen, drop-seen, side, Flat, none as flat-none, some as flat-some}
use Rattle.veil.proofs.Cuttings.{Cutting}
use Rattle.veil.proofs.Pieces.{Cut, none as cut-none, mark as cut-mark, run as cut-run}
use Rattle.veil.proofs.Shows.{calm-flat, calm-tokens, shown-open, shown-close, shown-mute, feed-flat}

-- ---- the pieces of a letter, by what they are to the walk

pub data Sorted (rd : Reading) : List (List ℕ) → Type 0 where
  none : Sorted rd []
  opens : {ps : List (List ℕ)} → Sorted rd ps → Sorted rd ((123 ∷ []) ∷ ps)
  closes : {ps : List (List ℕ)} → Sorted rd ps → Sorted rd ((125 ∷ []) ∷ ps)
  stays : {p : List ℕ} {ps : List (List ℕ)} → side_of p ≡ flat → Flat (items (tokens_by rd 0 p)) → Sorted rd ps → Sorted rd (p ∷ ps)

data Mark (b : ℕ) : Type 0 where
  is_open : b ≡ 123 → Mark b
  is-close : b ≡ 125 → Mark b
  is-feed : b ≡ 10 → Mark b

mark_of : (b : ℕ) → is_mark b ≡ true → Mark b
mark_of b = go (eqb b 123) refl (eqb b 125) refl
  where
    go : (x : Bool) → eqb b 123 ≡ x → (y : Bool) → eqb b 125 ≡ y → (x || y) || eqb b 10 ≡ true → Mark b
    go true e y f m = is_open (eqb-true b 123 e)
    go false e true f m = is-close (eqb-true b 125 f)
    go false e false f m = is-feed (eqb-true b 10 m)

pub run-side : (b : ℕ) (t : List ℕ) → is_mark b ≡ false → side_of (b ∷ t) ≡ flat
run-side b t = go (eqb b 123) (eqb b 125)
  where
    go : (x y : Bool) → (x || y) || eqb b 10 ≡ false → cond x up (cond y down flat) ≡ flat
    go true y m = absurd (false≢true (sym m))
    go false true m = absurd (false≢true (sym m))
    go false false m = refl

module _ (rd : Reading) {Q : Type 0} (c : Cutting Q) where
  pub sorted : {ps : List (List ℕ)} → Cut c ps → Sorted rd ps
  sorted cut-none = none
  sorted (cut-run {b} {t} {ps} m f h) = stays (run-side b t m) (calm-flat (calm-tokens rd 0 0 b t m)) (sorted h)
  sorted (cut-mark {b} {ps} m h) = go (mark_of b m) (sorted h)
    where
      go : Mark b → Sorted rd ps → Sorted rd ((b ∷ []) ∷ ps)
      go (is_open e) k = rw e (opens k)
      go (is-close e) k = rw e (closes k)
      go (is-feed e) k = rw e (stays refl (feed-flat rd) k)

-- ---- what follows an opening bracket

aim-from-append : (late : Bool) (c x y : List Shown) → ((l : Bool) → aim_from l x ≡ aim_from l y)
    → aim_from late (c ++ x) ≡ aim_from late (c ++ y)
unfolding aim_from
aim-from-append late [] x y e = e late
aim-from-append late (t ∷ c) x y e = ap (aim_at late t) (aim-from-append true c x y e)

-- where two rests begin alike, so do they behind the same tokens
pub aim-append : (c x y : List Shown) → ((late : Bool) → aim_from late x ≡ aim_from late y) → aim (c ++ x) ≡ aim (c ++ y)
aim-append c x y e = aim-from-append false c x y e

-- where the mask leaves what it meets
pub data Seen : Mode → Type 0 where
  goes : Seen going
  reads : {d : ℕ} → Seen (reading d)

module _ (rd : Reading) where
  -- a bracket ends the look behind another
  pub aim-opens : (late : Bool) (ps : List (List ℕ)) → aim_from late (shown rd ((123 ∷ []) ∷ ps)) ≡ Nothing
  unfolding aim_from
  aim-opens late ps = ap (aim_from late) (shown-open ps rd)

  pub aim-closes : (late : Bool) (ps : List (List ℕ)) → aim_from late (shown rd ((125 ∷ []) ∷ ps)) ≡ Nothing
  unfolding aim_from
  aim-closes late ps = ap (aim_from late) (shown-close ps rd)

  -- the first token behind a bracket is left as it is
  aim-mask : {ps : List (List ℕ)} {m : Mode} → Sorted rd ps → Seen m → (late : Bool)
      → aim_from late (shown rd (mask rd m ps)) ≡ aim_from late (shown rd ps)
  unfolding mask shown
  aim-mask none v late = refl
  aim-mask (opens {ps} h) goes late = go (aim (shown rd ps)) (mask rd (enter (aim (shown rd ps))) ps) ∙ sym (aim-opens late ps)
    where
      go : (a : Aim) (r : List (List ℕ)) → aim_from late (shown rd (cover going up a (123 ∷ []) ++ r)) ≡ Nothing
      go Nothing r = aim-opens late r
      go Hide r = aim-opens late (mute ∷ r)
      go (Fonts l) r = aim-opens late r
      go (Colours l) r = aim-opens late r
  aim-mask (opens {ps} h) (reads {d}) late = aim-opens late (mask rd (reading (suc d)) ps) ∙ sym (aim-opens late ps)
  aim-mask (closes {ps} h) goes late = aim-closes late (mask rd going ps) ∙ sym (aim-closes late ps)
  aim-mask (closes {ps} h) (reads {d = zero}) late = aim-closes late (mask rd going ps) ∙ sym (aim-closes late ps)
  aim-mask (closes {ps} h) (reads {d = suc d}) late = aim-closes late (mask rd (reading d) ps) ∙ sym (aim-closes late ps)
  aim-mask (stays {p} {ps} e l h) goes late =
      rw e (aim-from-append late (items (tokens_by rd 0 p)) (shown rd (mask rd going ps)) (shown rd ps) (aim-mask h goes))
  aim-mask (stays {p} {ps} e l h) (reads {d}) late =
      rw e (aim-from-append late (items (tokens_by rd 0 p)) (shown rd (mask rd (reading d) ps)) (shown rd ps) (aim-mask h reads))

-- ---- tokens that are no brackets

flat-level : (t : Shown) (d : ℕ) → side t ≡ flat → level t (suc d) ≡ suc d
flat-level Shown.opening d e = absurd (let z : ◌≡◌ {A = ℕ} 0 1 = cc in omega arith)
flat-level Shown.closing d e = absurd (let z : ◌≡◌ {A = ℕ} 0 1 = cc in omega arith)
flat-level Shown.line_break d e = refl
flat-level Shown.ignorable d e = refl
flat-level (Shown.text p bs) d e = refl
flat-level (Shown.word w num) d e = refl
flat-level (Shown.unknown p bs num) d e = refl
flat-level (Shown.symbol b num) d e = refl

-- a token that is no opening bracket
steps-kept : (x : Shown) (ts : List Shown) → (side x ≡ up → ⊥) → steps (x ∷ ts) ≡ kept (lone x) ∷ steps ts
unfolding walk_from seen
steps-kept Shown.opening ts e = absurd (e refl)
steps-kept Shown.closing ts e = refl
steps-kept Shown.line_break ts e = refl
steps-kept Shown.ignorable ts e = refl
steps-kept (Shown.text p bs) ts e = refl
steps-kept (Shown.word w num) ts e = refl
steps-kept (Shown.unknown p bs num) ts e = refl
steps-kept (Shown.symbol b num) ts e = refl

flat_up : (x : Shown) → side x ≡ flat → side x ≡ up → ⊥
flat_up x e f = let z : flat ≡ up = sym e ∙ f in let y : ◌≡◌ {A = ℕ} 0 1 = cc in omega arith

flat_step : (t : Shown) (ts : List Shown) → side t ≡ flat → steps (t ∷ ts) ≡ kept (lone t) ∷ steps ts
flat_step t ts e = steps-kept t ts (flat_up t e)

flat_walk : {c : List Shown} (x y : List Shown) → Flat c → steps x ≡ steps y → steps (c ++ x) ≡ steps (c ++ y)
flat_walk x y flat-none e = e
flat_walk x y (flat-some {t} {ts = c} f h) e =
    flat_step t (c ++ x) f ∙ ap (λ (ss : List Step). kept (lone t) ∷ ss) (flat_walk x y h e) ∙ sym (flat_step t (c ++ y) f)

-- ---- inside a group

-- the group's tokens, where d groups more are open inside; and what stands behind it
inside : ℕ → List Shown → List Shown
inside d ts = take (extent (suc d) ts) ts

outside : ℕ → List Shown → List Shown
outside d ts = drop (extent (suc d) ts) ts

not-zero : (d : ℕ) → eqb (suc d) 0 ≡ false
not-zero d = ne_eqb (suc d) 0 (λ e. omega arith)

extent-open : (d : ℕ) (ts : List Shown) → extent (suc d) (Shown.opening ∷ ts) ≡ suc (extent (suc (suc d)) ts)
unfolding extent
extent-open d ts = rw (not-zero (suc d))

extent-close : (ts : List Shown) → extent 1 (Shown.closing ∷ ts) ≡ 1
unfolding extent
extent-close ts = refl

extent-closes : (d : ℕ) (ts : List Shown) → extent (suc (suc d)) (Shown.closing ∷ ts) ≡ suc (extent (suc d) ts)
unfolding extent
extent-closes d ts = let e : suc (suc d) - 1 ≡ suc d = omega arith in rw (e, not-zero d)

extent-flat : (d : ℕ) (t : Shown) (ts : List Shown) → side t ≡ flat → extent (suc d) (t ∷ ts) ≡ suc (extent (suc d) ts)
unfolding extent
extent-flat d t ts e = rw (flat-level t d e, not-zero d)

-- two token lists whose groups, and what is behind them, are read alike
record Same (d : ℕ) (x y : List Shown) : Type 0 where
  in-it : inside d x ≡ inside d y
  behind-it : steps (outside d x) ≡ steps (outside d y)

same-open : (d : ℕ) (x y : List Shown) → Same (suc d) x y → Same d (Shown.opening ∷ x) (Shown.opening ∷ y)
unfolding inside outside
same-open d x y s = record {
  in-it = rw (extent-open d x, extent-open d y) (ap (λ (l : List Shown). Shown.opening ∷ l) s.in-it);
  behind-it = rw (extent-open d x, extent-open d y) s.behind-it;
}

same-close : (x y : List Shown) → steps x ≡ steps y → Same 0 (Shown.closing ∷ x) (Shown.closing ∷ y)
unfolding inside outside
same-close x y e = record {
  in-it = rw (extent-close x, extent-close y);
  behind-it = rw (extent-close x, extent-close y) e;
}

same-closes : (d : ℕ) (x y : List Shown) → Same d x y → Same (suc d) (Shown.closing ∷ x) (Shown.closing ∷ y)
unfolding inside outside
same-closes d x y s = record {
  in-it = rw (extent-closes d x, extent-closes d y) (ap (λ (l : List Shown). Shown.closing ∷ l) s.in-it);
  behind-it = rw (extent-closes d x, extent-closes d y) s.behind-it;
}

same-flat : (d : ℕ) {c : List Shown} (x y : List Shown) → Flat c → Same d x y → Same d (c ++ x) (c ++ y)
unfolding inside outside
same-flat d x y flat-none s = s
same-flat d x y (flat-some {t} {ts = c} e h) s = go (same-flat d x y h s)
  where
    go : Same d (c ++ x) (c ++ y) → Same d (t ∷ (c ++ x)) (t ∷ (c ++ y))
    go k = record {
      in-it = rw (extent-flat d t (c ++ x) e, extent-flat d t (c ++ y) e) (ap (λ (l : List Shown). t ∷ l) k.in-it);
      behind-it = rw (extent-flat d t (c ++ x) e, extent-flat d t (c ++ y) e) k.behind-it;
    }

same_by : (d : ℕ) {x x' y y' : List Shown} → x ≡ x' → y ≡ y' → Same d x y → Same d x' y'
same_by d {x} {x'} {y} {y'} e f s = subst (λ (l : List Shown). Same d x' l) f (subst (λ (l : List Shown). Same d l y) e s)

same_none : (d : ℕ) → Same d [] []
same_none d = record { in-it = refl; behind-it = refl }

-- what stands behind a group that is passed over
outside-none : (d : ℕ) → outside d [] ≡ []
unfolding outside extent
outside-none d = refl

outside-open : (d : ℕ) (ts : List Shown) → outside d (Shown.opening ∷ ts) ≡ outside (suc d) ts
unfolding outside
outside-open d ts = rw (extent-open d ts)

outside-close : (ts : List Shown) → outside 0 (Shown.closing ∷ ts) ≡ ts
unfolding outside
outside-close ts = rw (extent-close ts)

outside-closes : (d : ℕ) (ts : List Shown) → outside (suc d) (Shown.closing ∷ ts) ≡ outside d ts
unfolding outside
outside-closes d ts = rw (extent-closes d ts)

outside-flat : (d : ℕ) {c : List Shown} (ts : List Shown) → Flat c → outside d (c ++ ts) ≡ outside d ts
unfolding outside
outside-flat d ts flat-none = refl
outside-flat d ts (flat-some {t} {ts = c} e h) = rw (extent-flat d t (c ++ ts) e) (outside-flat d ts h)

-- ---- the steps

module _ (rd : Reading) where
  -- what is to be shown of pieces, by where the walk is
  abbrev Masked : Mode → List (List ℕ) → Type 0
  Masked going ps = steps (shown rd (mask rd going ps)) ≡ steps (shown rd ps)
  Masked (passing d) ps = steps (outside 0 (shown rd (mask rd (passing d) ps))) ≡ steps (outside d (shown rd ps))
  Masked (reading d) ps = Same d (shown rd (mask rd (reading d) ps)) (shown rd ps)

  -- an opening bracket, by what it begins
  steps-opening : (a : Aim) (ts : List Shown) → aim ts ≡ a → steps (Shown.opening ∷ ts) ≡ entered a (lone Shown.opening) (seen ts) ∷ steps (drop (entered_length a ts) ts)
  unfolding seen
  steps-opening a ts e =
      let q : aim (shown_by (seen ts)) ≡ a = ap aim (shown-seen ts) ∙ e in
      walk-one (lone Shown.opening) (seen ts)
      ∙ ap (λ (b : Aim). entered b (lone Shown.opening) (seen ts) ∷ walk (drop (entered_length b (shown_by (seen ts))) (seen ts))) q
      ∙ ap (λ (l : List Shown). entered a (lone Shown.opening) (seen ts) ∷ walk (drop (entered_length a l) (seen ts))) (shown-seen ts)
      ∙ ap (λ (l : List Token). entered a (lone Shown.opening) (seen ts) ∷ walk l) (drop-seen (entered_length a ts) ts)

  group-seen : (ts : List Shown) → group (seen ts) ≡ seen (inside 0 ts)
  unfolding inside
  group-seen ts = ap (λ (l : List Shown). take (extent 1 l) (seen ts)) (shown-seen ts) ∙ take-seen (extent 1 ts) ts

  walk_none : (ts : List Shown) → aim ts ≡ Nothing → steps (Shown.opening ∷ ts) ≡ kept (lone Shown.opening) ∷ steps ts
  walk_none ts e = steps-opening Nothing ts e

  walk-hide : (ts : List Shown) → aim ts ≡ Hide → steps (Shown.opening ∷ ts) ≡ hidden ∷ steps (outside 0 ts)
  unfolding outside
  walk-hide ts e = steps-opening Hide ts e

  walk-fonts : (late : Bool) (ts : List Shown) → aim ts ≡ Fonts late
      → steps (Shown.opening ∷ ts) ≡ font_table late (seen (inside 0 ts)) ∷ steps (outside 0 ts)
  unfolding outside
  walk-fonts late ts e = steps-opening (Fonts late) ts e ∙ ap (λ (l : List Token). font_table late l ∷ steps (outside 0 ts)) (group-seen ts)

  walk-colours : (late : Bool) (ts : List Shown) → aim ts ≡ Colours late
      → steps (Shown.opening ∷ ts) ≡ colour_table late (seen (inside 0 ts)) ∷ steps (outside 0 ts)
  unfolding outside
  walk-colours late ts e = steps-opening (Colours late) ts e ∙ ap (λ (l : List Token). colour_table late l ∷ steps (outside 0 ts)) (group-seen ts)

  -- an opening bracket
  module _ {ps : List (List ℕ)} (h : Sorted rd ps) where
    opened : (a : Aim) → aim (shown rd ps) ≡ a → ((m : Mode) → Masked m ps)
        → steps (shown rd (cover going up a (123 ∷ []) ++ mask rd (enter a) ps)) ≡ steps (Shown.opening ∷ shown rd ps)
    opened Nothing e ih =
        let ms : List Shown = shown rd (mask rd going ps) in
        ap steps (shown-open (mask rd going ps) rd) ∙ walk_none ms (aim-mask rd h goes false ∙ e) ∙ ap (λ (ss : List Step). kept (lone Shown.opening) ∷ ss) (ih going) ∙ sym (walk_none (shown rd ps) e)
    opened Hide e ih =
        let ms : List Shown = shown rd (mask rd (passing 0) ps) in
        let f : aim (Shown.ignorable ∷ ms) ≡ Hide = (unfold aim_from in refl) in
        let g : outside 0 (Shown.ignorable ∷ ms) ≡ outside 0 ms = outside-flat 0 {c = Shown.ignorable ∷ []} ms (flat-some refl flat-none) in
        ap steps (shown-open (mute ∷ mask rd (passing 0) ps) rd)
        ∙ ap (λ (ts : List Shown). steps (Shown.opening ∷ ts)) (shown-mute (mask rd (passing 0) ps) rd)
        ∙ walk-hide (Shown.ignorable ∷ ms) f ∙ ap (λ (ts : List Shown). hidden ∷ steps ts) g ∙ ap (λ (ss : List Step). hidden ∷ ss) (ih (passing 0)) ∙ sym (walk-hide (shown rd ps) e)
    opened (Fonts late) e ih =
        let ms : List Shown = shown rd (mask rd (reading 0) ps) in
        ap steps (shown-open (mask rd (reading 0) ps) rd)
        ∙ walk-fonts late ms (aim-mask rd h (reads {d = 0}) false ∙ e)
        ∙ ap (λ (ts : List Shown). font_table late (seen ts) ∷ steps (outside 0 ms)) (ih (reading 0)).in-it
        ∙ ap (λ (ss : List Step). font_table late (seen (inside 0 (shown rd ps))) ∷ ss) (ih (reading 0)).behind-it
        ∙ sym (walk-fonts late (shown rd ps) e)
    opened (Colours late) e ih =
        let ms : List Shown = shown rd (mask rd (reading 0) ps) in
        ap steps (shown-open (mask rd (reading 0) ps) rd)
        ∙ walk-colours late ms (aim-mask rd h (reads {d = 0}) false ∙ e)
        ∙ ap (λ (ts : List Shown). colour_table late (seen ts) ∷ steps (outside 0 ms)) (ih (reading 0)).in-it
        ∙ ap (λ (ss : List Step). colour_table late (seen (inside 0 (shown rd ps))) ∷ ss) (ih (reading 0)).behind-it
        ∙ sym (walk-colours late (shown rd ps) e)

  closing-up : side Shown.closing ≡ up → ⊥
  closing-up e = let y : ◌≡◌ {A = ℕ} 0 1 = cc in omega arith

  walk-close : (x y : List Shown) → steps x ≡ steps y → steps (Shown.closing ∷ x) ≡ steps (Shown.closing ∷ y)
  walk-close x y e =
      steps-kept Shown.closing x closing-up
      ∙ ap (λ (ss : List Step). kept (lone Shown.closing) ∷ ss) e
      ∙ sym (steps-kept Shown.closing y closing-up)

  walk-masked : {ps : List (List ℕ)} → Sorted rd ps → (m : Mode) → Masked m ps
  unfolding mask shown
  walk-masked none going = refl
  walk-masked none (passing d) = ap steps (outside-none 0 ∙ sym (outside-none d))
  walk-masked none (reading d) = same_none d
  walk-masked (opens {ps} h) going = opened h (aim (shown rd ps)) refl (walk-masked h) ∙ ap steps (sym (shown-open ps rd))
  walk-masked (opens {ps} h) (passing d) =
      walk-masked h (passing (suc d)) ∙ ap steps (sym (outside-open d (shown rd ps))) ∙ ap (λ (l : List Shown). steps (outside d l)) (sym (shown-open ps rd))
  walk-masked (opens {ps} h) (reading d) =
      let qs : List (List ℕ) = mask rd (reading (suc d)) ps in
      same_by d (sym (shown-open qs rd)) (sym (shown-open ps rd)) (same-open d (shown rd qs) (shown rd ps) (walk-masked h (reading (suc d))))
  walk-masked (closes {ps} h) going =
      let qs : List (List ℕ) = mask rd going ps in
      ap steps (shown-close qs rd) ∙ walk-close (shown rd qs) (shown rd ps) (walk-masked h going) ∙ ap steps (sym (shown-close ps rd))
  walk-masked (closes {ps} h) (passing zero) =
      let qs : List (List ℕ) = mask rd going ps in
      ap (λ (l : List Shown). steps (outside 0 l)) (shown-close qs rd)
      ∙ ap steps (outside-close (shown rd qs))
      ∙ walk-masked h going
      ∙ ap steps (sym (outside-close (shown rd ps)))
      ∙ ap (λ (l : List Shown). steps (outside 0 l)) (sym (shown-close ps rd))
  walk-masked (closes {ps} h) (passing (suc d)) =
      walk-masked h (passing d) ∙ ap steps (sym (outside-closes d (shown rd ps))) ∙ ap (λ (l : List Shown). steps (outside (suc d) l)) (sym (shown-close ps rd))
  walk-masked (closes {ps} h) (reading zero) =
      let qs : List (List ℕ) = mask rd going ps in
      same_by 0 (sym (shown-close qs rd)) (sym (shown-close ps rd)) (same-close (shown rd qs) (shown rd ps) (walk-masked h going))
  walk-masked (closes {ps} h) (reading (suc d)) =
      let qs : List (List ℕ) = mask rd (reading d) ps in
      same_by (suc d) (sym (shown-close qs rd)) (sym (shown-close ps rd)) (same-closes d (shown rd qs) (shown rd ps) (walk-masked h (reading d)))
  walk-masked (stays {p} {ps} e l h) going = rw e (flat_walk (shown rd (mask rd going ps)) (shown rd ps) l (walk-masked h going))
  walk-masked (stays {p} {ps} e l h) (passing d) = rw e (walk-masked h (passing d) ∙ ap steps (sym (outside-flat d (shown rd ps) l)))
  walk-masked (stays {p} {ps} e l h) (reading d) =
      rw e (same-flat d (shown rd (mask rd (reading d) ps)) (shown rd ps) l (walk-masked h (reading d)))

  pub walk-mask : {ps : List (List ℕ)} → Sorted rd ps → steps (shown rd (mask rd going ps)) ≡ steps (shown rd ps)
  walk-mask h = walk-masked h going
