-- The stack's argument: what brackets, and moves between them, do to a stack, whatever a state is and whatever is done to the top.
--     depth-opens, -closes, -within, -stays   one state more (one, if none was held), one less, as many, as many
--     limit-moved, limit-all, limit-start     at most 64 are held, if at most 64 were: by a move, by moves, from the start
--     refuses-moved, moved-refuses            a move is refused where `Refuses` says, and nowhere else
--     below-within, below_stays               what is done to the top leaves what stands below it
--     below-inside                            so do moves inside a group: what stood when it was opened stands below its states
--     group-gone                              an opening bracket, moves inside its group and its closing bracket leave the stack as it was
--     group-over                              so what comes behind a group that is not refused goes as if it had not been there
--     refused_all, all_append                 behind a refusal nothing is done; moves in two parts
-- Assumes nothing.
use mathlib.Core.Path.{◌≡◌, refl, sym, ap, subst, ◌∙◌}
use mathlib.Core.List.{List, [], ◌∷◌, ◌++◌}
use mathlib.Core.Bool.{Bool, true, false, cond}
use Prim.Native.Nat.{ℕ, zero, suc, ◌≤◌}
use native.Mathlib.Omega.{arith}
use borrow.Author.Tests.{eqb-true, eqb-false, eq-eqb}
use lib.ListN.{length}
use lib.Dec.{eqb}
use Rattle.answers.specs.declared.Why.{Why}
use Rattle.answers.specs.declared.Why.TheVariants.{TooDeep}
use Rattle.answers.specs.Answers.{Fate, becomes, fails}
use Rattle.machine.specs.Stack.{stack_limit, Move, opens, closes, within, stays, stops, topped, moved}
use Rattle.machine.specs.Moves.{next, moved_from, moved_all, Refuses, Inside}

module _ {R : Type 0} where
  -- ---- by what becomes of a stack

  -- of the stack that there is, if there is one
  abbrev IfBecomes : (List R → Type 0) → Fate (List R) → Type 0
  IfBecomes P (becomes st) = P st
  IfBecomes P (fails why) = Unit {0}

  -- of the refusal, if there is one
  abbrev IfFails : (Why → Type 0) → Fate (List R) → Type 0
  IfFails P (becomes st) = Unit {0}
  IfFails P (fails why) = P why

  if-becomes : (P : List R → Type 0) {h : Fate (List R)} {st : List R} → IfBecomes P h → h ≡ becomes st → P st
  if-becomes P p e = subst (IfBecomes P) e p

  if-fails : (P : Why → Type 0) {h : Fate (List R)} {why : Why} → IfFails P h → h ≡ fails why → P why
  if-fails P p e = subst (IfFails P) e p

  module _ (fresh : R) where
    -- an opening bracket where there is a state
    opens-more : (P : List R → Type 0) (top : R) (rest : List R) → ((suc (length rest) ≡ stack_limit → ⊥) → P (top ∷ top ∷ rest))
        → IfBecomes P (moved fresh (top ∷ rest) opens)
    unfolding moved
    opens-more P top rest more = go (eqb (suc (length rest)) stack_limit) refl
      where
        go : (t : Bool) → eqb (suc (length rest)) stack_limit ≡ t → IfBecomes P (cond t (fails TooDeep) (becomes (top ∷ top ∷ rest)))
        go true p = tt
        go false p = more (eqb-false (suc (length rest)) stack_limit p)

    -- something done to the top
    topped-becomes : (P : List R → Type 0) (rest : List R) (x : Fate R) → ((r : R) → P (r ∷ rest)) → IfBecomes P (topped rest x)
    topped-becomes P rest (becomes r) p = p r
    topped-becomes P rest (fails why) p = tt

    -- ---- moves, one after the other

    pub refused_all : (why : Why) (ms : List (Move R)) → moved_from fresh (fails why) ms ≡ fails why
    unfolding moved_from
    refused_all why [] = refl
    refused_all why (m ∷ ms) = refused_all why ms

    pub all_append : (h : Fate (List R)) (ms ns : List (Move R)) → moved_from fresh h (ms ++ ns) ≡ moved_from fresh (moved_from fresh h ms) ns
    unfolding moved_from
    all_append h [] ns = refl
    all_append h (m ∷ ms) ns = all_append (next fresh h m) ms ns

    -- what each move keeps, all of them keep
    if-all : (P : List R → Type 0) → ((st : List R) (m : Move R) → P st → IfBecomes P (moved fresh st m))
        → (h : Fate (List R)) (ms : List (Move R)) → IfBecomes P h → IfBecomes P (moved_from fresh h ms)
    unfolding moved_from
    if-all P keep h [] p = p
    if-all P keep (becomes st) (m ∷ ms) p = if-all P keep (moved fresh st m) ms (keep st m p)
    if-all P keep (fails why) (m ∷ ms) p = if-all P keep (fails why) ms tt

    -- ---- how many states there are

    pub depth-opens : (st st' : List R) → moved fresh st opens ≡ becomes st' → length st' ≡ suc (length st)
    unfolding moved
    depth-opens [] st' = if-becomes (λ (s : List R). length s ≡ 1) refl
    depth-opens (top ∷ rest) st' = if-becomes (λ (s : List R). length s ≡ suc (suc (length rest))) (opens-more _ top rest (λ n. refl))

    pub depth-closes : (st st' : List R) → moved fresh st closes ≡ becomes st' → suc (length st') ≡ length st
    unfolding moved
    depth-closes [] st' = if-becomes (λ (s : List R). suc (length s) ≡ 0) tt
    depth-closes (top ∷ rest) st' = if-becomes (λ (s : List R). suc (length s) ≡ suc (length rest)) refl

    pub depth-within : (f : R → Fate R) (st st' : List R) → moved fresh st (within f) ≡ becomes st' → length st' ≡ length st
    unfolding moved
    depth-within f [] st' = if-becomes (λ (s : List R). length s ≡ 0) tt
    depth-within f (top ∷ rest) st' = if-becomes (λ (s : List R). length s ≡ suc (length rest)) (topped-becomes _ rest (f top) (λ r. refl))

    pub depth-stays : (st st' : List R) → moved fresh st stays ≡ becomes st' → length st' ≡ length st
    unfolding moved
    depth-stays st st' = if-becomes (λ (s : List R). length s ≡ length st) refl

    -- ---- at most 64

    limit-becomes : (st : List R) (m : Move R) → length st ≤ stack_limit → IfBecomes (λ (s : List R). length s ≤ stack_limit) (moved fresh st m)
    unfolding moved
    limit-becomes [] opens h = omega arith
    limit-becomes (top ∷ rest) opens h = opens-more _ top rest (λ n. omega arith)
    limit-becomes [] closes h = tt
    limit-becomes (top ∷ rest) closes h = omega arith
    limit-becomes [] (within f) h = tt
    limit-becomes (top ∷ rest) (within f) h = topped-becomes _ rest (f top) (λ r. h)
    limit-becomes st stays h = h
    limit-becomes st (stops why) h = tt

    pub limit-moved : (st st' : List R) (m : Move R) → length st ≤ stack_limit → moved fresh st m ≡ becomes st' → length st' ≤ stack_limit
    limit-moved st st' m h = if-becomes (λ (s : List R). length s ≤ stack_limit) (limit-becomes st m h)

    pub limit-all : (st st' : List R) (ms : List (Move R)) → length st ≤ stack_limit → moved_all fresh st ms ≡ becomes st' → length st' ≤ stack_limit
    limit-all st st' ms h = if-becomes (λ (s : List R). length s ≤ stack_limit) (if-all _ limit-becomes (becomes st) ms h)

    pub limit-start : (st' : List R) (ms : List (Move R)) → moved_all fresh (fresh ∷ []) ms ≡ becomes st' → length st' ≤ stack_limit
    limit-start st' ms = limit-all (fresh ∷ []) st' ms (omega arith)

    -- ---- what is refused

    pub refuses-moved : (st : List R) (m : Move R) (why : Why) → Refuses st m why → moved fresh st m ≡ fails why
    unfolding moved
    refuses-moved [] opens why h = absurd (omega (arith, h.0))
    refuses-moved (top ∷ rest) opens why h = rw (eq-eqb (suc (length rest)) stack_limit h.0, h.1)
    refuses-moved [] closes why h = rw h
    refuses-moved (top ∷ rest) closes why h = absurd h
    refuses-moved [] (within f) why h = rw h
    refuses-moved (top ∷ rest) (within f) why h = rw h
    refuses-moved st stays why h = absurd h
    refuses-moved st (stops own) why h = rw h

    refuses-opens : (top : R) (rest : List R) → IfFails (Refuses (top ∷ rest) opens) (moved fresh (top ∷ rest) opens)
    unfolding moved
    refuses-opens top rest = go (eqb (suc (length rest)) stack_limit) refl
      where
        go : (t : Bool) → eqb (suc (length rest)) stack_limit ≡ t
            → IfFails (Refuses (top ∷ rest) opens) (cond t (fails TooDeep) (becomes (top ∷ top ∷ rest)))
        go true p = (eqb-true (suc (length rest)) stack_limit p, refl)
        go false p = tt

    refuses-topped : (rest : List R) (x : Fate R) → IfFails (λ (why : Why). x ≡ fails why) (topped rest x)
    refuses-topped rest (becomes r) = tt
    refuses-topped rest (fails why) = refl

    refuses-only : (st : List R) (m : Move R) → IfFails (Refuses st m) (moved fresh st m)
    unfolding moved
    refuses-only [] opens = tt
    refuses-only (top ∷ rest) opens = refuses-opens top rest
    refuses-only [] closes = refl
    refuses-only (top ∷ rest) closes = tt
    refuses-only [] (within f) = refl
    refuses-only (top ∷ rest) (within f) = refuses-topped rest (f top)
    refuses-only st stays = tt
    refuses-only st (stops own) = refl

    pub moved-refuses : (st : List R) (m : Move R) (why : Why) → moved fresh st m ≡ fails why → Refuses st m why
    moved-refuses st m why = if-fails (Refuses st m) (refuses-only st m)

    -- ---- what stands below

    pub below-within : (f : R → Fate R) (top : R) (rest st' : List R) → moved fresh (top ∷ rest) (within f) ≡ becomes st' → (top' : R) × (st' ≡ top' ∷ rest)
    unfolding moved
    below-within f top rest st' = if-becomes (λ (s : List R). (top' : R) × (s ≡ top' ∷ rest)) (topped-becomes _ rest (f top) (λ r. (r, refl)))

    pub below_stays : (st st' : List R) → moved fresh st stays ≡ becomes st' → st' ≡ st
    unfolding moved
    below_stays st st' = if-becomes (λ (s : List R). s ≡ st) refl

    -- a stack with n + 1 states above another one
    abbrev Upon : ℕ → List R → List R → Type 0
    Upon n base [] = ⊥
    Upon zero base (r ∷ st) = st ≡ base
    Upon (suc n) base (r ∷ st) = Upon n base st

    upon-append : (n : ℕ) (upper base : List R) → length upper ≡ suc n → Upon n base (upper ++ base)
    upon-append n [] base h = absurd (omega (arith, h))
    upon-append zero (r ∷ []) base h = refl
    upon-append zero (r ∷ s ∷ upper) base h = absurd (omega (arith, h))
    upon-append (suc n) (r ∷ upper) base h = upon-append n upper base (omega (arith, h))

    append-upon : (n : ℕ) (base st : List R) → Upon n base st → (upper : List R) × (st ≡ upper ++ base) × (length upper ≡ suc n)
    append-upon n base [] u = absurd u
    append-upon zero base (r ∷ st) u = (r ∷ [], ap (λ (s : List R). r ∷ s) u, refl)
    append-upon (suc n) base (r ∷ st) u =
        let more : (upper : List R) × (st ≡ upper ++ base) × (length upper ≡ suc n) = append-upon n base st u in
        (r ∷ more.0, ap (λ (s : List R). r ∷ s) more.1, ap suc more.2)

    -- another top
    upon-top : (n : ℕ) (base : List R) (top r : R) (rest : List R) → Upon n base (top ∷ rest) → Upon n base (r ∷ rest)
    upon-top zero base top r rest u = u
    upon-top (suc n) base top r rest u = u

    upon-inside : (base : List R) (ms : List (Move R)) (n k : ℕ) (h : Fate (List R)) → Inside n ms k → IfBecomes (Upon n base) h
        → IfBecomes (Upon k base) (moved_from fresh h ms)
    unfolding moved_from moved
    upon-inside base [] n k h i u = subst (λ (j : ℕ). IfBecomes (Upon j base) h) i u
    upon-inside base (m ∷ ms) n k (fails why) i u = rw (refused_all why ms) tt
    upon-inside base (m ∷ ms) n k (becomes []) i u = absurd u
    upon-inside base (opens ∷ ms) n k (becomes (top ∷ rest)) i u =
        upon-inside base ms (suc n) k (moved fresh (top ∷ rest) opens) i (opens-more (Upon (suc n) base) top rest (λ full. u))
    upon-inside base (closes ∷ ms) zero k (becomes (top ∷ rest)) i u = absurd i
    upon-inside base (closes ∷ ms) (suc n) k (becomes (top ∷ rest)) i u = upon-inside base ms n k (becomes rest) i u
    upon-inside base (within f ∷ ms) n k (becomes (top ∷ rest)) i u =
        upon-inside base ms n k (topped rest (f top)) i (topped-becomes (Upon n base) rest (f top) (λ r. upon-top n base top r rest u))
    upon-inside base (stays ∷ ms) n k (becomes (top ∷ rest)) i u = upon-inside base ms n k (becomes (top ∷ rest)) i u
    upon-inside base (stops why ∷ ms) n k (becomes (top ∷ rest)) i u = rw (refused_all why ms) tt

    pub below-inside : (n k : ℕ) (ms : List (Move R)) (upper base st' : List R) → Inside n ms k → length upper ≡ suc n
        → moved_all fresh (upper ++ base) ms ≡ becomes st' → (upper' : List R) × (st' ≡ upper' ++ base) × (length upper' ≡ suc k)
    below-inside n k ms upper base st' i l e =
        append-upon k base st' (if-becomes (Upon k base) (upon-inside base ms n k (becomes (upper ++ base)) i (upon-append n upper base l)) e)

    -- ---- a group

    group-opens : (st : List R) → IfBecomes (Upon 0 st) (moved fresh st opens)
    unfolding moved
    group-opens [] = refl
    group-opens (top ∷ rest) = opens-more (Upon 0 (top ∷ rest)) top rest (λ full. refl)

    group-closes : (st : List R) (h : Fate (List R)) → IfBecomes (Upon 0 st) h → IfBecomes (λ (s : List R). s ≡ st) (next fresh h closes)
    unfolding moved
    group-closes st (fails why) u = tt
    group-closes st (becomes []) u = absurd u
    group-closes st (becomes (top ∷ rest)) u = u

    pub group-gone : (st st' : List R) (ms : List (Move R)) → Inside 0 ms 0 → moved_all fresh st (opens ∷ (ms ++ (closes ∷ []))) ≡ becomes st' → st' ≡ st
    unfolding moved_from
    group-gone st st' ms i e =
        let u : IfBecomes (Upon 0 st) (moved_from fresh (moved fresh st opens) ms) = upon-inside st ms 0 0 (moved fresh st opens) i (group-opens st) in
        if-becomes (λ (s : List R). s ≡ st) (group-closes st (moved_from fresh (moved fresh st opens) ms) u) (sym (all_append (moved fresh st opens) ms (closes ∷ [])) ∙ e)

    pub group-over : (st st' : List R) (ms more : List (Move R)) → Inside 0 ms 0 → moved_all fresh st (opens ∷ (ms ++ (closes ∷ []))) ≡ becomes st'
        → moved_all fresh st ((opens ∷ (ms ++ (closes ∷ []))) ++ more) ≡ moved_all fresh st more
    group-over st st' ms more i e =
        all_append (becomes st) (opens ∷ (ms ++ (closes ∷ []))) more
        ∙ ap (λ (h : Fate (List R)). moved_from fresh h more) (e ∙ ap (λ (s : List R). becomes s) (group-gone st st' ms i e))
