-- What a token does to the array of states, one law for each way through the code.
--     took-open-..    an opening bracket, by how many states are held
--     took-close-..   a closing one
--     took-keep-..    a token that leaves the top as it is
--     took-..         a word's act in the top state: settings, a character, a refusal; without a state
-- Assumes nothing.
use mathlib.Core.Path.{◌≡◌, refl, sym, ap, ◌∙◌}
use mathlib.Core.List.{List, [], ◌∷◌}
use Prim.Native.Nat.{ℕ, ◌+◌, ◌-◌, ◌≤◌, ◌<◌}
use native.Mathlib.Omega.{arith}
use lib.ListN.{length, get_or, set, length-set}
use Rattle.answers.specs.declared.Why.{Why}
use Rattle.answers.specs.declared.Why.TheVariants.{NoState, TooDeep}
use Rattle.answers.specs.Answers.{Fate, becomes, fails}
use Rattle.settings.specs.Fields.{fresh_row, Setting}
use Rattle.settings.specs.Effects.{Effect, sets, says, refuses}
use Rattle.settings.specs.Rows.{settled, settle_at}
use Rattle.machine.specs.Stack.{Move, opens, closes, within, moved, held}
use Rattle.machine.specs.Machine.{settle, move_of}
use Rattle.machine.proofs.Stack.{held-settle, held-top, open_none, open_full, open_more, close-top, close-none, within-top, within_none}
use Rattle.runs.specs.Runs.{rows}
use Rattle.deeds.specs.Deeds.{doing}
use Rattle.deeds.specs.Turns.{Took}
use Rattle.std.specs.Prelude.{Ok, Err}

-- settings in a row are settings in a state
settled-rows : (ss : List Setting) (r : List ℕ) → settled ss r ≡ settle rows ss r
unfolding settled settle
settled-rows [] r = refl
settled-rows (s ∷ ss) r = settled-rows ss (rows.put s r)

module _ (states : List (List ℕ)) (d : ℕ) (all : length states ≡ 64) where
  -- the stack that the array holds
  abbrev stack : List (List ℕ)
  stack = held [] states d

  pub took-open-none : {row : List ℕ} → row ≡ fresh_row → d ≡ 0 → Took (Ok 1) (set states 0 row) (moved fresh_row (held [] states d) opens)
  took-open-none {row} e z = record {
    does = let h : 0 < length states = omega arith in ap (λ (r : List ℕ). becomes (held [] (set states 0 r) 1)) e ∙ open_none [] fresh_row states d z h;
    deep = omega arith;
    all = length-set states 0 row ∙ all;
  }

  module _ (z : d ≡ 0) where
    pub took-close-none : Took (Err NoState) states (moved fresh_row (held [] states d) closes)
    took-close-none = record { does = close-none [] fresh_row states d z; deep = omega arith; all = all }

    pub took-none : (f : List ℕ → Fate (List ℕ)) → Took (Err NoState) states (moved fresh_row (held [] states d) (within f))
    took-none f = record { does = within_none [] fresh_row states d z f; deep = omega arith; all = all }

    pub took-act-none : (e : Effect) → Took (Err NoState) states (moved fresh_row (held [] states d) (move_of rows (doing e)))
    took-act-none (sets ss) = took-none (λ (r : List ℕ). becomes (settle rows ss r))
    took-act-none (says c) = took-none (λ (r : List ℕ). becomes r)
    took-act-none (refuses why) = took-none (λ (r : List ℕ). fails why)

  module _ (z : 0 < d) where
    pub took-open-full : d ≡ 64 → Took (Err TooDeep) states (moved fresh_row (held [] states d) opens)
    took-open-full e = record { does = open_full [] fresh_row states d z e; deep = omega arith; all = all }

    pub took-open-more : (d ≡ 64 → ⊥) → d ≤ 64 → Took (Ok (d + 1)) (set states d (get_or states (d - 1) [])) (moved fresh_row (held [] states d) opens)
    took-open-more n l = record {
      does = let h : d < length states = omega arith in open_more [] fresh_row states d z n h;
      deep = omega arith;
      all = length-set states d (get_or states (d - 1) []) ∙ all;
    }

    pub took-close-top : d ≤ 64 → Took (Ok (d - 1)) states (moved fresh_row (held [] states d) closes)
    took-close-top l = record { does = close-top [] fresh_row states d z; deep = omega arith; all = all }

    pub took-keep : d ≤ 64 → Took (Ok d) states (moved fresh_row (held [] states d) (within (λ (s : List ℕ). becomes s)))
    took-keep l = record {
      does = ap becomes (held-top [] states d z) ∙ within-top [] fresh_row states d z (λ (s : List ℕ). becomes s);
      deep = l;
      all = all;
    }

    module _ (l : d ≤ 64) {e : Effect} where
      pub took-sets : (ss : List Setting) → e ≡ sets ss → {states' : List (List ℕ)} → states' ≡ settle_at ss states (d - 1)
          → Took (Ok d) states' (moved fresh_row (held [] states d) (move_of rows (doing e)))
      unfolding settle_at
      took-sets ss q {states'} s = record {
        does = let h : d ≤ length states = omega arith in
            let row : List ℕ = get_or states (d - 1) [] in
            ap (λ (x : List (List ℕ)). becomes (held [] x d)) s
            ∙ ap becomes (held-settle [] states d (settled ss row) z h)
            ∙ ap (λ (x : List ℕ). becomes (x ∷ held [] states (d - 1))) (settled-rows ss row)
            ∙ within-top [] fresh_row states d z (λ (r : List ℕ). becomes (settle rows ss r))
            ∙ ap (λ (x : Effect). moved fresh_row (held [] states d) (move_of rows (doing x))) (sym q);
        deep = l;
        all = ap length s ∙ length-set states (d - 1) (settled ss (get_or states (d - 1) [])) ∙ all;
      }

      pub took-nothing : e ≡ sets [] → Took (Ok d) states (moved fresh_row (held [] states d) (move_of rows (doing e)))
      unfolding settle
      took-nothing q = rw q (took-keep l)

      pub took-says : (c : ℕ) → e ≡ says c → Took (Ok d) states (moved fresh_row (held [] states d) (move_of rows (doing e)))
      took-says c q = rw q (took-keep l)

      pub took-refuses : (why : Why) → e ≡ refuses why → Took (Err why) states (moved fresh_row (held [] states d) (move_of rows (doing e)))
      took-refuses why q = record {
        does = within-top [] fresh_row states d z (λ (r : List ℕ). fails why) ∙ ap (λ (x : Effect). moved fresh_row (held [] states d) (move_of rows (doing x))) (sym q);
        deep = omega arith;
        all = all;
      }

-- where nothing is done to the stack
pub took-parts : (states : List (List ℕ)) (d : ℕ) → length states ≡ 64 → d ≤ 64 → Took (Ok d) states (moved fresh_row (held [] states d) Move.stays)
unfolding moved held
took-parts states d all l = record { does = go d; deep = l; all = all }
  where
    go : (n : ℕ) → becomes (held [] states n) ≡ moved fresh_row (held [] states n) Move.stays
    go n = at (held [] states n)
      where
        at : (st : List (List ℕ)) → becomes st ≡ moved fresh_row st Move.stays
        at [] = refl
        at (top ∷ rest) = refl

pub took-stops : (states : List (List ℕ)) (d : ℕ) → length states ≡ 64 → (why : Why) → Took (Err why) states (moved fresh_row (held [] states d) (Move.stops why))
unfolding moved
took-stops states d all why = record { does = at (held [] states d); deep = omega arith; all = all }
  where
    at : (st : List (List ℕ)) → fails why ≡ moved fresh_row st (Move.stops why)
    at [] = refl
    at (top ∷ rest) = refl
