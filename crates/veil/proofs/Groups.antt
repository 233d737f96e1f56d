-- Another inside in an ignored group leaves the veil as it is.
--     mask-inside, mask-before   of an ignored group the brackets and the mark are left; what stands before it is masked alike
--     alike-veil                 letters that are the same except inside ignored groups have one veil
-- Assumes nothing.
use mathlib.Core.Path.{◌≡◌, refl, sym, ap, ◌∙◌}
use mathlib.Core.List.{List, [], ◌∷◌, ◌++◌, append-nil}
use mathlib.Core.Bool.{Bool, true, false, false≢true}
use Prim.Native.Nat.{ℕ, zero, suc}
use Rattle.readings.specs.declared.Reading.{Reading}
use Rattle.cutter.specs.Cutting.{trimmed}
use Rattle.walk.specs.declared.Aim.{Aim}
use Rattle.walk.specs.declared.Aim.TheVariants.{Nothing, Hide}
use Rattle.walk.specs.Walk.{aim_from, aim}
use Rattle.veil.specs.Veil.{pieces, join, shown, Side, up, down, flat, side_of, Mode, going, passing, next, mute, cover}
use Rattle.veil.specs.Veil.{mask, veil, behind, own_at, own, grouped, Ignored, Alike, same, other}
use Rattle.veil.proofs.Joins.{ends_open, ends_close, pieces-append}
use Rattle.veil.proofs.Shows.{shown-append}
use Rattle.veil.proofs.Walks.{aim-append, aim-opens, aim-closes}
use Rattle.veil.proofs.Trims.{fronted, backed, trimmed-grouped, ends-dropped}

module _ (rd : Reading) where
  -- what stands behind a bracket is not looked at
  aim-before : (ps qs : List (List ℕ)) → ((late : Bool) → aim_from late (shown rd qs) ≡ Nothing)
      → aim (shown rd (ps ++ qs)) ≡ aim (shown rd ps)
  unfolding aim_from
  aim-before ps qs e =
      ap (aim_from false) (shown-append rd ps qs) ∙ aim-append (shown rd ps) (shown rd qs) [] e ∙ ap (aim_from false) (append-nil (shown rd ps))

  aim-open : (ps r : List (List ℕ)) → aim (shown rd (ps ++ ((123 ∷ []) ∷ r))) ≡ aim (shown rd ps)
  aim-open ps r = aim-before ps ((123 ∷ []) ∷ r) (λ late. aim-opens rd late r)

  aim-close : (ps r : List (List ℕ)) → aim (shown rd (ps ++ ((125 ∷ []) ∷ r))) ≡ aim (shown rd ps)
  aim-close ps r = aim-before ps ((125 ∷ []) ∷ r) (λ late. aim-closes rd late r)

  -- inside the group nothing is left
  mask-inside : (d : ℕ) (gs qs : List (List ℕ)) → own d gs ≡ true
      → mask rd (passing d) (gs ++ ((125 ∷ []) ∷ qs)) ≡ (125 ∷ []) ∷ mask rd going qs
  unfolding mask own
  mask-inside zero [] qs h = refl
  mask-inside (suc d) [] qs h = absurd (false≢true h)
  mask-inside d (p ∷ gs) qs h = go d (side_of p) (aim (shown rd (gs ++ ((125 ∷ []) ∷ qs)))) h (λ e. mask-inside e gs qs)
    where
      go : (d : ℕ) (s : Side) (a : Aim) → own_at s d (λ e. own e gs) ≡ true
          → ((e : ℕ) → own e gs ≡ true → mask rd (passing e) (gs ++ ((125 ∷ []) ∷ qs)) ≡ (125 ∷ []) ∷ mask rd going qs)
          → cover (passing d) s a p ++ mask rd (next (passing d) s a) (gs ++ ((125 ∷ []) ∷ qs)) ≡ (125 ∷ []) ∷ mask rd going qs
      go d up a h ih = ih (suc d) h
      go zero down a h ih = absurd (false≢true h)
      go (suc d) down a h ih = ih d h
      go d flat a h ih = ih d h

  -- the group itself
  mask-group : (gs qs : List (List ℕ)) → aim (shown rd gs) ≡ Hide → own 0 gs ≡ true
      → mask rd going ((123 ∷ []) ∷ (gs ++ ((125 ∷ []) ∷ qs))) ≡ (123 ∷ []) ∷ mute ∷ (125 ∷ []) ∷ mask rd going qs
  unfolding mask
  mask-group gs qs h o = rw (aim-close gs qs, h) (ap (λ (l : List (List ℕ)). (123 ∷ []) ∷ mute ∷ l) (mask-inside 0 gs qs o))

  -- what stands before an opening bracket is masked alike, whatever follows the bracket
  module _ (r s : List (List ℕ)) (k : mask rd going ((123 ∷ []) ∷ r) ≡ mask rd going ((123 ∷ []) ∷ s)) where
    mask-before : (m : Mode) (ps : List (List ℕ)) → behind rd m ps ≡ going
        → mask rd m (ps ++ ((123 ∷ []) ∷ r)) ≡ mask rd m (ps ++ ((123 ∷ []) ∷ s))
    unfolding mask behind
    mask-before m [] h = rw h k
    mask-before m (p ∷ ps) h =
        rw (aim-open ps r, aim-open ps s)
        (ap (λ (l : List (List ℕ)). cover m (side_of p) (aim (shown rd ps)) p ++ l) (mask-before (next m (side_of p) (aim (shown rd ps))) ps h))

  -- a letter with an ignored group in it, trimmed, and its pieces
  module _ {x g : List ℕ} (y : List ℕ) (i : Ignored rd x g) where
    letter-pieces : pieces rd (trimmed (grouped x g y)) ≡ pieces rd (fronted x) ++ ((123 ∷ []) ∷ (pieces rd g ++ ((125 ∷ []) ∷ pieces rd (backed y))))
    letter-pieces =
        ap (pieces rd) (trimmed-grouped x g y)
        ∙ pieces-append rd (fronted x) 123 (g ++ (125 ∷ backed y)) refl (ends_open rd (fronted x) (ends-dropped rd x i.opened))
        ∙ ap (λ (l : List (List ℕ)). pieces rd (fronted x) ++ ((123 ∷ []) ∷ l)) (pieces-append rd g 125 (backed y) refl (ends_close rd g i.closed))

    group-masked : mask rd going ((123 ∷ []) ∷ (pieces rd g ++ ((125 ∷ []) ∷ pieces rd (backed y)))) ≡ (123 ∷ []) ∷ mute ∷ (125 ∷ []) ∷ mask rd going (pieces rd (backed y))
    group-masked = mask-group (pieces rd g) (pieces rd (backed y)) i.hidden i.balanced

  other-inside : (x g h y : List ℕ) → Ignored rd x g → Ignored rd x h → veil rd (grouped x g y) ≡ veil rd (grouped x h y)
  unfolding veil
  other-inside x g h y i j =
      let r : List (List ℕ) = pieces rd g ++ ((125 ∷ []) ∷ pieces rd (backed y)) in
      let s : List (List ℕ) = pieces rd h ++ ((125 ∷ []) ∷ pieces rd (backed y)) in
      rw (letter-pieces y i, letter-pieces y j)
      (ap join (mask-before r s (group-masked y i ∙ sym (group-masked y j)) going (pieces rd (fronted x)) i.reached))

  pub alike-veil : {a b : List ℕ} → Alike rd a b → veil rd a ≡ veil rd b
  alike-veil (same a) = refl
  alike-veil (other x g h y i j k) = other-inside x g h y i j ∙ alike-veil k
