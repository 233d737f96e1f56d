-- Cutting the veil gives the masked pieces, and the walk over it makes the steps of the letter, but for places.
--     pieces-veil   the pieces of the veil
--     walk_same     two letters with one veil
-- Assumes nothing.
use mathlib.Core.Path.{◌≡◌, refl, sym, ap, ◌∙◌}
use mathlib.Core.List.{List, [], ◌∷◌, ◌++◌}
use mathlib.Core.Bool.{Bool, true, false, cond}
use Prim.Native.Nat.{ℕ, zero, suc}
use Rattle.readings.specs.declared.Reading.{Reading}
use Rattle.readings.specs.declared.Reading.TheVariants.{Plain, Paragraphs, Standard}
use Rattle.rooms.specs.Streams.{items}
use Rattle.cutter.specs.Cutting.{trimmed, token_stream}
use Rattle.walk.specs.declared.Aim.{Aim}
use Rattle.walk.specs.declared.Aim.TheVariants.{Nothing, Hide, Fonts, Colours}
use Rattle.walk.specs.Walk.{aim, walk}
use Rattle.veil.specs.Veil.{Side, up, down, flat, Mode, going, passing, reading, next, pieces, join, shown, side_of, cover}
use Rattle.veil.specs.Veil.{mask, veil}
use Rattle.veil.proofs.Bare.{steps, bare_steps, bare-walk, bare-steps}
use Rattle.veil.proofs.Cuttings.{Cutting, crate, standard}
use Rattle.veil.proofs.Pieces.{fits, Cut, none, mark, run, pieces_of, recut, cut-pieces}
use Rattle.veil.proofs.Shows.{whole, stream-shows}
use Rattle.veil.proofs.Walks.{Sorted, none as sorted_none, opens, closes, stays, sorted, Seen, goes, reads, run-side}
use Rattle.veil.proofs.Walks.{walk-mask}

module _ (rd : Reading) {Q : Type 0} (k : Cutting Q) where
  -- where a run ends depends on the next byte alone
  fits_head : (q : Q) (t : List ℕ) (c : ℕ) (r s : List ℕ) → fits k q t (c ∷ r) ≡ fits k q t (c ∷ s)
  unfolding fits
  fits_head q [] c r s = refl
  fits_head q (d ∷ t) c r s = ap (λ (x : Bool). cond (k.starts q d) false x) (fits_head (k.next q d) t c r s)

  module _ (q : Q) (t : List ℕ) where
    fits-cover : {m : Mode} → Seen m → (s : Side) (a : Aim) (c : ℕ) (u : List ℕ) (r : List (List ℕ)) (v : List ℕ)
        → fits k q t (join (cover m s a (c ∷ u) ++ r)) ≡ fits k q t (c ∷ v)
    unfolding join
    fits-cover goes up Nothing c u r v = fits_head q t c _ v
    fits-cover goes up Hide c u r v = fits_head q t c _ v
    fits-cover goes up (Fonts l) c u r v = fits_head q t c _ v
    fits-cover goes up (Colours l) c u r v = fits_head q t c _ v
    fits-cover goes down a c u r v = fits_head q t c _ v
    fits-cover goes flat a c u r v = fits_head q t c _ v
    fits-cover reads s a c u r v = fits_head q t c _ v

    -- so the mask moves no end
    fits_mask : {ps : List (List ℕ)} {m : Mode} → Cut k ps → Seen m → fits k q t (join (mask rd m ps)) ≡ fits k q t (join ps)
    unfolding join mask
    fits_mask none v = refl
    fits_mask {m = m} (mark {b = c} {ps} e h) v = fits-cover v (side_of (c ∷ [])) (aim (shown rd ps)) c [] (mask rd (next m (side_of (c ∷ [])) (aim (shown rd ps))) ps) (join ps)
    fits_mask {m = m} (run {b = c} {t = u} {ps} e f h) v = fits-cover v (side_of (c ∷ u)) (aim (shown rd ps)) c u (mask rd (next m (side_of (c ∷ u)) (aim (shown rd ps))) ps) (u ++ join ps)

  -- `\*` ends at the closing bracket, or at the end
  abbrev after_mute : Q
  after_mute = k.next (k.next k.fresh 92) 42

  fits-closed : {ps : List (List ℕ)} → Sorted rd ps → (d : ℕ) → fits k after_mute [] (join (mask rd (passing d) ps)) ≡ true
  unfolding fits join mask
  fits-closed sorted_none d = refl
  fits-closed (opens h) d = fits-closed h (suc d)
  fits-closed (closes h) zero = k.closes
  fits-closed (closes h) (suc d) = fits-closed h d
  fits-closed (stays e l h) d = rw e (fits-closed h d)

  fits-mute : {ps : List (List ℕ)} → Sorted rd ps → (d : ℕ) → fits k (k.next k.fresh 92) (42 ∷ []) (join (mask rd (passing d) ps)) ≡ true
  unfolding fits
  fits-mute h d = rw k.mutes (fits-closed h d)

  cut-mask : {ps : List (List ℕ)} → Cut k ps → (m : Mode) → Cut k (mask rd m ps)
  unfolding mask
  cut-mask none m = none
  cut-mask (mark {b} {ps} e h) m = go m (side_of (b ∷ [])) (aim (shown rd ps)) (cut-mask h)
    where
      go : (m : Mode) (s : Side) (a : Aim) → ((n : Mode) → Cut k (mask rd n ps)) → Cut k (cover m s a (b ∷ []) ++ mask rd (next m s a) ps)
      go going up Nothing ih = mark e (ih going)
      go going up Hide ih =
          mark e (run {b = 92} {t = 42 ∷ []} {ps = mask rd (passing 0) ps} refl (fits-mute (sorted rd k h) 0) (ih (passing 0)))
      go going up (Fonts l) ih = mark e (ih (reading 0))
      go going up (Colours l) ih = mark e (ih (reading 0))
      go going down a ih = mark e (ih going)
      go going flat a ih = mark e (ih going)
      go (passing d) up a ih = ih (passing (suc d))
      go (passing zero) down a ih = mark e (ih going)
      go (passing (suc d)) down a ih = ih (passing d)
      go (passing d) flat a ih = ih (passing d)
      go (reading d) up a ih = mark e (ih (reading (suc d)))
      go (reading zero) down a ih = mark e (ih going)
      go (reading (suc d)) down a ih = mark e (ih (reading d))
      go (reading d) flat a ih = mark e (ih (reading d))
  cut-mask (run {b} {t} {ps} e f h) going =
      rw (run-side b t e) (run {b = b} {t = t} {ps = mask rd going ps} e (fits_mask (k.next k.fresh b) t h goes ∙ f) (cut-mask h going))
  cut-mask (run {b} {t} {ps} e f h) (passing d) = rw (run-side b t e) (cut-mask h (passing d))
  cut-mask (run {b} {t} {ps} e f h) (reading d) =
      rw (run-side b t e) (run {b = b} {t = t} {ps = mask rd (reading d) ps} e (fits_mask (k.next k.fresh b) t h (reads {d = d}) ∙ f) (cut-mask h (reading d)))

  pieces-mask : (s : List ℕ) → pieces_of k (join (mask rd going (pieces_of k s))) ≡ mask rd going (pieces_of k s)
  pieces-mask s = recut k (cut-mask (cut-pieces k s) going)

-- cutting the veil gives the masked pieces
pub pieces-veil : (rd : Reading) (src : List ℕ) → pieces rd (veil rd src) ≡ mask rd going (pieces rd (trimmed src))
unfolding veil pieces crate standard
pieces-veil Plain src = pieces-mask Plain crate (trimmed src)
pieces-veil Paragraphs src = pieces-mask Paragraphs crate (trimmed src)
pieces-veil Standard src = pieces-mask Standard standard (trimmed src)

sorted-pieces : (rd : Reading) (s : List ℕ) → Sorted rd (pieces rd s)
unfolding pieces crate standard
sorted-pieces Plain s = sorted Plain crate (cut-pieces crate s)
sorted-pieces Paragraphs s = sorted Paragraphs crate (cut-pieces crate s)
sorted-pieces Standard s = sorted Standard standard (cut-pieces standard s)

module _ (rd : Reading) where
  -- the steps of a letter that is cut without refusal are those of its veil, but for places
  walk-veil : (src : List ℕ) → whole (token_stream rd src) ≡ true
      → bare_steps (walk (items (token_stream rd src))) ≡ bare_steps (steps (shown rd (pieces rd (veil rd src))))
  walk-veil src w =
      let ps : List (List ℕ) = pieces rd (trimmed src) in
      bare-walk (items (token_stream rd src))
      ∙ ap steps (stream-shows rd src w)
      ∙ sym (bare-steps (shown rd ps))
      ∙ ap bare_steps (sym (walk-mask rd (sorted-pieces rd (trimmed src))))
      ∙ ap (λ (qs : List (List ℕ)). bare_steps (steps (shown rd qs))) (sym (pieces-veil rd src))

  -- two letters with one veil
  pub walk_same : (a b : List ℕ) → whole (token_stream rd a) ≡ true → whole (token_stream rd b) ≡ true → veil rd a ≡ veil rd b
      → bare_steps (walk (items (token_stream rd a))) ≡ bare_steps (walk (items (token_stream rd b)))
  walk_same a b u v e = walk-veil a u ∙ ap (λ (s : List ℕ). bare_steps (steps (shown rd (pieces rd s)))) e ∙ sym (walk-veil b v)
