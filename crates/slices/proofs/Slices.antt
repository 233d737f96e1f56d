-- A source's slices, as the crate cuts it apart: the laws of Cuttings for it.
--     slices-first    the first slice, and the slices of the rest
--     slices-append   two sources one after the other, where the second starts a slice
--     slice-within    the first slice ends within the source
--     joined-slices   the slices one after the other are the source
-- Assumes nothing.
use mathlib.Core.Path.{◌≡◌, refl, ◌∙◌}
use mathlib.Core.List.{List, [], ◌∷◌, ◌++◌}
use mathlib.Core.Bool.{true}
use Prim.Native.Nat.{ℕ, suc, ◌-◌, ◌≤◌, ◌<◌}
use native.Mathlib.Nat.{not-suc-le-zero}
use native.Mathlib.Omega.{arith}
use lib.ListN.{length, get_or, take, drop}
use Rattle.slices.specs.Slices.{starts_slice, split, slices, up_to, slice_length}
use Rattle.slices.proofs.Cuttings.{Cutting}
use Rattle.slices.proofs.Cuttings as cuttings
unfoldable pub use Rattle.slices.proofs.Cuttings.{joined}

-- the last byte of a list, or what stands before it
unfoldable pub last_byte : ℕ → List ℕ → ℕ
last_byte before [] = before
last_byte before (b ∷ s) = last_byte b s

pub last_byte-at : (before : ℕ) (s : List ℕ) → 0 < length s → last_byte before s ≡ get_or s (length s - 1) 0
unfolding last_byte
last_byte-at before [] h = absurd (not-suc-le-zero h)
last_byte-at before (b ∷ []) h = refl
last_byte-at before (b ∷ c ∷ s) h =
    let y : suc (length s) - 1 ≡ length s = omega arith in
    let z : suc (suc (length s)) - 1 ≡ suc (length s) = omega arith in
    last_byte-at b (c ∷ s) (omega arith) ∙ rw (y, z)

-- a byte must know the byte before it
crate : Cutting ℕ
unfolding last_byte split slices up_to slice_length
crate = record {
  starts = starts_slice;
  next = λ a b. b;
  fresh = 32;
  again = λ a b e. refl;
  after = last_byte;
  after_none = λ a. refl;
  after_more = λ a b s. refl;
  split = split;
  split-none = λ a. refl;
  split-more = λ a b s. refl;
  all = slices;
  all_none = refl;
  all_more = λ b s. refl;
  up_to = up_to;
  up_to-none = λ a. refl;
  up_to-more = λ a b s. refl;
  size = slice_length;
  size_none = refl;
  size-more = λ b s. refl;
}

pub slices-first : (s : List ℕ) → 0 < length s → slices s ≡ take (slice_length s) s ∷ slices (drop (slice_length s) s)
unfolding crate slices slice_length
slices-first = cuttings.first crate

pub slice-within : (s : List ℕ) → slice_length s ≤ length s
unfolding crate slice_length
slice-within = cuttings.within crate

-- "a new slice" starts at c, behind x: cutting apart the two by themselves gives the same slices
pub slices-append : (c : ℕ) (y x : List ℕ) → starts_slice (last_byte 32 x) c ≡ true → slices (x ++ (c ∷ y)) ≡ slices x ++ slices (c ∷ y)
unfolding crate slices last_byte
slices-append = cuttings.append crate

pub joined-slices : (s : List ℕ) → joined (slices s) ≡ s
unfolding crate slices
joined-slices = cuttings.joined-all crate
