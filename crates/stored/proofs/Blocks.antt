-- The blocks of a list, step by step.
--     blocks-next, -over         a block and those behind it; none are left
--     over-some, -none           bytes are left over, or none are
--     stored_is, -not            the whole list, by its count
-- Assumes nothing.
use mathlib.Core.Path.{◌≡◌, refl}
use mathlib.Core.List.{List, [], ◌∷◌}
use Prim.Native.Nat.{ℕ, suc, ◌-◌, ◌≤◌, ◌<◌}
use native.Mathlib.Omega.{arith}
use lib.ListN.{length, take, drop}
use Rattle.answers.specs.declared.Why.TheVariants.{StoredLong}
use Rattle.answers.specs.Answers.{refusal}
use Rattle.rooms.specs.Streams.{end, stop}
use Rattle.sevens.specs.declared.Numeral.{Numeral}
use Rattle.answers.specs.declared.Why.{Why}
use Rattle.std.specs.Prelude.{Ok, Err}
use Rattle.sevens.specs.Sevens.{number_of}
use Rattle.blocks.specs.Pages.{Last, none}
use Rattle.stored.specs.Entries.{entry}
use Rattle.stored.proofs.Entries.{part}
use Rattle.stored.specs.Stored.{over, entered, blocks_from, stored}

pub blocks-next : (n j : ℕ) (l : Last) (t : List ℕ) → n ≡ suc j → blocks_from n l t ≡ entered (entry l t) t (blocks_from j)
unfolding blocks_from
blocks-next n j l t h = rw h refl

pub blocks-over : (n : ℕ) (l : Last) (t : List ℕ) → n ≤ 0 → blocks_from n l t ≡ over t
unfolding blocks_from
blocks-over n l t h = let q : n ≡ 0 = omega arith in rw q

pub over-some : (t : List ℕ) → 0 < length t → over t ≡ stop (refusal StoredLong)
over-some [] h = absurd (omega arith)
over-some (b ∷ t) h = refl

pub over_none : (t : List ℕ) → length t ≤ 0 → over t ≡ end
over_none [] h = refl
over_none (b ∷ t) h = absurd (omega arith)

module _ (s : List ℕ) where
  pub stored_is : {x : Numeral} → number_of s ≡ Ok x → stored s ≡ blocks_from x.value none (take (length s - x.length) (drop x.length s))
  unfolding stored
  stored_is {x} e = rw (e, part x.length s)

  pub stored-not : {why : Why} → number_of s ≡ Err why → stored s ≡ stop (refusal why)
  unfolding stored
  stored-not e = rw e
