-- `Names::new` keeps the invariant: the constant is what the four rows compute to.
use mathlib.Core.Path.{refl}
use mathlib.Core.List.{flatten}
use Rattle.names.specs.Names.{same_bytes, place_in, word_number, run, bounds_from, first_with, behind, links, heads, rows}
use Rattle.names.proofs.Names.new.Goals as goal

pub invariant_of-result : goal.invariant_of-result
unfolding flatten same_bytes place_in word_number run bounds_from first_with behind links heads rows
invariant_of-result c = record { is_table = refl }
