-- `rest_of` meets its contract: nothing, or the rest.
use mathlib.Core.Path.{sym}
use native.Mathlib.Nat.{le_of_lt}
use mathlib.Core.List.{List}
use Prim.Native.Nat.{ℕ, ◌-◌}
use native.Mathlib.Omega.{arith}
use lib.ListN.{length, drop, length-drop, drop_of_length-le}
use lib.Seq.{take_all}
use Rattle.deeds.proofs.rest_of.Goals as goal

pub returns-then-bytes-owed : goal.returns-then-bytes-owed
returns-then-bytes-owed c = sym (drop_of_length-le c.args.bytes.now {i = c.args.owed} (le_of_lt c.if-bytes-owed.true))

pub returns : goal.returns
returns c =
    let s = c in
    let bytes : List ℕ = s.args.bytes.now in
    let owed : ℕ = s.args.owed in
    take_all (length bytes - owed) (drop owed bytes) (simp length-drop (omega arith))
