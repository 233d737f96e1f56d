-- `char_length` meets its contract: the first byte says what is owed, and that is there or not.
use mathlib.Core.Path.{sym, ◌∙◌}
use native.Mathlib.Omega.{arith}
use borrow.Author.Tests.{not-false}
use lib.ListN.{length, length-drop}
use Prim.Native.Nat.{◌+◌, ◌-◌}
use Rattle.wellformed.proofs.Lengths.{owed-few, char-other, char-short, char-all}
use Rattle.wellformed.proofs.char_length.Goals as goal

pub returns-then-not-is_first : goal.returns-then-not-is_first
returns-then-not-is_first c = sym (char-other c.args.s.now c.args.at c.requires _ c.is_first.ensures c.if-not-is_first.true-raw)

pub owed_behind-o-requires : goal.owed_behind-o-requires
owed_behind-o-requires c = sym c.is_first.ensures ∙ not-false _ c.if-not-is_first.false-raw

pub is_paid-requires : goal.is_paid-requires
is_paid-requires c = owed-few _ _ c.owed_behind-o.ensures

pub overflow_add-result : goal.overflow_add-result
overflow_add-result c = let f = owed-few _ _ c.owed_behind-o.ensures in omega (arith, f)

pub returns-then-is_paid : goal.returns-then-is_paid
returns-then-is_paid c = (
  char-all c.args.s.now c.args.at c.requires _ c.is_first.ensures c.if-not-is_first.false-raw _
      c.owed_behind-o.ensures _ (length c.args.s.now - (c.args.at + 1)) c.is_paid.ensures
      (simp length-drop (omega arith)) c.if-is_paid.true,
  omega arith,
)

pub returns : goal.returns
returns c =
    sym (char-short c.args.s.now c.args.at c.requires _ c.is_first.ensures c.if-not-is_first.false-raw _
    c.owed_behind-o.ensures _ (length c.args.s.now - (c.args.at + 1)) c.is_paid.ensures
    (simp length-drop (omega arith)) c.if-is_paid.false)
