-- `group_length` meets its contract: nothing behind the bracket, nothing that the walk looks for, or by what it aims at.
use native.Mathlib.Omega.{arith}
use Rattle.body.proofs.Groups.{group-end, group-plain, group-none, group-hidden, group-fonts, group-colours}
use Rattle.body.proofs.group.group_length.Goals as goal

pub returns-then-left-eq0 : goal.returns-then-left-eq0
returns-then-left-eq0 c = ((λ src. group-end src _ _ c.if-left-eq0.true), omega arith)

pub returns-then-rest-number : goal.returns-then-rest-number
returns-then-rest-number c = ((λ src. group-plain src _ _ c.if-left-eq0.false (rw c.number.ensures at c.if-rest-number.true)), omega arith)

pub returns-in-Nothing : goal.returns-in-Nothing
returns-in-Nothing c = ((λ src. group-none _ (c.aim_of-a.ensures src) c.in-Nothing.is), omega arith)

pub returns-in-Hide : goal.returns-in-Hide
returns-in-Hide c = ((λ src. group-hidden _ (c.aim_of-a.ensures src) c.in-Hide.is (c.extent.ensures.0 src)), c.extent.ensures.1)

pub returns-in-Fonts : goal.returns-in-Fonts
returns-in-Fonts c = ((λ src. group-fonts _ (c.aim_of-a.ensures src) c.in-Fonts.is (c.extent-in-Fonts.ensures.0 src)), c.extent-in-Fonts.ensures.1)

pub returns-in-Colours : goal.returns-in-Colours
returns-in-Colours c = ((λ src. group-colours _ (c.aim_of-a.ensures src) c.in-Colours.is (c.extent-in-Colours.ensures.0 src)), c.extent-in-Colours.ensures.1)
