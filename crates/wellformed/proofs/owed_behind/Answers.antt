-- `owed_behind` meets its contract: each range of the table has its law.
use mathlib.Core.Path.{◌∙◌, sym}
use native.Mathlib.Omega.{arith}
use Rattle.wellformed.specs.Owed.{owed}
use Rattle.wellformed.proofs.Firsts.{first-low, behind-1, behind-2, behind-3, behind-4}
use Rattle.wellformed.proofs.Firsts.{behind-5, behind-6, behind-7, behind-8, behind-9}
use Rattle.wellformed.proofs.owed_behind.Goals as goal

pub returns-in-0-to-127 : goal.returns-in-0-to-127
unfolding owed
returns-in-0-to-127 c = c.owe-in-0-to-127.ensures ∙ sym (behind-1 _ (omega arith))

pub returns-in-128-to-223 : goal.returns-in-128-to-223
unfolding owed
returns-in-128-to-223 c = c.owe-in-128-to-223.ensures ∙ sym (behind-2 _ (first-low _ c.requires (omega arith)) (omega arith))

pub returns-in-224 : goal.returns-in-224
unfolding owed
returns-in-224 c = c.owe.ensures ∙ sym (behind-3 _ (omega arith) (omega arith))

pub returns-in-225-to-236 : goal.returns-in-225-to-236
unfolding owed
returns-in-225-to-236 c = c.owe-in-225-to-236.ensures ∙ sym (behind-4 _ (omega arith) (omega arith))

pub returns-in-237 : goal.returns-in-237
unfolding owed
returns-in-237 c = c.owe-in-237.ensures ∙ sym (behind-5 _ (omega arith) (omega arith))

pub returns-in-238-to-239 : goal.returns-in-238-to-239
unfolding owed
returns-in-238-to-239 c = c.owe-in-238-to-239.ensures ∙ sym (behind-6 _ (omega arith) (omega arith))

pub returns-in-240 : goal.returns-in-240
unfolding owed
returns-in-240 c = c.owe-in-240.ensures ∙ sym (behind-7 _ (omega arith) (omega arith))

pub returns-in-241-to-243 : goal.returns-in-241-to-243
unfolding owed
returns-in-241-to-243 c = c.owe-in-241-to-243.ensures ∙ sym (behind-8 _ (omega arith) (omega arith))

pub returns-in_default : goal.returns-in_default
unfolding owed
returns-in_default c = c.owe-in_default.ensures ∙ sym (behind-9 _ (omega arith))
