-- `store` meets its contract: the record of the key is written over; or there is none, and no room; or the later ones move on.
use Rattle.std.proofs.Common.{◌∙◌, arith}
use Rattle.fonts.proofs.Shifts.{moved-on}
use Rattle.fonts.proofs.Inserts.{store-over, store-full, store-new}
use Rattle.fonts.proofs.rows.store.Goals as goal

pub returns-then-stands : goal.returns-then-stands
returns-then-stands c = store-over c.requires c.rank-r.ensures c.stands.ensures c.if-stands.true _ c.put.ensures

pub returns-then-limit-n : goal.returns-then-limit-n
returns-then-limit-n c = store-full c.requires c.rank-r.ensures c.stands.ensures c.if-stands.false c.if-limit-n.true

pub returns : goal.returns
returns c = store-new c.requires c.rank-r.ensures c.stands.ensures c.if-stands.false c.if-limit-n.false _ _ (c.copy_within.ensures.after ∙ moved-on _ _ _ (omega (arith, c.rank-r.ensures.within))) c.put-2.ensures
