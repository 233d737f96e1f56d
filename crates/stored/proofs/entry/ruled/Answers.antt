-- `ruled` meets its contract: the rules in their order.
use Rattle.fields.specs.Fields.{last_of}
use Rattle.stored.proofs.Branches.{ruled-field, ruled-short, ruled-is, ruled-bytes}
use Rattle.stored.proofs.entry.ruled.Goals as goal

pub returns-then-not-in_range-n : goal.returns-then-not-in_range-n
returns-then-not-in_range-n c =
    let a = c.args in
    ruled-field (last_of a.before) a.s a.n a.m a.t.now
    c.in_range.ensures c.follows.ensures c.if-not-in_range-n.true-raw c.of.ensures

pub returns-then-t-n : goal.returns-then-t-n
returns-then-t-n c =
    let a = c.args in
    ruled-short (last_of a.before) a.s a.n a.m a.t.now
    c.in_range.ensures c.follows.ensures c.if-not-in_range-n.false-raw c.if-t-n.true c.of-then-t-n.ensures

pub returns-then-is_utf8 : goal.returns-then-is_utf8
returns-then-is_utf8 c =
    let a = c.args in
    ruled-is (last_of a.before) a.s a.n a.m a.t.now
    c.in_range.ensures c.follows.ensures c.if-not-in_range-n.false-raw c.if-t-n.false c.is_utf8.ensures c.if-is_utf8.true

pub returns : goal.returns
returns c =
    let a = c.args in
    ruled-bytes (last_of a.before) a.s a.n a.m a.t.now
    c.in_range.ensures c.follows.ensures c.if-not-in_range-n.false-raw c.if-t-n.false c.is_utf8.ensures c.if-is_utf8.false c.of-2.ensures
