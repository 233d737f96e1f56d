-- `start` meets its contract: no token, another one, or an opening bracket.
use native.Mathlib.Omega.{arith}
use Rattle.parser.proofs.Parts.{start_none, start-other, start-opening}
use Rattle.parser.proofs.start.Goals as goal

pub returns-then-n-eq0 : goal.returns-then-n-eq0
returns-then-n-eq0 c src = start_none src _ _ c.if-n-eq0.true c.of.ensures

pub is_opening-requires : goal.is_opening-requires
is_opening-requires c = omega (arith, c.requires, c.if-n-eq0.false)

pub slice_at-requires : goal.slice_at-requires
slice_at-requires c = omega (arith, c.requires, c.if-n-eq0.false)

pub returns-then-not-is_opening : goal.returns-then-not-is_opening
returns-then-not-is_opening c src = start-other src _ _ c.if-n-eq0.false c.is_opening.ensures c.if-not-is_opening.true-raw c.slice_at.ensures c.at.ensures

pub returns : goal.returns
returns c src = start-opening src _ _ c.if-n-eq0.false c.is_opening.ensures c.if-not-is_opening.false-raw
