-- `table_limit` meets its contract: the smaller of two numbers is a choice between them.
use Rattle.std.proofs.Common.{◌≡◌, ℕ, Bool, true, false, cond, ltb, refl, ◌∙◌, arith, ltb-true, ltb-false}
use Rattle.std.specs.Prelude.{min}
use Rattle.rooms.specs.Rooms.{table_limit, capacity}
use Rattle.rooms.proofs.table_limit.Goals as goal

smaller : (k : ℕ) → min k 256 ≡ cond (ltb k 256) k 256
smaller k = go (ltb k 256) refl
  where
    go : (t : Bool) → ltb k 256 ≡ t → min k 256 ≡ cond t k 256
    go true e = omega (arith, ltb-true k 256 e)
    go false e = omega (arith, ltb-false k 256 e)

limit : (width n : ℕ) → min (capacity width n) 256 ≡ table_limit width n
unfolding table_limit
limit width n = smaller (capacity width n)

pub returns : goal.returns
returns c = c.min.ensures ∙ limit c.args.width c.args.n
