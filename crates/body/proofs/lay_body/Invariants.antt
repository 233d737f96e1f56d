-- `lay_body` meets its contract. The invariant is `Loop`: what is left, from the present states, run and page, leads where the whole
-- leads. The measure is how many tokens are left.
use Rattle.body.proofs.Turns.{Loop}
use Rattle.body.proofs.lay_body.Given as goal

abbrev pub invariant-loop-n : goal.invariant-loop-n
invariant-loop-n l =
    Loop l.reading l.source l.initial.blocks l.initial.text l.tokens l.count l.blocks l.text l.states l.depth l.run l.owed l.page l.t l.n

abbrev pub decreases-loop-n : goal.decreases-loop-n
decreases-loop-n l = l.n
