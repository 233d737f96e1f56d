-- `number_of` meets its contract. The invariant: what is found on the chain from a row on is the word's number. The measure is
-- the length of that chain.
use lib.ListN.{length}
use Rattle.names.proofs.Contents.{chain}
use Rattle.names.proofs.Chains.{Ahead}
use Rattle.names.proofs.Names.number_of.Given as goal

abbrev pub invariant-loop-row : goal.invariant-loop-row
invariant-loop-row l = Ahead l.w l.row

abbrev pub decreases-loop-row : goal.decreases-loop-row
decreases-loop-row l = length (chain l.row)
