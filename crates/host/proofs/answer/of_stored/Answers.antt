-- `of_stored` meets its contract.
use Rattle.host.proofs.Answers.{stored-as}
use Rattle.host.proofs.answer.of_stored.Goals as goal

pub returns : goal.returns
returns c = stored-as c.args.answer c.number_of.ensures c.counts_of-counts.ensures
