-- `of_cut` meets its contract.
use Rattle.host.proofs.Answers.{cut_as}
use Rattle.host.proofs.answer.of_cut.Goals as goal

pub returns : goal.returns
returns c = cut_as c.args.outcome c.number_of.ensures c.place_of.ensures c.count_of.ensures
