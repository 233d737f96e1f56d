-- `of_writing` meets its contract.
use Rattle.host.proofs.Answers.{write_as}
use Rattle.host.proofs.answer.of_writing.Goals as goal

pub returns : goal.returns
returns c = write_as c.args.outcome c.number_of.ensures c.count_of.ensures
