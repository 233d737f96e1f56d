-- `extract` meets its contract: what was read in the extractor's rooms is listed, whole.
use Rattle.extraction.proofs.Extractor.{extract-listed}
use Rattle.extraction.proofs.extract.Goals as goal

pub returns : goal.returns
returns c = extract-listed c.read-answer.ensures c.list_whole.ensures.number c.list_whole.ensures.content
