-- `list_whole` meets its contract: the page holds any listing of these rooms.
use borrow.Author.Rules.{rules}
use Rattle.extraction.proofs.Extractor.{list-fits}
use Rattle.extraction.proofs.list_whole.Goals as goal

pub returns : goal.returns
returns c = record { number = c.list.ensures.number; content = list-fits _ _ _ _ _ _ _ (search rules) (search rules) (search rules) (search rules) (search rules) (search rules) c.list.ensures.content }
