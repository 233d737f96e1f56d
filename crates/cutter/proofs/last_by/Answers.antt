-- `last_by` meets its contract: by whether the reading is the specification's.
use Rattle.cutter.proofs.ByReading.{last-standard, last-other}
use Rattle.cutter.proofs.last_by.Goals as goal

pub returns-then-is_standard : goal.returns-then-is_standard
returns-then-is_standard c = last-standard _ _ c.args.reading c.is_standard.ensures c.if-is_standard.true c.standard_last.ensures

pub returns : goal.returns
returns c = last-other _ _ c.args.reading c.is_standard.ensures c.if-is_standard.false c.last.ensures
