-- `cut_slice` meets its contract: by whether the reading is the specification's.
use Rattle.cutter.proofs.ByReading.{slice-standard, slice-other}
use Rattle.cutter.proofs.cut_slice.Goals as goal

pub returns-then-is_standard : goal.returns-then-is_standard
returns-then-is_standard c = slice-standard _ _ c.args.reading c.is_standard.ensures c.if-is_standard.true c.slice_tokens.ensures

pub returns : goal.returns
returns c = slice-other _ _ c.args.reading c.is_standard.ensures c.if-is_standard.false c.slice_tokens-2.ensures
