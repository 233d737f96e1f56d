-- `word_record` meets its contract: the word's number is below 49, or it is unknown.
use Rattle.controls.proofs.Words.{record-known, record-unknown}
use Rattle.controls.proofs.word_record.Goals as goal

pub returns-then-w-lt-UNKNOWN : goal.returns-then-w-lt-UNKNOWN
returns-then-w-lt-UNKNOWN c = record-known _ _ _ _ c.number_of-w.ensures.number _ c.if-w-lt-UNKNOWN.true c.word.ensures

pub returns : goal.returns
returns c = record-unknown _ _ _ _ c.number_of-w.ensures.number _ c.if-w-lt-UNKNOWN.false c.unknown.ensures
