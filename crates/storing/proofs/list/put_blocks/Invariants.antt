-- Who writes the blocks of the records left has written all.
use Rattle.std.proofs.Common.{◌≡◌}
use Rattle.std.specs.Slice.Iter.{chunks_exact_rest, chunks_exact_size}
use Rattle.blocks.specs.Pages.{block_words}
use Rattle.storing.proofs.Rows.{Rows}
use Rattle.storing.proofs.list.put_blocks.Given as goal

abbrev pub invariant-loop-words : goal.invariant-loop-words
invariant-loop-words l = record {
  size : chunks_exact_size l.words-iterator ≡ block_words;
  rows : Rows l.blocks l.text l.n l.initial.room l.room (chunks_exact_rest l.words-iterator) l.before l.p l.at;
}
