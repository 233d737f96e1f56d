-- The records left have an indent just if all have.
use Rattle.std.proofs.Common.{◌≡◌, ◌/◌, length}
use Rattle.std.specs.Slice.Iter.{chunks_exact_rest, chunks_exact_size}
use Rattle.blocks.specs.Pages.{block_words}
use Rattle.storing.specs.Storing.{indented}
use Rattle.storing.proofs.has_indent.Given as goal

abbrev pub invariant-loop-words : goal.invariant-loop-words
invariant-loop-words l = record {
  size : chunks_exact_size l.words-iterator ≡ block_words;
  left : indented (length (chunks_exact_rest l.words-iterator) / block_words) (chunks_exact_rest l.words-iterator) ≡ indented (length l.blocks / block_words) l.blocks;
}
