-- `extent` meets its contract: the tokens that were measured and those that are left make the whole.
use Rattle.std.specs.Prelude.{◌≡◌, ◌+◌}
use Rattle.std.specs.Slice.Iter.{chunks_exact_rest, chunks_exact_size}
use Rattle.std.specs.Iterator.Adapters.{take_source, take_count, enumerate_source, enumerate_count}
use Rattle.tokens.specs.Tokens.{token_words}
use Rattle.walk.proofs.Looks.{Measuring}
use Rattle.walk.proofs.extent.Given as goal

abbrev pub invariant-loop-k : goal.invariant-loop-k
invariant-loop-k l = record {
  size : chunks_exact_size (take_source (enumerate_source l.k-iterator)) ≡ token_words;
  index : enumerate_count l.k-iterator + take_count (enumerate_source l.k-iterator) ≡ l.count;
  measure : Measuring l.s l.count (chunks_exact_rest (take_source (enumerate_source l.k-iterator))) (take_count (enumerate_source l.k-iterator)) l.d;
}
