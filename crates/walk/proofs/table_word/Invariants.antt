-- `table_word` meets its contract: the word that the tokens that are left have is that of all.
use Rattle.std.specs.Prelude.{◌≡◌}
use Rattle.std.specs.Slice.Iter.{chunks_exact_rest, chunks_exact_size}
use Rattle.std.specs.Iterator.Adapters.{take_source, take_count}
use Rattle.tokens.specs.Tokens.{token_words}
use Rattle.walk.proofs.Looks.{Seeking}
use Rattle.walk.proofs.table_word.Given as goal

abbrev pub invariant-loop-here : goal.invariant-loop-here
invariant-loop-here l = record {
  size : chunks_exact_size (take_source l.here-iterator) ≡ token_words;
  seek : Seeking l.s l.count (chunks_exact_rest (take_source l.here-iterator)) (take_count l.here-iterator);
}
