-- `read_colours` meets its contract. The invariant: what is left, from the colours in the room and the current one, gives the
-- whole result.
use Rattle.std.specs.Prelude.{◌≡◌}
use Rattle.std.specs.Slice.Iter.{chunks_exact_rest, chunks_exact_size}
use Rattle.std.specs.Iterator.Adapters.{take_source, take_count}
use Rattle.tokens.specs.Tokens.{token_words}
use Rattle.colours.proofs.Steps.{Loop}
use Rattle.colours.proofs.read_colours.Given as goal

abbrev pub invariant-loop-here : goal.invariant-loop-here
invariant-loop-here l = record {
  size : chunks_exact_size (take_source l.here-iterator) ≡ token_words;
  loop : Loop l.tokens l.count l.initial.room l.limit l.room (chunks_exact_rest (take_source l.here-iterator)) (take_count l.here-iterator) l.colour l.stored;
}
