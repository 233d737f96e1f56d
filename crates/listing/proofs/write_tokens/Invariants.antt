-- `write_tokens` ends. The invariant: what is written and the lines that are left are the lines of all tokens.
use mathlib.Core.Path.{◌≡◌}
use Rattle.std.specs.Slice.Iter.{chunks_rest, chunks_size}
use Rattle.listing.proofs.Parts.{Written, part_words}
use Rattle.listing.proofs.write_tokens.Given as goal

abbrev pub invariant-loop-part : goal.invariant-loop-part
invariant-loop-part g l =
    record {
      size : chunks_size l.part-iterator ≡ part_words;
      lines : Written l.count l.room l.left (chunks_rest l.part-iterator);
    }
