-- `records` meets its contract. The invariant: whoever puts the lines of the records that are left has put all of them.
use Prim.Native.Nat.{◌≤◌}
use mathlib.Core.Path.{◌≡◌}
use lib.ListN.{length}
use Rattle.std.specs.Iterator.Adapters.{take_source, take_count}
use Rattle.std.specs.Slice.Iter.{chunks_exact_rest, chunks_exact_size}
use Rattle.lines.specs.Lines.{lines}
use Rattle.lines.proofs.Pages.{Left}
use Rattle.lines.proofs.records.Given as goal

abbrev pub invariant-loop-record : goal.invariant-loop-record
invariant-loop-record l =
    record {
      width : chunks_exact_size (take_source l.record-iterator) ≡ l.width;
      within : l.end ≤ length l.page;
      same : length l.initial.page ≡ length l.page;
      left : Left l.initial.page l.at (lines l.width l.count l.room) l.page l.end (lines l.width (take_count l.record-iterator) (chunks_exact_rest (take_source l.record-iterator)));
    }
