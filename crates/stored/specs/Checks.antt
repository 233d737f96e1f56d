-- 01, Stored form: a stored list, checked. Assumes nothing: this is a definition.
use Rattle.std.specs.Prelude.{ℕ, ◌≡◌, List, length}
use Rattle.rooms.specs.Streams.{answer}
use Rattle.blocks.specs.Pages.{none, roomy}
use Rattle.stored.specs.Stored.{stored}
use Rattle.std.specs.Prelude.{Result}
use Rattle.answers.specs.declared.Refusal.{Refusal}

-- "The node host .. gets its refusal number, rooms counted as ample.": a block room that holds a block for each byte of the
-- list, and the largest text room that counts
unfoldable pub checked : List ℕ → Result ℕ Refusal
checked s = answer 0 (roomy (length s) 2147483647 none (stored s))

-- What `check` promises: the one answer.
abbrev pub Checks : List ℕ → Result ℕ Refusal → Type 0
Checks list r = r ≡ checked list
