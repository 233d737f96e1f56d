-- `behind` meets its contract. Assumes nothing.
use native.Mathlib.Omega.{arith}
use lib.ListN.{length-drop}
use Rattle.rooms.proofs.Rooms.{wrote_none}
use Rattle.tokens.specs.Tokens.{shown_layout}
use Rattle.tokenize.proofs.Rules.{part-drop, tail_none}
use Rattle.tokenize.proofs.quick.behind.Goals as goal

pub returns-then-k-s : goal.returns-then-k-s
returns-then-k-s c = wrote_none shown_layout (tail_none _ _ (simp length-drop (omega arith)))

pub returns : goal.returns
returns c = rw (← part-drop _ _) c.word_tail.ensures
