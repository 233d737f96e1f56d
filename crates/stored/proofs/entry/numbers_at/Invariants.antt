-- The numbers that are left, behind those in the words, are all of them.
use Rattle.std.proofs.Common.{length}
use Rattle.stored.proofs.Reading.{Reading}
use Rattle.stored.proofs.entry.numbers_at.Given as goal

abbrev pub invariant-loop-word : goal.invariant-loop-word
invariant-loop-word l = Reading l.s (length l.initial.words) l.word-index l.t l.words
