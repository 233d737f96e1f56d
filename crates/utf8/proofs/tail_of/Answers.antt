-- `tail_of` meets its contract: the masked bits with the mark are a sum. Assumes nothing.
use borrow.Author.Rules.{rules}
use Rattle.utf8.proofs.Bits.{byte_or, byte-and, tail-bits}
use Rattle.utf8.proofs.tail_of.Goals as goal

pub overflow_cast-result : goal.overflow_cast-result
overflow_cast-result c = search (byte_or, byte-and, rules)

pub returns : goal.returns
returns c = tail-bits c.args.x
