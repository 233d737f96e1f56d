-- `four` meets its contract: the first byte's bits lie below its mark, and each byte behind it is a tail. Assumes nothing.
use borrow.Author.Rules.{rules}
use native.Mathlib.Omega.{arith}
use Prim.Native.Nat.{◌/◌, ◌<◌}
use Rattle.utf8.specs.Utf8.{padded}
use lib.Bits.{or_shifted_r}
use Rattle.utf8.proofs.Bits.{byte_or}
use Rattle.utf8.proofs.four.Goals as goal

pub overflow_cast-a : goal.overflow_cast-a
overflow_cast-a c = let h : c.args.c / 262144 < 256 = omega arith in search (byte_or, rules)

pub returns : goal.returns
unfolding padded
returns c = cc (or_shifted_r 15 4 (c.args.c / 262144) (omega arith))
