-- `sequence_of` meets its contract: each range of the table has its law. Assumes nothing.
use native.Mathlib.Omega.{arith}
use Rattle.utf8.specs.Utf8.{padded}
use Rattle.utf8.proofs.Utf8.{one_byte, two_bytes, three-bytes, four_bytes}
use Rattle.utf8.proofs.sequence_of.Goals as goal

pub returns-then-c-lt128 : goal.returns-then-c-lt128
unfolding padded
returns-then-c-lt128 c = one_byte c.args.c _ (omega arith) (cc)

pub returns-then-c-lt2048 : goal.returns-then-c-lt2048
returns-then-c-lt2048 c = two_bytes c.args.c _ (omega arith) (omega arith) c.two.ensures

pub returns-then-c-lt65536 : goal.returns-then-c-lt65536
returns-then-c-lt65536 c = three-bytes c.args.c _ (omega arith) (omega arith) c.three.ensures

pub returns : goal.returns
returns c = four_bytes c.args.c _ (omega arith) c.four.ensures
