-- `character` meets its contract: by the range of the byte.
use native.Mathlib.Omega.{arith}
use borrow.Author.Tests.{lt-ltb, le-ltb}
use Rattle.windows.specs.Windows.{windows1252}
use Rattle.windows.proofs.character.Goals as goal

pub returns-in-0-to-127 : goal.returns-in-0-to-127
unfolding windows1252
returns-in-0-to-127 c = rw (lt-ltb c.args.b 128 (omega arith))

pub returns-in-128-to-159 : goal.returns-in-128-to-159
unfolding windows1252
returns-in-128-to-159 c =
    rw (le-ltb c.args.b 128 (omega arith), le-ltb 255 c.args.b (omega arith), le-ltb 159 c.args.b (omega arith), ← c.own_characters-own.ensures)

pub returns-in-160-to-255 : goal.returns-in-160-to-255
unfolding windows1252
returns-in-160-to-255 c = rw (le-ltb c.args.b 128 (omega arith), le-ltb 255 c.args.b (omega arith), lt-ltb 159 c.args.b (omega arith))

pub returns-in_default : goal.returns-in_default
unfolding windows1252
returns-in_default c = rw (le-ltb c.args.b 128 (omega arith), lt-ltb 255 c.args.b (omega arith))
