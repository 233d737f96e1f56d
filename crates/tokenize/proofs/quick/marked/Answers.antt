-- `marked` meets its contract: the mark's token, and then what follows it. Plain text is what cutting it again gives. Assumes nothing.
use mathlib.Core.Path.{refl}
use native.Mathlib.Omega.{arith}
use Rattle.rooms.proofs.Rooms.{wrote_none, wrote_then}
use Rattle.tokens.specs.Tokens.{shown_layout}
use Rattle.tokenize.proofs.Rules.{tokens-alone}
use Rattle.tokenize.proofs.quick.marked.Goals as goal

pub returns-then-s-eq1 : goal.returns-then-s-eq1
returns-then-s-eq1 c = wrote_then shown_layout _ (tokens-alone _ _ _ (λ z. omega (arith, z, c.requires)) _ refl c.requires.starts.1 c.if-s-eq1.true) c.mark.ensures refl (wrote_none shown_layout refl)
