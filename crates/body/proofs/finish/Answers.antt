-- `finish` meets its contract: no room for what the run owes, or the page.
use mathlib.Core.Path.{◌∙◌, ap}
use native.Mathlib.Omega.{arith}
use Rattle.blocks.specs.Laying.{off}
use Rattle.body.proofs.finish.Goals as goal

pub returns-in-Ok : goal.returns-in-Ok
returns-in-Ok c = record { laid = rw c.in-Ok.is at c.end_run.ensures.laid; still = c.end_run.ensures.ready }

pub returns-in-Err : goal.returns-in-Err
returns-in-Err c = record { laid = ap off c.of.ensures ∙ (rw c.in-Err.is at c.end_run.ensures.laid); still = omega arith }
