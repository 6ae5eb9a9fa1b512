-- The contract follows from its first field.
use mathlib.Core.Path.{◌∙◌}
use Rattle.rules.proofs.Judging.{judges}
use Rattle.packet.proofs.fault.Goals as goal

pub returns-in-Ok : goal.returns-in-Ok
returns-in-Ok c = judges _ _ ((cc) ∙ c.in-Ok.ensures)

pub returns-in-Err : goal.returns-in-Err
returns-in-Err c = judges _ _ ((cc) ∙ c.in-Err.ensures)
