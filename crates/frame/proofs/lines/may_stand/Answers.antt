-- `frame::may_stand`: every line of a frame that has no table. Assumes nothing.
use Rattle.std.proofs.Common.{arith}
use Rattle.std.proofs.lemmas.Bool.Decides.{nat_tests}
use Rattle.rules.specs.Systems.{allowed, stands}
use Rattle.frame.proofs.lines.may_stand.Goals as goal

pub returns-in_default : goal.returns-in_default
unfolding allowed stands
returns-in_default c y e = rw e (grind (arith, nat_tests))
