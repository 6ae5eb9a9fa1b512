-- `frame::Raster720`: the runs of lines that are available, and of those the ones that are not excluded. Assumes nothing.
use Rattle.std.proofs.Common.{arith}
use Rattle.std.proofs.lemmas.Bool.Decides.{nat_tests}
use Rattle.rules.specs.Systems.{allowed, stands}
use Rattle.frame.proofs.lines.Raster720Raster.is_allowed.Goals as goal

pub returns-then-matches : goal.returns-then-matches
unfolding allowed stands
returns-then-matches c y e = rw e (grind (arith, nat_tests))

pub returns-else-matches : goal.returns-else-matches
unfolding allowed stands
returns-else-matches c y e = rw e (grind (arith, nat_tests))
