-- `frame::lines_of`: of a frame that has no table. Assumes nothing.
use Rattle.std.proofs.Common.{arith}
use Rattle.std.proofs.lemmas.Bool.Decides.{nat_tests}
use Rattle.frame.specs.Lines.{lines_of}
use Rattle.frame.proofs.lines.lines_of.Goals as goal

pub returns-in_default : goal.returns-in_default
unfolding lines_of
returns-in_default c = grind (arith, nat_tests)
