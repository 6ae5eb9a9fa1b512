-- The limit on packets, and the smaller of two places.
use Rattle.std.proofs.Common.{arith}
use Rattle.rules.specs.Sheet.{limit}
use Rattle.danc.proofs.stop_of.Goals as goal

pub overflow_sub-run : goal.overflow_sub-run
unfolding limit
overflow_sub-run c = omega (arith, c.requires.packet)

pub returns : goal.returns
unfolding limit
returns c = record { inside = omega arith; few = omega arith }
