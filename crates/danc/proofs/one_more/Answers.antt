-- The limit on packets.
use Rattle.std.proofs.Common.{arith}
use Rattle.rules.specs.Sheet.{limit}
use Rattle.danc.proofs.one_more.Goals as goal

pub overflow_add-result : goal.overflow_add-result
unfolding limit
overflow_add-result c = omega (arith, c.requires.0)
