-- A row more, and those behind it. Assumes nothing.
use Rattle.std.proofs.Common.{arith}
use Rattle.packing2.proofs.LongLaws.{rows-turn}
use Rattle.packing2.proofs.long.lay_rows.Goals as goal

pub loop-row-preserved : goal.loop-row-preserved
loop-row-preserved c = record {
  same_length = omega arith;
  left = λ whole w. c.loop-row.invariant.left whole (rows-turn c.args.rows c.loop-row.row c.loop-row-test.true c.lay_or_fill.ensures w);
}
