-- `frame::blocks::rows_in`: a turn moves one row.
-- Assumes nothing.
use Rattle.frame.specs.Moves.{row_in}
use Rattle.frame.proofs.Moves.{rows_start, rows-turn, rows_end}
use Rattle.frame.proofs.blocks.rows_in.Goals as goal

pub loop-h-init : goal.loop-h-init
loop-h-init c = rows_start (row_in c.args.step) 1560 480 c.args.rows c.args.us.now c.args.area.now

pub loop-h-preserved : goal.loop-h-preserved
loop-h-preserved c =
    rows-turn (row_in c.args.step) 1560 480 _ _ _ _ _ _ c.loop-h-test.true c.loop-h.invariant c.row_in.ensures

pub returns : goal.returns
returns c = rows_end (row_in c.args.step) 1560 480 _ _ _ _ _ c.loop-h-test.false c.loop-h.invariant
