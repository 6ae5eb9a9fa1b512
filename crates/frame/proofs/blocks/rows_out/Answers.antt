-- `frame::blocks::rows_out`: a turn moves one row.
-- Assumes nothing.
use Rattle.frame.specs.Moves.{row_out}
use Rattle.frame.proofs.Moves.{rows_start, rows-turn, rows_end}
use Rattle.frame.proofs.blocks.rows_out.Goals as goal

pub loop-h-init : goal.loop-h-init
loop-h-init c = rows_start (row_out c.args.step) 480 1560 c.args.rows c.args.area.now c.args.us.now

pub loop-h-preserved : goal.loop-h-preserved
loop-h-preserved c =
    rows-turn (row_out c.args.step) 480 1560 _ _ _ _ _ _ c.loop-h-test.true c.loop-h.invariant c.row_out.ensures

pub returns : goal.returns
returns c = rows_end (row_out c.args.step) 480 1560 _ _ _ _ _ c.loop-h-test.false c.loop-h.invariant
