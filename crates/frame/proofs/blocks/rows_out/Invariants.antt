-- `frame::blocks::rows_out`: the rows that are left give the whole.
-- Assumes nothing.
use Rattle.frame.specs.Moves.{moved, row_out, rows_out}
use Rattle.frame.proofs.Moves.{Rest}
use Rattle.frame.proofs.blocks.rows_out.Given as goal

abbrev pub invariant-loop-h : goal.invariant-loop-h
invariant-loop-h l = Rest (row_out l.step) 480 1560 l.rows l.h l.area l.us (moved (rows_out l.step 0 0 l.rows) l.area l.fn.us)
