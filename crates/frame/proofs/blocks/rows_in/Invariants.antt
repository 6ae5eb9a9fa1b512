-- `frame::blocks::rows_in`: the rows that are left give the whole.
-- Assumes nothing.
use Rattle.frame.specs.Moves.{moved, row_in, rows_in}
use Rattle.frame.proofs.Moves.{Rest}
use Rattle.frame.proofs.blocks.rows_in.Given as goal

abbrev pub invariant-loop-h : goal.invariant-loop-h
invariant-loop-h l = Rest (row_in l.step) 1560 480 l.rows l.h l.us l.area (moved (rows_in l.step 0 0 l.rows) l.us l.fn.area)
