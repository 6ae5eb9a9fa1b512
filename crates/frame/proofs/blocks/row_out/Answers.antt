-- `frame::blocks::row_out`: the six blocks of a row, one after the other.
-- Assumes nothing.
use Rattle.frame.specs.Moves.{row_out}
use Rattle.frame.proofs.Moves.{moved-append}
use Rattle.frame.proofs.blocks.row_out.Goals as goal

pub returns : goal.returns
unfolding row_out
returns c = simp moved-append cc
