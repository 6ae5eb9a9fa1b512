-- `frame::blocks::row_in`: the six blocks of a row, one after the other.
-- Assumes nothing.
use Rattle.frame.specs.Moves.{row_in}
use Rattle.frame.proofs.Moves.{moved-append}
use Rattle.frame.proofs.blocks.row_in.Goals as goal

pub returns : goal.returns
unfolding row_in
returns c = simp moved-append cc
