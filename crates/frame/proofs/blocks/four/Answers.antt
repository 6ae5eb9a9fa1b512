-- `frame::blocks::four`: the block of each channel, one after the other.
-- Assumes nothing.
use Rattle.frame.specs.Moves.{four}
use Rattle.frame.proofs.blocks.four.Goals as goal

pub returns : goal.returns
unfolding four
returns g c = cc
