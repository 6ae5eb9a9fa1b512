-- The packs over fill, spread. Assumes nothing.
use Rattle.vanc.proofs.LayLaws.{laid1}
use Rattle.vanc.proofs.laying.lay1.Goals as goal

pub returns : goal.returns
returns c = laid1 _ _ _ _ _ _ c.lay_fives.ensures c.spread.ensures.area_after
