-- The string over fill, and its long packs into the area. Assumes nothing.
use Rattle.vanc.proofs.LayLaws.{laid2}
use Rattle.vanc.proofs.laying.lay2.Goals as goal

pub returns : goal.returns
returns c = laid2 _ _ _ _ _ _ c.string_of.ensures c.lay_long.ensures.area_after
