-- Eight packs three times, each eight behind those before. Assumes nothing.
use Rattle.packing2.proofs.UnlongLaws.{row-down}
use Rattle.packing2.proofs.unlong.pull_row.Goals as goal

pub returns : goal.returns
returns c = row-down _ _ _ c.eight.ensures c.eight-2.ensures c.eight-3.ensures
