-- DC, and the sum.
use Rattle.danc.proofs.Laws.{cs-tested}
use Rattle.danc.proofs.is_cs_right.Goals as goal

pub returns : goal.returns
returns c =
    let sum = rw (c.from.ensures, c.from-2.ensures) at c.sum_onto-sum.ensures in
    cs-tested _ c.requires _ _ c.wide-end.ensures.0 sum
