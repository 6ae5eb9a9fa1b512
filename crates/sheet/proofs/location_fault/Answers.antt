-- 6, or else 20.
use Rattle.sheet.proofs.Laws.{out_of_range, not-allowed}
use Rattle.sheet.proofs.location_fault.Goals as goal

pub returns-then-first-p : goal.returns-then-first-p
returns-then-first-p c y e q d o =
    out_of_range y c.args.p c.args.ls.now c.requires o c.refused.result c.standing-first.result (c.standing-first.ensures y e) c.refused.ensures
    c.if-first-p.true

pub returns : goal.returns
returns c y e q d o =
    not-allowed y c.args.p c.args.ls.now c.requires o c.refused-2.result c.standing-first.result (c.standing-first.ensures y e) c.args.k
    c.refused-2.ensures c.if-first-p.false q d
