-- For each packing the room, and then the list. Assumes nothing.
use Rattle.vanc.proofs.LayLaws.{full1, done1, roomy1, full2, done2, roomy2}
use Rattle.vanc.proofs.laying.lay_list.Goals as goal

pub returns-then-counts-figures : goal.returns-then-counts-figures
returns-then-counts-figures c =
    rw c.in-Fives.is (full1 c.args.header _ _ c.args.figures c.requires.1 c.refused.result c.if-counts-figures.true c.refused.ensures)

pub lay1-requires : goal.lay1-requires
lay1-requires c =
    roomy1 c.args.header _ c.requires.0 c.args.figures c.requires.1 c.section_b-ls.ensures c.section_c-ws.ensures c.if-counts-figures.false

pub returns-else-counts-figures : goal.returns-else-counts-figures
returns-else-counts-figures c =
    rw c.in-Fives.is
    (done1 c.args.header _ _ c.args.figures c.requires.1 c.section_b-ls.ensures c.section_c-ws.ensures _ _ c.if-counts-figures.false
    c.lay1.ensures c.success.ensures)

pub returns-then-counts-figures-2 : goal.returns-then-counts-figures-2
returns-then-counts-figures-2 c =
    rw c.in-Long.is
    (full2 c.args.header _ _ c.args.figures c.requires.1 c.refused-then-counts-figures-2.result c.if-counts-figures-2.true
    c.refused-then-counts-figures-2.ensures)

pub lay2-requires : goal.lay2-requires
lay2-requires c =
    roomy2 c.args.header _ c.requires.0 c.args.figures c.requires.1 c.section_b-ls.ensures c.section_c-ws.ensures c.if-counts-figures-2.false

pub returns-else-counts-figures-2 : goal.returns-else-counts-figures-2
returns-else-counts-figures-2 c =
    rw c.in-Long.is
    (done2 c.args.header _ _ c.args.figures c.requires.1 c.section_b-ls.ensures c.section_c-ws.ensures _ _ _ c.if-counts-figures-2.false
    c.lay2.ensures c.long_count.ensures c.success-in-Long.ensures)
