-- A row is three times eight packs, tested in order. Assumes nothing.
use Rattle.std.proofs.Common.{sym, ◌∙◌}
use Rattle.packing2.proofs.UnlongLaws.{row-tested}
use Rattle.packing2.proofs.unlong.row_goes_on.Goals as goal

pub returns-then-not-eight_go_on : goal.returns-then-not-eight_go_on
returns-then-not-eight_go_on c =
    sym (row-tested c.args.us.now c.args.at ∙ rw (← c.eight_go_on.ensures, c.if-not-eight_go_on.true))

pub returns-then-not-eight_go_on-2 : goal.returns-then-not-eight_go_on-2
returns-then-not-eight_go_on-2 c =
    sym (row-tested c.args.us.now c.args.at
    ∙ rw (← c.eight_go_on.ensures, c.if-not-eight_go_on.false, ← c.eight_go_on-2.ensures, c.if-not-eight_go_on-2.true))

pub returns : goal.returns
returns c =
    c.eight_go_on-3.ensures
    ∙ sym (row-tested c.args.us.now c.args.at
    ∙ rw (← c.eight_go_on.ensures, c.if-not-eight_go_on.false, ← c.eight_go_on-2.ensures, c.if-not-eight_go_on-2.false))
