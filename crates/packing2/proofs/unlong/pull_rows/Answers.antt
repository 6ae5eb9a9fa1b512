-- A row that goes on, pulled down. Assumes nothing.
use Rattle.std.proofs.Common.{sym, ◌∙◌, arith}
use Rattle.packing2.proofs.UnlongLaws.{row-turn}
use Rattle.packing2.proofs.unlong.pull_rows.Goals as goal

pub loop-r-preserved : goal.loop-r-preserved
loop-r-preserved c =
    row-turn c.args.rows c.loop-r.r c.loop-r.us (omega arith) (omega arith)
    (sym c.row_goes_on.ensures ∙ c.if-not-row_goes_on.false) c.pull_row.ensures ∙ c.loop-r.invariant
