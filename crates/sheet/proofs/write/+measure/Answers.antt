-- No packet is read here, or one is passed over. Assumes nothing.
use Rattle.std.proofs.Common.{◌∙◌, arith}
use Rattle.sheet.proofs.WriteLaws.{measure-end, measure-more}
use Rattle.sheet.proofs.write.+measure.Goals as goal

pub returns-then-stop-at : goal.returns-then-stop-at
returns-then-stop-at t c =
    c.measured.ensures ∙ measure-end c.args.us.now c.args.end c.args.at c.args.k (omega arith) (omega arith)

pub returns : goal.returns
returns t c =
    c.measure.ensures
    ∙ measure-more c.args.us.now c.args.end c.args.at c.args.k (omega arith) c.wide.result c.wide.ensures.0 (omega arith)
