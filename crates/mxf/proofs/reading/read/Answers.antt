-- The contract follows from what reading of these samples gives. Assumes nothing.
use Rattle.mxf.proofs.ReadingLaws.{answered}
use Rattle.mxf.proofs.reading.read.Goals as goal

pub returns : goal.returns
returns c =
    let a = c.args in
    rw c.tell_read.ensures
    (answered a.system a.fi a.element.now a.sheet.now _ _ (λ i. (c.type_inv.element i).fits) c.read_sheet.ensures)
