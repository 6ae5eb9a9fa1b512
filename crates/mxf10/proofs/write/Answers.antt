-- The contract follows from what writing of these samples gives. Assumes nothing.
use Rattle.mxf10.proofs.WritingLaws.{writes}
use Rattle.mxf10.proofs.write.Goals as goal

pub returns : goal.returns
returns c =
    let a = c.args in
    rw c.tell_written.ensures
    (writes a.fi a.sheet.now a.element.now _ _ (λ i. (c.type_inv.sheet i).fits) c.write_sheet.ensures)
