-- Runs of stores, one behind the other. Assumes nothing.
use Rattle.mxf.proofs.WritingLaws.{fields-put}
use Rattle.mxf.proofs.writing.put_fields.Goals as goal

pub returns : goal.returns
returns c =
    let a = c.args in
    fields-put a.line.0 a.wrapping a.coding a.samples a.array a.out.now c.ranges.array.fits c.put_two.ensures c.put_two-2.ensures
    c.put_two-3.ensures c.put_two-4.ensures c.put_two-5.ensures c.put_two-6.ensures
