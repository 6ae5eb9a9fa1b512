-- Two stores in a row are a run of stores. Assumes nothing.
use Rattle.std.proofs.Common.{add-one}
use Rattle.mxf.proofs.writing.put_two.Goals as goal

pub returns : goal.returns
returns c = simp add-one
