-- The lines of the packets before `at` are allowed. Assumes nothing.
use Rattle.mxf.specs.Parts.{Found}
use Rattle.mxf.proofs.ReadingLaws.{Allowing}
use Rattle.mxf.proofs.reading.allowed.Given as goal

abbrev pub invariant-loop-k : goal.invariant-loop-k
invariant-loop-k l = (t : Found l.n l.s) → Allowing t.coding t.sys t.fi l.n l.s l.last.0 l.k l.at
