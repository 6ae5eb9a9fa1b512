-- What is left of the sections, laid behind what is laid, gives the whole. Assumes nothing.
use Rattle.std.proofs.Common.{◌≡◌, ◌≤◌, length}
use Rattle.mxf.proofs.Writers.{Structures}
use Rattle.mxf.proofs.writing.put_structures.Given as goal

abbrev pub invariant-loop-k : goal.invariant-loop-k
invariant-loop-k g l =
    (l.at ≤ length l.ws) × (length l.out ≡ length l.fn.out) × Structures g.S.Samples.writer l.system l.fi l.ls l.ws l.out l.k l.at l.o
