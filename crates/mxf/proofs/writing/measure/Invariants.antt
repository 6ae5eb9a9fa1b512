-- What is left of the sections, measured with what is measured, gives the whole. Assumes nothing.
use Rattle.std.proofs.Common.{◌≤◌, length}
use Rattle.mxf.proofs.Writers.{Measuring}
use Rattle.mxf.proofs.writing.measure.Given as goal

abbrev pub invariant-loop-k : goal.invariant-loop-k
invariant-loop-k g l =
    (l.at ≤ length l.ws) × Measuring g.S.Samples.writer l.system l.fi l.ls l.ws l.k l.at l.packets l.bytes
