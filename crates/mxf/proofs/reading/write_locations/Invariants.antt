-- The locations of the packets before `at` are written. Assumes nothing.
use Rattle.mxf.proofs.ReadingLaws.{Locating}
use Rattle.mxf.proofs.reading.write_locations.Given as goal

abbrev pub invariant-loop-k : goal.invariant-loop-k
invariant-loop-k g l = Locating g.S.Samples.writer.coding l.system l.fi l.n l.s l.out l.k l.at
