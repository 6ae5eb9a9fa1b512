-- The words of the packets before `at` are written, o of them, and with those of the structures from `at` on they are all. Assumes nothing.
use Rattle.mxf.specs.Parts.{Shown}
use Rattle.mxf.proofs.ReadingLaws.{Wording}
use Rattle.mxf.proofs.reading.write_packets.Given as goal

abbrev pub invariant-loop-k : goal.invariant-loop-k
invariant-loop-k g l =
    (t : Shown g.S.Samples.writer.coding l.n l.s l.fn.out) → Wording g.S.Samples.writer.coding t.sys t.fi l.n l.s l.out l.k l.at l.o
