-- What the structures from here on give, with the packets and sheet numbers so far, is what all of them give. A structure has more bytes than its
-- packet has sheet numbers, so no sum wraps. Assumes nothing.
use Rattle.mxf.specs.Parts.{Begun}
use Rattle.mxf.proofs.judging.judge_structures.Given as goal

abbrev pub invariant-loop-k : goal.invariant-loop-k
invariant-loop-k g l = Begun g.S.Samples.writer.coding l.system l.last.0 l.n l.s l.k l.at l.numbers
