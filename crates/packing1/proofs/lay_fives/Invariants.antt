-- For every list of the sections: what is left, laid behind what is laid, gives the whole.
use Rattle.std.proofs.Common.{◌≤◌, length}
use Rattle.std.specs.Slice.Iter.{chunks_exact_rest, chunks_exact_size}
use Rattle.sections.proofs.Laws.{PairsLeft}
use Rattle.packing1.proofs.Laws.{FivesSoFar}
use Rattle.packing1.proofs.lay_fives.Given as goal

abbrev pub invariant-loop-pair : goal.invariant-loop-pair
invariant-loop-pair l =
    (l.at ≤ length l.ws)
    × PairsLeft l.ls (chunks_exact_rest l.pair-iterator) (chunks_exact_size l.pair-iterator) (λ k. FivesSoFar l.ls l.ws l.initial.us l.us k l.at l.o)
