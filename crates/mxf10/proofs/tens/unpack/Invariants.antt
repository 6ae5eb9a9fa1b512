-- The samples of the bytes that are left, stored behind k threes, give the whole.
use Rattle.std.proofs.Common.{◌≡◌, ◌*◌, ◌-◌, length, take, drop}
use Rattle.std.proofs.lemmas.List.Edits.{sets}
use Rattle.mxf.specs.Judging.{samples_in}
use Rattle.mxf10.proofs.tens.unpack.Given as goal

abbrev pub invariant-loop-k : goal.invariant-loop-k
invariant-loop-k l =
    sets l.out (3 * l.k) (take (length l.initial.out - 3 * l.k) (samples_in (drop (4 * l.k) l.s)))
    ≡ take (length l.initial.out) (samples_in l.s)
