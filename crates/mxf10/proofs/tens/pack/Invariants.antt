-- The bytes of the words that are left, stored behind those of k threes, give the whole.
use Rattle.std.proofs.Common.{◌≡◌, ◌*◌, drop}
use Rattle.std.proofs.lemmas.List.Edits.{sets}
use Rattle.mxf10.specs.Element.{tens}
use Rattle.mxf10.proofs.tens.pack.Given as goal

abbrev pub invariant-loop-k : goal.invariant-loop-k
invariant-loop-k l = sets l.out (4 * l.k) (tens (drop (3 * l.k) l.ws)) ≡ tens l.ws
