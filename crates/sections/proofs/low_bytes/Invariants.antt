-- The bytes that are left, stored from i on, give the whole.
use Rattle.std.proofs.Common.{◌≡◌, map, drop}
use Rattle.std.proofs.lemmas.List.Edits.{sets}
use Rattle.rules.specs.Laying.{low}
use Rattle.sections.proofs.low_bytes.Given as goal

abbrev pub invariant-loop-i : goal.invariant-loop-i
invariant-loop-i l = sets l.s l.i (map low (drop l.i l.ws)) ≡ sets l.initial.s 0 (map low l.ws)
