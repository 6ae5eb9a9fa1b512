-- What is stored, and behind it the samples that are left, are all of them. Assumes nothing.
use Rattle.std.proofs.Common.{◌≡◌, map, drop}
use Rattle.std.proofs.lemmas.List.Edits.{sets}
use Rattle.rules.specs.Laying.{low}
use Rattle.mxf.proofs.samples.EightSamples.put_samples.Given as goal

abbrev pub invariant-loop-i : goal.invariant-loop-i
invariant-loop-i l = sets l.out l.i (map low (drop l.i l.ws)) ≡ map low l.ws
