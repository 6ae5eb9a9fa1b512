-- The bytes in front of i are the key's, so what the rest of the key says is what all of it says. Assumes nothing.
use Rattle.std.proofs.Common.{◌≡◌, ◌≤◌, length, drop}
use Rattle.rules.specs.Numbers.{Outcome}
use Rattle.mxf.specs.Element.{key}
use Rattle.mxf.specs.Judging.{key_then}
use Rattle.mxf.proofs.judging.key_fault.Given as goal

abbrev pub invariant-loop-i : goal.invariant-loop-i
invariant-loop-i l = (l.i ≤ length l.e) × ((o : Outcome) → key_then 0 key l.e o ≡ key_then l.i (drop l.i key) l.e o)
