-- What is left of the eight, pulled down, gives the whole. Assumes nothing.
use Rattle.std.proofs.Common.{◌≡◌, ◌+◌, ◌-◌, ◌*◌, replicate}
use Rattle.packing2.specs.Unlong.{pulled_down}
use Rattle.packing2.proofs.unlong.eight.Given as goal

abbrev pub invariant-loop-i : goal.invariant-loop-i
invariant-loop-i g l =
    pulled_down (replicate (8 - l.i) (g.row.N + 3)) l.us (l.from + (g.row.N + 3) * l.i) (l.to + g.row.N * l.i)
    ≡ pulled_down (replicate 8 (g.row.N + 3)) l.initial.us l.from l.to
