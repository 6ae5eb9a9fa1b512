-- A carrier that is passed leaves the order as it was.
use Rattle.std.proofs.Common.{◌-◌}
use Rattle.unpacking1.specs.Open.{SameOrder}
use Rattle.unpacking1.proofs.carriers_end.Given as goal

abbrev pub invariant-loop-end : goal.invariant-loop-end
invariant-loop-end l = SameOrder l.us l.at l.total l.end

-- the bytes left
abbrev pub decreases-loop-end : goal.decreases-loop-end
decreases-loop-end l = l.total - l.end
