-- The bytes left fall at each call.
use Rattle.std.proofs.Common.{◌-◌}
use Rattle.danc.proofs.+packets_from.Given as goal

abbrev pub decreases-packets_from : goal.decreases-packets_from
decreases-packets_from l = l.end - l.run.end
