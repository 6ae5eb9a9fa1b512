-- The bytes left fall at each call.
use Rattle.std.proofs.Common.{◌-◌}
use Rattle.unpacking1.proofs.+carrier_starter.Given as goal

abbrev pub decreases-starter : goal.decreases-starter
decreases-starter l = l.total - l.at

abbrev pub decreases-carrier : goal.decreases-carrier
decreases-carrier l = l.total - l.at
