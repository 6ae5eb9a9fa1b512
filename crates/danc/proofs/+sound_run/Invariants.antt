-- The bytes left fall at each call.
use Rattle.std.proofs.Common.{◌-◌}
use Rattle.danc.proofs.+sound_run.Given as goal

abbrev pub decreases-sound_run : goal.decreases-sound_run
decreases-sound_run l = l.end - l.run.end
