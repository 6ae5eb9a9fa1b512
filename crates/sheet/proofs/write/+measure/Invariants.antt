-- The measure is the number of bytes before `stop`.
use Rattle.std.proofs.Common.{◌-◌}
use Rattle.sheet.proofs.write.+measure.Given as goal

abbrev pub decreases-measure : goal.decreases-measure
decreases-measure l = l.stop - l.at
