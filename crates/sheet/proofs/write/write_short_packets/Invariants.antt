-- The words of the packets before `at` are written, and with those of the packets from `at` on they are all. The measure is the number of bytes left.
use Rattle.std.proofs.Common.{◌-◌, length}
use Rattle.sheet.proofs.write.Written.{Wording}
use Rattle.sheet.proofs.write.write_short_packets.Given as goal

abbrev pub invariant-loop-at : goal.invariant-loop-at
invariant-loop-at l = Wording l.s l.out l.at

abbrev pub decreases-loop-at : goal.decreases-loop-at
decreases-loop-at l = length l.s - l.at
