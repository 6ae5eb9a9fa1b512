-- The words of the packets before `at` are written, and with those of the packets from `at` on they are all; behind them the words of the bytes
-- stand. The measure is the number of bytes left.
use Rattle.std.proofs.Common.{◌≡◌, ◌-◌, map, length, drop}
use Rattle.rules.specs.Packet.{word}
use Rattle.sheet.proofs.write.Written.{Wording}
use Rattle.sheet.proofs.write.write_packets.Given as goal

abbrev pub invariant-loop-at : goal.invariant-loop-at
invariant-loop-at l = Wording l.s l.out l.at × (drop l.at l.out ≡ map word (drop l.at l.s))

abbrev pub decreases-loop-at : goal.decreases-loop-at
decreases-loop-at l = length l.s - l.at
