-- What was written, and behind it what the carriers that are left carry, are the bytes that stood before `to` and what all of them carry.
use Rattle.std.proofs.Common.{◌-◌}
use Rattle.unpacking1.proofs.Packet.{Carrying}
use Rattle.unpacking1.proofs.open_carriers.Given as goal

abbrev pub invariant-loop-read : goal.invariant-loop-read
invariant-loop-read l = Carrying l.fn.us l.us l.from l.stop l.to l.read l.written

-- the bytes left
abbrev pub decreases-loop-read : goal.decreases-loop-read
decreases-loop-read l = l.stop - l.read
