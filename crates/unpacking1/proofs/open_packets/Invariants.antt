-- The packets before packet k stand as a string in front, and what is read from the place on is the rest, in order where all is.
use Rattle.std.proofs.Common.{◌-◌}
use Rattle.unpacking1.proofs.Laws.{Opening}
use Rattle.unpacking1.proofs.open_packets.Given as goal

abbrev pub invariant-loop-last : goal.invariant-loop-last
invariant-loop-last l = Opening l.last.0 l.fn.us l.us l.total l.read l.written l.packets

-- what is left
abbrev pub decreases-loop-last : goal.decreases-loop-last
decreases-loop-last l = l.total - l.read
