-- The packets in front of the place are within the profile, whatever sound list the words are of. The place may be past the last word, by a packet
-- at most.
use Prim.Native.Nat.{◌+◌, ◌-◌, ◌≤◌}
use lib.ListN.{length}
use Rattle.profile.proofs.Searching.{SoFar}
use Rattle.profile.proofs.first_outside.Given as goal

abbrev pub invariant-loop-at : goal.invariant-loop-at
invariant-loop-at l = record { near : l.at ≤ length l.ws + 262; few : l.k ≤ l.at; so : SoFar l.ws l.at l.k }

abbrev pub decreases-loop-at : goal.decreases-loop-at
decreases-loop-at l = length l.ws + 262 - l.at
