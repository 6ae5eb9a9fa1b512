-- What the words from here on tell, with the packets so far, is what all of them tell. A packet has at least 7 words and more words than packs, so
-- that no sum wraps.
use Prim.Native.Nat.{◌+◌, ◌-◌, ◌*◌, ◌≤◌}
use mathlib.Core.Path.{◌≡◌}
use lib.ListN.{length, drop}
use Rattle.rules.specs.Laying.{from_packet}
use Rattle.packet.proofs.Row.{whole_from, told_packets}
use Rattle.packet.proofs.packets.Given as goal

abbrev pub invariant-loop-dc : goal.invariant-loop-dc
invariant-loop-dc g l =
    record {
      within : l.at ≤ length l.ws;
      few : l.packs + 2 * l.packets ≤ l.at;
      place : from_packet l.packets l.ws ≡ drop l.at l.ws;
      whole :
          whole_from g.T.WordTests.fault g.T.WordTests.packet g.T.WordTests.word l.packets l.at (l.packs + 2 * l.packets) l.ws
          ≡ told_packets g.T.WordTests.fault g.T.WordTests.packet g.T.WordTests.word l.ws;
    }

abbrev pub decreases-loop-dc : goal.decreases-loop-dc
decreases-loop-dc g l = length l.ws - l.at
