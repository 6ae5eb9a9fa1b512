-- With the right table, what the words from here on give is what all of them give, and the sum so far is that of the words before.
use Prim.Native.Nat.{◌+◌, ◌*◌, ◌≤◌}
use mathlib.Core.Path.{◌≡◌}
use lib.ListN.{drop}
use Rattle.rules.specs.Packet.{sum9}
use Rattle.rules.specs.Laying.{are_words}
use Rattle.packet.specs.Run.{word_table}
use Rattle.packet.proofs.looked_up.Given as goal

abbrev pub invariant-loop-w : goal.invariant-loop-w
invariant-loop-w l =
    record {
      few : l.total ≤ 511 * l.w-index;
      sum : l.total + sum9 (drop l.w-index l.ws) ≡ sum9 l.ws;
      words : l.table ≡ word_table → are_words (drop l.w-index l.ws) ≡ are_words l.ws;
    }
