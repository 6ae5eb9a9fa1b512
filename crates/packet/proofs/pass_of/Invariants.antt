-- What is found so far, joined with what the words from here on give, is what all of them give; and the sum so far is at most 511 for each word.
use Prim.Native.Nat.{◌+◌, ◌*◌, ◌≤◌}
use mathlib.Core.Path.{◌≡◌}
use mathlib.Core.Bool.{◌&&◌}
use lib.ListN.{drop}
use Rattle.rules.specs.Packet.{sum9}
use Rattle.rules.specs.Laying.{are_words}
use Rattle.packet.proofs.pass_of.Given as goal

abbrev pub invariant-loop-w : goal.invariant-loop-w
invariant-loop-w l =
    record {
      few : l.sum ≤ 511 * l.w-index;
      words : (l.ok && are_words (drop l.w-index l.ws)) ≡ are_words l.ws;
      sum : l.sum + sum9 (drop l.w-index l.ws) ≡ sum9 l.ws;
    }
