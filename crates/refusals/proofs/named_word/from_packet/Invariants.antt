-- What is left of the words is no longer than they are.
use Prim.Native.Nat.{◌≤◌}
use lib.ListN.{length}
use Rattle.refusals.proofs.named_word.from_packet.Given as goal

abbrev pub invariant-loop : goal.invariant-loop
invariant-loop l = length l.left ≤ length l.words
