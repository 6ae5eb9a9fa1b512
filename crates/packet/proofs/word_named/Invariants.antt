-- So many packets are behind.
use Prim.Native.Nat.{◌≤◌}
use mathlib.Core.Path.{◌≡◌}
use lib.ListN.{length, drop}
use Rattle.rules.specs.Laying.{from_packet}
use Rattle.packet.proofs.word_named.Given as goal

abbrev pub invariant-loop : goal.invariant-loop
invariant-loop l = record { within : l.at ≤ length l.ws; place : from_packet l.counter l.ws ≡ drop l.at l.ws }
