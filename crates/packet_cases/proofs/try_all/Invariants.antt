-- `packet_cases::try_all` is safe and ends: a packet has at most 262 words, and the text left is shorter by a word at each turn.
use Rattle.std.proofs.Common.{◌≡◌, ◌-◌, ◌≤◌, length}
use Rattle.packet_cases.proofs.try_all.Given as goal

abbrev pub invariant-loop-at : goal.invariant-loop-at
invariant-loop-at l = (length l.ws ≡ 262) × (l.k ≤ 262) × (l.at ≤ length l.text)

abbrev pub decreases-loop-at : goal.decreases-loop-at
decreases-loop-at l = length l.text - l.at
