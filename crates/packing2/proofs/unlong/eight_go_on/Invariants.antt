-- What is found so far, joined with what the packs still to come give, is what all eight give. Assumes nothing.
use Rattle.std.proofs.Common.{◌≡◌, ◌+◌, ◌-◌, ◌*◌, ◌&&◌, drop, replicate}
use Rattle.packing2.specs.Unlong.{go_on}
use Rattle.packing2.proofs.unlong.eight_go_on.Given as goal

abbrev pub invariant-loop-i : goal.invariant-loop-i
invariant-loop-i l = (l.ok && go_on (replicate (8 - l.i) l.size) (drop (l.at + l.size * l.i) l.us)) ≡ go_on (replicate 8 l.size) (drop l.at l.us)
