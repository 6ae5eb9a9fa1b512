-- The locations of the packets before `at` are written, and with those of the packets from `at` on they are all.
use Rattle.std.proofs.Common.{◌≡◌, ◌*◌, length}
use Rattle.sheet.proofs.write.Written.{Locating}
use Rattle.sheet.proofs.write.write_locations.Given as goal

abbrev pub invariant-loop-k : goal.invariant-loop-k
invariant-loop-k l = (length l.out ≡ length l.initial.out) × Locating l.s l.out l.at (2 * l.k)
